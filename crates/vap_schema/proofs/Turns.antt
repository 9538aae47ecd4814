-- One turn of the walks over items, over a map's members and over an object's.
use Rattle.std.proofs.Common.{◌≡◌, ℕ, ◌+◌, ◌<◌, ◌≤◌, List, [], ◌∷◌, ◌++◌, length, get_or}
use Rattle.std.proofs.Common.{drop, Option, Result, Ok, Err, refl, ap, sym, ◌∙◌, Bor, rules}
use Rattle.std.specs.Prelude.{option_to_list, IsTrue}
use Rattle.std.specs.List.{list_all}
use Rattle.std.proofs.lemmas.Bool.{and_from}
use Rattle.std.proofs.lemmas.List.{drop_more, drop_all}
use Rattle.std.proofs.lemmas.List.Folds.{list_all-append}
use Rattle.base_containers.specs.Failures.{Answers}
use Rattle.base_containers.specs.declared.failed.Failed.{Failed}
use Rattle.base_containers.specs.declared.text.Keyed.{Keyed}
use Rattle.base_containers.specs.Keys.{value_under}
use Rattle.serde_json.specs.Data.{Data, item, Members, member}
use Rattle.base_containers.specs.Gathered.{items_of}
use Rattle.cel_value.specs.declared.value.Value.{Value}
use Rattle.cel_value.specs.declared.cel_type.Field.{Field}
use Rattle.vap_schema.specs.Paths.{path_text, at_field, at_item}
use Rattle.vap_schema.specs.declared.path.Path as path
use Rattle.vap_schema.specs.Seen.{◌>>=◌, Reader, Reading, seen_items, seen_entry, seen_entries, seen_member, seen_members}
use Rattle.vap_schema.specs.declared.fit_fault.FitFault.{FitFault}
use Rattle.vap_schema.proofs.Rest.{behind, behind-all, behind-append, behind-push, stops_behind}

pub path_text-Item : (above : Bor path.Path) (place : ℕ) → path_text (path.Item above place) ≡ at_item (path_text above.now) place
path_text-Item above place = search (rules, path.the_lemmas)

pub path_text-Field : (above : Bor path.Path) (name : Bor (List ℕ))
    → path_text (path.Field above name) ≡ at_field (path_text above.now) name.now
path_text-Field above name = search (rules, path.the_lemmas)

pub all_push : {X : Type 0} (p : X → _) (xs : List X) (x : X) → IsTrue (list_all p xs) → IsTrue (p x)
    → IsTrue (list_all p (xs ++ x ∷ []))
all_push p xs x h here = list_all-append p xs (x ∷ []) ∙ and_from _ _ h (and_from _ _ here refl)

-- ---- items

next_item : (here : Reading) (path : List ℕ) (items : List Data) (place : ℕ) (d : Data) → place < length items
    → d ≡ get_or items place d
    → seen_items here path place (items_of (drop place items))
    ≡ seen_items here path place (item d (items_of (drop (place + 1) items)))
next_item here path items place d h is =
    ap (λ xs. seen_items here path place (items_of xs)) (drop_more items place d h)
    ∙ ap (λ x. seen_items here path place (item x (items_of (drop (place + 1) items)))) (sym is)

pub items_stop : (here : Reading) (path : List ℕ) (items : List Data) (place : ℕ) (d : Data) (done : List Value)
    (whole : Result (List Value) FitFault) (e : Failed FitFault)
    → place < length items → d ≡ get_or items place d
    → whole ≡ behind done (seen_items here path place (items_of (drop place items)))
    → Answers (here (at_item path place) d) (Err e) → Answers whole (Err e)
items_stop here path items place d done whole e h is read a =
    stops_behind done (here (at_item path place) d)
    (λ v. seen_items here path (place + 1) (items_of (drop (place + 1) items)) >>= (λ vs. Ok (v ∷ vs))) whole e
    (read ∙ ap (behind done) (next_item here path items place d h is)) a

pub items_go : (here : Reading) (path : List ℕ) (items : List Data) (place : ℕ) (d : Data) (v : Value) (done : List Value)
    (whole : Result (List Value) FitFault)
    → place < length items → d ≡ get_or items place d
    → whole ≡ behind done (seen_items here path place (items_of (drop place items)))
    → here (at_item path place) d ≡ Ok v
    → whole ≡ behind (done ++ v ∷ []) (seen_items here path (place + 1) (items_of (drop (place + 1) items)))
items_go here path items place d v done whole h is read a =
    read ∙ ap (behind done) (next_item here path items place d h is)
    ∙ ap
    (λ r. behind done (r >>= (λ v. seen_items here path (place + 1) (items_of (drop (place + 1) items)) >>= (λ vs. Ok (v ∷ vs))))) a
    ∙ behind-push done v (seen_items here path (place + 1) (items_of (drop (place + 1) items)))

pub items_end : (here : Reading) (path : List ℕ) (items : List Data) (place : ℕ) (done : List Value)
    (whole : Result (List Value) FitFault)
    → length items ≤ place → whole ≡ behind done (seen_items here path place (items_of (drop place items))) → whole ≡ Ok done
items_end here path items place done whole h read =
    read ∙ behind-all done _ (ap (λ xs. seen_items here path place (items_of xs)) (drop_all place items h))

-- ---- the members of a map

pub entries_stop : (here : Reading) (key_max : ℕ) (path k : List ℕ) (d : Data) (ms : Members) (done : List (Keyed Value))
    (whole : Result (List (Keyed Value)) FitFault) (e : Failed FitFault)
    → whole ≡ behind done (seen_entries here key_max path (member k d ms)) → Answers (seen_entry here key_max path k d) (Err e)
    → Answers whole (Err e)
entries_stop here key_max path k d ms done whole e read a =
    stops_behind done (seen_entry here key_max path k d) (λ x. seen_entries here key_max path ms >>= (λ es. Ok (x ∷ es))) whole e read a

pub entries_go : (here : Reading) (key_max : ℕ) (path k : List ℕ) (d : Data) (ms : Members) (x : Keyed Value)
    (done : List (Keyed Value)) (whole : Result (List (Keyed Value)) FitFault)
    → whole ≡ behind done (seen_entries here key_max path (member k d ms)) → seen_entry here key_max path k d ≡ Ok x
    → whole ≡ behind (done ++ x ∷ []) (seen_entries here key_max path ms)
entries_go here key_max path k d ms x done whole read a =
    read ∙ ap (λ r. behind done (r >>= (λ x. seen_entries here key_max path ms >>= (λ es. Ok (x ∷ es))))) a
    ∙ behind-push done x (seen_entries here key_max path ms)

-- ---- the members of an object

pub members_stop : (fields : List (Keyed (Field Reader))) (path k : List ℕ) (d : Data) (ms : Members) (done : List (Keyed Value))
    (whole : Result (List (Keyed Value)) FitFault) (e : Failed FitFault)
    → whole ≡ behind done (seen_members fields path (member k d ms)) → Answers (seen_member (value_under k fields) path k d) (Err e)
    → Answers whole (Err e)
members_stop fields path k d ms done whole e read a =
    stops_behind done (seen_member (value_under k fields) path k d)
    (λ o. seen_members fields path ms >>= (λ es. Ok (option_to_list o ++ es))) whole e read a

pub members_go : (fields : List (Keyed (Field Reader))) (path k : List ℕ) (d : Data) (ms : Members) (o : Option (Keyed Value))
    (done : List (Keyed Value)) (whole : Result (List (Keyed Value)) FitFault)
    → whole ≡ behind done (seen_members fields path (member k d ms)) → seen_member (value_under k fields) path k d ≡ Ok o
    → whole ≡ behind (done ++ option_to_list o) (seen_members fields path ms)
members_go fields path k d ms o done whole read a =
    read ∙ ap (λ r. behind done (r >>= (λ o. seen_members fields path ms >>= (λ es. Ok (option_to_list o ++ es))))) a
    ∙ sym (behind-append done (option_to_list o) (seen_members fields path ms))
