-- An object's members are read in step with the type's fields.
use Rattle.std.proofs.Common.{◌≡◌, ℕ, ◌+◌, Bool, true, false, List, [], ◌∷◌, ◌++◌, ◌<◌}
use Rattle.std.proofs.Common.{length, get_or, drop, cond, is_some, true≢false, Option, Some, None, Result}
use Rattle.std.proofs.Common.{Ok, Err, option_map, refl, ap, sym, subst, ◌∙◌, inl, inr}
use Rattle.std.specs.Prelude.{option_to_list}
use Rattle.std.specs.List.{AllByRecursion}
use Rattle.std.specs.Str.{bytes_eq}
use Rattle.std.specs.Ordering.{nat_cmp}
use Rattle.std.specs.Cmp.Lexicographic.{slice_cmp}
use Rattle.std.proofs.lemmas.Bool.{cases_Bool}
use Rattle.std.proofs.lemmas.List.{drop_more}
use Rattle.std.proofs.lemmas.Slice.Eq.{bytes_eq-Decides}
use Rattle.std.proofs.lemmas.Map.Keys.{sorted_head}
use Rattle.base_containers.specs.Failures.{Answers}
use Rattle.base_containers.specs.declared.failed.Failed.{Failed}
use Rattle.base_containers.specs.declared.text.Keyed.{Keyed}
use Rattle.base_containers.specs.Keys.{IsInKeyOrder, value_under}
use Rattle.base_containers.proofs.Order.{Below}
use Rattle.serde_json.specs.Data.{Data, Members, no_members, member}
use Rattle.cel_value.specs.declared.value.Value.{Value}
use Rattle.cel_value.specs.declared.cel_type.Field.{Field}
use Rattle.cel_value.specs.declared.cel_type.CelType.{CelType}
use Rattle.vap_schema.specs.InStep.{first_under, count_before}
use Rattle.vap_schema.specs.Seen.{◌>>=◌, field_reader, readers_of, seen_member, seen_members}
use Rattle.vap_schema.specs.declared.fit_fault.FitFault.{FitFault}
use Rattle.vap_schema.proofs.InStep.{rest_from, found_first, found_behind, order_behind, moved}
use Rattle.vap_schema.proofs.Ordered.{IsInOrder, names_in}
use Rattle.vap_schema.proofs.Rest.{behind}
use Rattle.vap_schema.proofs.Turns.{members_stop, members_go}

abbrev Fields : Type 0
Fields = List (Keyed (Field CelType))

reader_under : (k : List ℕ) (fields : Fields) → value_under k (readers_of fields) ≡ option_map field_reader (value_under k fields)
reader_under k [] = refl
reader_under k (f ∷ fields) = elim (cases_Bool (bytes_eq f.key k)) [
  | inl same ↦ rw same refl
  | inr other ↦ rw other (reader_under k fields)
]

reader_first : (k : List ℕ) (fields : Fields) → first_under k (readers_of fields) ≡ option_map field_reader (first_under k fields)
reader_first k [] = refl
reader_first k (f ∷ fields) = elim (cases_Bool (bytes_eq f.key k)) [
  | inl same ↦ rw same refl
  | inr other ↦ rw other refl
]

-- the field of a member is the first that is not before its name
reader_found : (k : List ℕ) (fields : Fields) → IsInKeyOrder fields
    → value_under k (readers_of fields) ≡ first_under k (readers_of (rest_from k fields))
reader_found k fields sorted =
    reader_under k fields ∙ ap (option_map field_reader) (found_first k fields sorted) ∙ sym (reader_first k (rest_from k fields))

reader_behind : (k g : List ℕ) (fields : Fields) → Below k g
    → value_under g (readers_of (rest_from k fields)) ≡ value_under g (readers_of fields)
reader_behind k g fields below =
    reader_under g (rest_from k fields) ∙ ap (option_map field_reader) (found_behind k g fields below) ∙ sym (reader_under g fields)

-- the fields of greater members are in the rest
members_behind : (k path : List ℕ) (fields : Fields) (ms : Members) → AllByRecursion (Below k) (names_in ms)
    → seen_members (readers_of (rest_from k fields)) path ms ≡ seen_members (readers_of fields) path ms
members_behind k path fields no_members h = refl
members_behind k path fields (member l d ms) h =
    ap
    (λ o. seen_member o path l d >>= (λ e. seen_members (readers_of (rest_from k fields)) path ms >>= (λ es. Ok (option_to_list e ++ es))))
    (reader_behind k l fields h.0)
    ∙ ap (λ r. seen_member (value_under l (readers_of fields)) path l d >>= (λ e. r >>= (λ es. Ok (option_to_list e ++ es))))
    (members_behind k path fields ms h.1)

-- one turn of the walk over the members: the name and the fields are as the code has them
module _ (fields listed : Fields) (path name k : List ℕ) (d : Data) (ms : Members) (from place : ℕ) (sorted : IsInKeyOrder fields)
    (named : name ≡ k) (same : listed ≡ fields) (at : place ≡ from + count_before name (drop from listed))
    (done : List (Keyed Value)) (whole : Result (List (Keyed Value)) FitFault)
    (read : whole ≡ behind done (seen_members (readers_of (drop from fields)) path (member k d ms))) where
  rest_here : drop place fields ≡ rest_from k (drop from fields)
  rest_here =
      moved k fields from place
      (at ∙ ap (λ n. from + count_before n (drop from listed)) named ∙ ap (λ (l : Fields). from + count_before k (drop from l)) same)

  first_is : seen_member (first_under name (readers_of (drop place fields))) path name d
      ≡ seen_member (value_under k (readers_of (drop from fields))) path k d
  first_is =
      ap (λ n. seen_member (first_under n (readers_of (drop place fields))) path n d) named
      ∙ ap (λ (l : Fields). seen_member (first_under k (readers_of l)) path k d) rest_here
      ∙ ap (λ o. seen_member o path k d) (sym (reader_found k (drop from fields) (order_behind from fields sorted)))

  pub step_stops : (e : Failed FitFault) → Answers (seen_member (first_under name (readers_of (drop place fields))) path name d) (Err e)
      → Answers whole (Err e)
  step_stops e a = members_stop (readers_of (drop from fields)) path k d ms done whole e read (subst (λ r. Answers r (Err e)) first_is a)

  pub step_goes : (o : Option (Keyed Value)) → IsInOrder (k ∷ names_in ms)
      → seen_member (first_under name (readers_of (drop place fields))) path name d ≡ Ok o
      → whole ≡ behind (done ++ option_to_list o) (seen_members (readers_of (drop place fields)) path ms)
  step_goes o ordered a =
      members_go (readers_of (drop from fields)) path k d ms o done whole read (sym first_is ∙ a)
      ∙ ap (behind (done ++ option_to_list o))
      (sym (members_behind k path (drop from fields) ms (sorted_head (slice_cmp nat_cmp) k (names_in ms) ordered))
      ∙ ap (λ (l : Fields). seen_members (readers_of l) path ms) (sym rest_here))

-- the field at a place, if its name was found there
module _ (fields : Fields) (place : ℕ) (name : List ℕ) (f : Keyed (Field CelType)) (lt : place < length fields)
    (is : f ≡ get_or fields place f) (known : is_some (first_under name (drop place fields)) ≡ true) where
  here : drop place fields ≡ f ∷ drop (place + 1) fields
  here = drop_more fields place f lt ∙ ap (λ x. x ∷ drop (place + 1) fields) (sym is)

  by_name : (b : Bool) → is_some (cond b (Some f.value) None) ≡ true → b ≡ true
  by_name true h = refl
  by_name false h = absurd (true≢false (sym h))

  same_name : bytes_eq f.key name ≡ true
  same_name = by_name (bytes_eq f.key name) (sym (ap (λ (l : Fields). is_some (first_under name l)) here) ∙ known)

  pub named_here : f.key ≡ name
  named_here = (bytes_eq-Decides f.key name).0 same_name

  pub field_here : first_under name (readers_of (drop place fields)) ≡ Some (field_reader f.value)
  field_here = ap (λ (l : Fields). first_under name (readers_of l)) here ∙ ap (λ b. cond b (Some (field_reader f.value)) None) same_name
