-- A document is a value of a type if its parts are values of the types inside.
use Rattle.std.proofs.Common.{◌≡◌, ◌≤◌, ◌+◌, ◌++◌, ◌&&◌, ◌||◌, ℕ, Bool, true, false, not, cond, List, [], ◌∷◌, length}
use Rattle.std.proofs.Common.{Option, Some, None, is_some, option_map, Result, Ok, Err, refl, ap, sym, ◌∙◌, inl, inr}
use Rattle.std.proofs.Common.{true≢false, rules}
use Rattle.std.specs.Prelude.{IfSome, option_to_list}
use Rattle.std.specs.List.{AllByRecursion}
use Rattle.std.specs.List.Sorted.{IsStrictlySortedBy}
use Rattle.std.specs.Ordering.{is_eq}
use Rattle.std.specs.Str.{bytes_eq}
use Rattle.std.proofs.lemmas.Bool.{and_parts, cases_Bool, le-ltb}
use Rattle.std.proofs.lemmas.Map.Text.{is_eq-slice_cmp}
use Rattle.std.proofs.lemmas.Slice.Eq.{bytes_eq-Decides}
use Rattle.base_containers.specs.declared.text.Keyed.{Keyed}
use Rattle.base_containers.specs.Gathered.{Member, items_of, members_of}
use Rattle.base_containers.specs.Keys.{IsInKeyOrder, keys_in, value_under}
use Rattle.base_containers.proofs.Gathers.{items_len-items_of, members_len-members_of}
use Rattle.base_containers.proofs.Order.{Below}
use Rattle.serde_json.specs.Data as json
use Rattle.serde_json.specs.Data.{Data, Items, Members}
use Rattle.serde_json.specs.Events.{items_len, members_len}
use Rattle.serde_json.specs.Find.{as_array, as_object}
use Rattle.cel_value.specs.Value.{code_points}
use Rattle.cel_value.specs.declared.value.Value as value
use Rattle.cel_value.specs.declared.value.Value.{Value}
use Rattle.cel_value.specs.declared.cel_type.Field.{Field}
use Rattle.cel_value.specs.declared.cel_type.CelType as type
use Rattle.cel_value.specs.declared.cel_type.CelType.{CelType}
use Rattle.vap_schema.specs.Paths.{at_field, at_item}
use Rattle.vap_schema.specs.Seen.{◌>>=◌, all_there, field_reader, is_absent, is_null, reader_of, readers_of, seen, seen_entries, seen_entry}
use Rattle.vap_schema.specs.Seen.{seen_items, seen_list, seen_map, seen_member, seen_members, seen_object, seen_under, within}
use Rattle.vap_schema.specs.declared.fit_fault.FitFault.{FitFault}
use Rattle.vap_schema.proofs.Parts.{both, member_key}
use Rattle.vap_schema_conformance.specs.Conformance.{AreEntriesOf, AreItemsOf, AreMembersOf, IsMemberOf, IsValueOf}
use Rattle.vap_schema_conformance.specs.Conformance.{fault_in, has_member, has_required}

abbrev Fields : Type 0
Fields = List (Keyed (Field CelType))

-- two readings have no fault, if neither has one
pub no_fault : {A B F : Type 0} (r : Result A F) (next : A → Result B F) → fault_in r ≡ None → ((a : A) → fault_in (next a) ≡ None)
    → fault_in (r >>= next) ≡ None
no_fault (Ok a) next h more = more a
no_fault (Err f) next h more = absurd (cc)

-- a limit that is kept
pub kept_within : (max n : ℕ) (path : List ℕ) → n ≤ max → fault_in (within max n path) ≡ None
kept_within max n path h = rw (le-ltb max n h) refl

-- ---- which form a document has

array_is : (d : Data) (ds : Items) → as_array d ≡ Some ds → d ≡ json.array ds
array_is json.null ds h = absurd (cc)
array_is (json.boolean b) ds h = absurd (cc)
array_is (json.number n) ds h = absurd (cc)
array_is (json.string s) ds h = absurd (cc)
array_is (json.array es) ds h = let same : es ≡ ds = cc in ap json.array same
array_is (json.object ms) ds h = absurd (cc)

object_is : (d : Data) (ms : Members) → as_object d ≡ Some ms → d ≡ json.object ms
object_is json.null ms h = absurd (cc)
object_is (json.boolean b) ms h = absurd (cc)
object_is (json.number n) ms h = absurd (cc)
object_is (json.string s) ms h = absurd (cc)
object_is (json.array ds) ms h = absurd (cc)
object_is (json.object ns) ms h = let same : ns ≡ ms = cc in ap json.object same

-- ---- lists

items_faultless : (t : CelType) (path : List ℕ) (place : ℕ) (ds : Items) → AreItemsOf t ds
    → fault_in (seen_items (reader_of t).1 path place ds) ≡ None
items_faultless t path place json.no_items h = refl
items_faultless t path place (json.item d ds) h =
    no_fault ((reader_of t).1 (at_item path place) d) _ (h.0 (at_item path place)) (λ v.
    no_fault (seen_items (reader_of t).1 path (place + 1) ds) _ (items_faultless t path (place + 1) ds h.1) (λ vs. refl))

list_seen : (max : ℕ) (plain : Bool) (t : CelType) (path : List ℕ) (ds : Items)
    → seen path (type.List max plain t) (json.array ds) ≡ (seen_list (reader_of t).1 max path ds >>= (λ vs. Ok (value.List vs)))
list_seen max plain t path ds = search (rules, type.the_lemmas)

pub list_is_value : (max : ℕ) (plain : Bool) (t : CelType) (d : Data) (ds : List Data) → as_array d ≡ Some (items_of ds)
    → length ds ≤ max → AreItemsOf t (items_of ds) → IsValueOf (type.List max plain t) d
list_is_value max plain t d ds is short each path =
    let items = items_of ds in
    let within_max : items_len items ≤ max = rw (items_len-items_of ds) short in
    ap (λ x. fault_in (seen path (type.List max plain t) x)) (array_is d items is)
    ∙ ap fault_in (list_seen max plain t path items)
    ∙ no_fault (seen_list (reader_of t).1 max path items) _
    (no_fault (within max (items_len items) path) _ (kept_within max (items_len items) path within_max)
    (λ _. items_faultless t path 0 items each))
    (λ vs. refl)

-- ---- maps

entries_faultless : (key_max : ℕ) (t : CelType) (path : List ℕ) (ms : Members) → AreEntriesOf key_max t ms
    → fault_in (seen_entries (reader_of t).1 key_max path ms) ≡ None
entries_faultless key_max t path json.no_members h = refl
entries_faultless key_max t path (json.member k d ms) h =
    no_fault (seen_entry (reader_of t).1 key_max path k d) _
    (no_fault (within key_max (code_points k) (at_field path k)) _ (kept_within key_max (code_points k) (at_field path k) h.0) (λ _.
    no_fault ((reader_of t).1 (at_field path k) d) _ (h.1 (at_field path k)) (λ v. refl)))
    (λ e. no_fault (seen_entries (reader_of t).1 key_max path ms) _ (entries_faultless key_max t path ms h.2) (λ es. refl))

map_seen : (max key_max : ℕ) (t : CelType) (path : List ℕ) (ms : Members) → seen path (type.Map max key_max t) (json.object ms)
    ≡ (seen_map (reader_of t).1 max key_max path ms >>= (λ es. Ok (value.Map es)))
map_seen max key_max t path ms = search (rules, type.the_lemmas)

pub map_is_value : (max key_max : ℕ) (t : CelType) (d : Data) (es : List Member) → as_object d ≡ Some (members_of es)
    → length es ≤ max → AreEntriesOf key_max t (members_of es) → IsValueOf (type.Map max key_max t) d
map_is_value max key_max t d es is length_within each path =
    let ms = members_of es in
    let short : members_len ms ≤ max = rw (members_len-members_of es) length_within in
    ap (λ x. fault_in (seen path (type.Map max key_max t) x)) (object_is d ms is)
    ∙ ap fault_in (map_seen max key_max t path ms)
    ∙ no_fault (seen_map (reader_of t).1 max key_max path ms) _
    (no_fault (within max (members_len ms) path) _ (kept_within max (members_len ms) path short)
    (λ _. entries_faultless key_max t path ms each))
    (λ es. refl)

-- ---- objects

reader_under : (k : List ℕ) (fields : Fields) → value_under k (readers_of fields) ≡ option_map field_reader (value_under k fields)
reader_under k [] = refl
reader_under k (f ∷ fields) = elim (cases_Bool (bytes_eq f.key k)) [
  | inl same ↦ rw same refl
  | inr other ↦ rw other (reader_under k fields)
]

member_faultless : (f : Option (Field CelType)) (path k : List ℕ) (d : Data) → IsMemberOf f d
    → fault_in (seen_member (option_map field_reader f) path k d) ≡ None
member_faultless None path k d h = refl
member_faultless (Some f) path k d h = elim (cases_Bool (is_absent f.required (reader_of f.cel_type) d)) [
  | inl absent ↦ rw absent refl
  | inr there ↦ rw there (no_fault (seen_under (reader_of f.cel_type).1 (at_field path k) k d) _
      (no_fault ((reader_of f.cel_type).1 (at_field path k) d) _ (h there (at_field path k)) (λ v. refl)) (λ e. refl))
]

members_faultless : (fields : Fields) (path : List ℕ) (ms : Members) → AreMembersOf fields ms
    → fault_in (seen_members (readers_of fields) path ms) ≡ None
members_faultless fields path json.no_members h = refl
members_faultless fields path (json.member k d ms) h =
    no_fault (seen_member (value_under k (readers_of fields)) path k d) _
    (ap (λ f. fault_in (seen_member f path k d)) (reader_under k fields) ∙ member_faultless (value_under k fields) path k d h.0)
    (λ e. no_fault (seen_members (readers_of fields) path ms) _ (members_faultless fields path ms h.1) (λ es. refl))

-- ---- required fields

never_absent : (null : Bool) → (null && false) ≡ false
never_absent true = refl
never_absent false = refl

some_entry : (r : Result (Keyed Value) FitFault) (e : Option (Keyed Value)) → (r >>= (λ x. Ok (Some x))) ≡ Ok e → is_some e ≡ true
some_entry (Ok x) None h = absurd (cc)
some_entry (Ok x) (Some y) h = refl
some_entry (Err f) e h = absurd (cc)

-- a member of a required field has an entry
has_entry : (f : Field CelType) (path k : List ℕ) (d : Data) (e : Option (Keyed Value)) → f.required ≡ true
    → seen_member (Some (field_reader f)) path k d ≡ Ok e → is_some e ≡ true
has_entry f path k d e needed read =
    let reader = reader_of f.cel_type in
    let under = seen_under reader.1 (at_field path k) k d in
    let there : is_absent f.required reader d ≡ false = ap (λ r. is_absent r reader d) needed ∙ never_absent (is_null d) in
    some_entry under e (sym (ap (λ b. cond b (Ok None) (under >>= (λ x. Ok (Some x)))) there) ∙ read)

-- an entry is found behind another
still_found : (k : List ℕ) (e : Option (Keyed Value)) (es : List (Keyed Value)) → is_some (value_under k es) ≡ true
    → is_some (value_under k (option_to_list e ++ es)) ≡ true
still_found k None es h = h
still_found k (Some e) es h = elim (cases_Bool (bytes_eq e.key k)) [
  | inl same ↦ rw same refl
  | inr other ↦ rw other h
]

named_here : (k l : List ℕ) (e : Option (Keyed Value)) (es : List (Keyed Value)) → bytes_eq l k ≡ true → is_some e ≡ true
    → IfSome e (λ x. x.key ≡ l) → is_some (value_under k (option_to_list e ++ es)) ≡ true
named_here k l None es same some named = absurd (true≢false (sym some))
named_here k l (Some e) es same some named =
    ap (λ b. is_some (cond b (Some e.value) (value_under k es))) (ap (λ n. bytes_eq n k) named ∙ same)

-- the entries have one under a required field's name, if some member has it
kept : (fields : Fields) (k : List ℕ) (f : Field CelType) (path : List ℕ) (ms : Members) (es : List (Keyed Value))
    → value_under k fields ≡ Some f → f.required ≡ true → has_member k ms ≡ true
    → seen_members (readers_of fields) path ms ≡ Ok es → is_some (value_under k es) ≡ true
kept fields k f path json.no_members es under needed has read = absurd (true≢false (sym has))
kept fields k f path (json.member l d ms) es under needed has read =
    let p = both (seen_member (value_under l (readers_of fields)) path l d) (seen_members (readers_of fields) path ms)
    (λ e more. option_to_list e ++ more) es read in
    elim (cases_Bool (bytes_eq l k)) [
      | inl same ↦
          let name : l ≡ k = (bytes_eq-Decides l k).0 same in
          let found : value_under l (readers_of fields) ≡ Some (field_reader f) =
          reader_under l fields ∙ ap (λ n. option_map field_reader (value_under n fields)) name ∙ ap (option_map field_reader) under in
          let here : seen_member (Some (field_reader f)) path l d ≡ Ok p.0 = ap (λ o. seen_member o path l d) (sym found) ∙ p.2 in
          ap (λ xs. is_some (value_under k xs)) p.4
          ∙ named_here k l p.0 p.1 same (has_entry f path l d p.0 needed here) (member_key (Some (field_reader f)) path l d p.0 here)
      | inr other ↦
          let later : has_member k ms ≡ true = sym (ap (λ b. b || has_member k ms) other) ∙ has in
          ap (λ xs. is_some (value_under k xs)) p.4 ∙ still_found k p.0 p.1 (kept fields k f path ms p.1 under needed later p.3)
    ]

differ : (a b : List ℕ) → Below a b → bytes_eq a b ≡ false
differ a b h = sym (is_eq-slice_cmp a b) ∙ ap is_eq h

deeper : (f : Keyed (Field CelType)) (all fields : Fields) → AllByRecursion (Below f.key) (keys_in fields)
    → AllByRecursion (λ g. value_under g.key all ≡ Some g.value) fields
    → AllByRecursion (λ g. value_under g.key (f ∷ all) ≡ Some g.value) fields
deeper f all [] below h = tt
deeper f all (g ∷ fields) below h =
    (ap (λ b. cond b (Some f.value) (value_under g.key all)) (differ f.key g.key below.0) ∙ h.0, deeper f all fields below.1 h.1)

firsts : (fields : Fields) → IsInKeyOrder fields → AllByRecursion (λ f. value_under f.key fields ≡ Some f.value) fields
unfolding IsStrictlySortedBy
firsts [] sorted = tt
firsts (f ∷ fields) sorted =
    let here = (bytes_eq-Decides f.key f.key).1 refl in
    (ap (λ b. cond b (Some f.value) (value_under f.key fields)) here, deeper f fields fields sorted.0 (firsts fields sorted.1))

none_missing : (all fields : Fields) (path : List ℕ) (ms : Members) (es : List (Keyed Value))
    → AllByRecursion (λ f. value_under f.key all ≡ Some f.value) fields → has_required fields ms ≡ true
    → seen_members (readers_of all) path ms ≡ Ok es → fault_in (all_there (readers_of fields) path es) ≡ None
none_missing all [] path ms es first has read = refl
none_missing all (f ∷ fields) path ms es first has read =
    let parts = and_parts _ _ has in
    let rest = none_missing all fields path ms es first.1 parts.1 read in
    elim (cases_Bool f.value.required) [
      | inl needed ↦
          let has_it : has_member f.key ms ≡ true = sym (ap (λ b. not b || has_member f.key ms) needed) ∙ parts.0 in
          let there = kept all f.key f.value path ms es first.0 needed has_it read in
          rw (needed, there) rest
      | inr free ↦ rw free rest
    ]

object_seen : (fields : Fields) (path : List ℕ) (ms : Members) → seen path (type.Object fields) (json.object ms)
    ≡ (seen_object (readers_of fields) path ms >>= (λ es. Ok (value.Object es)))
object_seen fields path ms = search (rules, type.the_lemmas)

-- what comes next has no fault for what was read
no_fault_at : {A B F : Type 0} (r : Result A F) (next : A → Result B F) → fault_in r ≡ None
    → ((a : A) → r ≡ Ok a → fault_in (next a) ≡ None) → fault_in (r >>= next) ≡ None
no_fault_at (Ok a) next h more = more a refl
no_fault_at (Err f) next h more = absurd (cc)

pub object_is_value : (fields : Fields) (d : Data) (ms : Members) → IsInKeyOrder fields → as_object d ≡ Some ms
    → has_required fields ms ≡ true → AreMembersOf fields ms → IsValueOf (type.Object fields) d
object_is_value fields d ms sorted is has each path =
    ap (λ x. fault_in (seen path (type.Object fields) x)) (object_is d ms is)
    ∙ ap fault_in (object_seen fields path ms)
    ∙ no_fault (seen_object (readers_of fields) path ms) _
    (no_fault_at (seen_members (readers_of fields) path ms) _ (members_faultless fields path ms each) (λ es read.
    no_fault (all_there (readers_of fields) path es) _ (none_missing fields fields path ms es (firsts fields sorted) has read) (λ _. refl)))
    (λ es. refl)
