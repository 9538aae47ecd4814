-- What is read of members is in their order.
use Rattle.std.proofs.Common.{◌≡◌, ℕ, List, [], ◌∷◌, ◌++◌, Option, None, Some, Ok}
use Rattle.std.proofs.Common.{refl, ap, sym, ◌∙◌, subst}
use Rattle.std.specs.Prelude.{IfSome, option_to_list}
use Rattle.std.specs.List.{AllByRecursion}
use Rattle.std.specs.List.Sorted.{IsStrictlySortedBy}
use Rattle.std.specs.Ordering.{nat_cmp}
use Rattle.std.specs.Cmp.Lexicographic.{slice_cmp}
use Rattle.std.proofs.lemmas.Map.Keys.{sorted_tail}
use Rattle.base_containers.specs.declared.text.Keyed.{Keyed}
use Rattle.base_containers.specs.Keys.{IsInKeyOrder, keys_in, value_under}
use Rattle.base_containers.proofs.Order.{Below}
use Rattle.serde_json.specs.Data.{Members, no_members, member}
use Rattle.base_containers.specs.Gathered.{Member, members_of, names_of, AreInOrder}
use Rattle.cel_value.specs.declared.value.Value.{Value}
use Rattle.cel_value.specs.declared.cel_type.Field.{Field}
use Rattle.vap_schema.specs.Seen.{Reader, Reading, seen_entry, seen_entries, seen_member, seen_members}
use Rattle.vap_schema.proofs.Parts.{both, same_ok, entry_key, member_key}

-- the names of members, in their order
abbrev pub names_in : Members → List (List ℕ)
names_in no_members = []
names_in (member k d ms) = k ∷ names_in ms

abbrev pub IsInOrder : List (List ℕ) → Type 0
IsInOrder ks = IsStrictlySortedBy (slice_cmp nat_cmp) ks

entries_keys : (here : Reading) (key_max : ℕ) (path : List ℕ) (ms : Members) (es : List (Keyed Value))
    → seen_entries here key_max path ms ≡ Ok es → keys_in es ≡ names_in ms
entries_keys here key_max path no_members es h = ap keys_in (sym (same_ok (Ok []) [] es refl h))
entries_keys here key_max path (member k d ms) es h =
    let p = both (seen_entry here key_max path k d) (seen_entries here key_max path ms) (λ e more. e ∷ more) es h in
    ap keys_in p.4 ∙ ap (λ l. l ∷ keys_in p.1) (entry_key here key_max path k d p.0 p.2)
    ∙ ap (λ ks. k ∷ ks) (entries_keys here key_max path ms p.1 p.3)

pub entries_in_order : (here : Reading) (key_max : ℕ) (path : List ℕ) (ms : Members) (es : List (Keyed Value))
    → IsInOrder (names_in ms) → seen_entries here key_max path ms ≡ Ok es → IsInKeyOrder es
entries_in_order here key_max path ms es s h = subst IsInOrder (sym (entries_keys here key_max path ms es h)) s

below_with : (e : Option (Keyed Value)) (more : List (Keyed Value)) (k l : List ℕ) → Below k l → IfSome e (λ x. x.key ≡ l)
    → AllByRecursion (Below k) (keys_in more) → AllByRecursion (Below k) (keys_in (option_to_list e ++ more))
below_with None more k l b named h = h
below_with (Some x) more k l b named h = (subst (λ q. Below k q) (sym named) b, h)

members_below : (fields : List (Keyed (Field Reader))) (path k : List ℕ) (ms : Members) (es : List (Keyed Value))
    → AllByRecursion (Below k) (names_in ms) → seen_members fields path ms ≡ Ok es → AllByRecursion (Below k) (keys_in es)
members_below fields path k no_members es b h = subst (λ xs. AllByRecursion (Below k) (keys_in xs)) (same_ok (Ok []) [] es refl h) tt
members_below fields path k (member l d ms) es b h =
    let p = both (seen_member (value_under l fields) path l d) (seen_members fields path ms) (λ e more. option_to_list e ++ more) es h in
    subst (λ xs. AllByRecursion (Below k) (keys_in xs)) (sym p.4)
    (below_with p.0 p.1 k l b.0 (member_key (value_under l fields) path l d p.0 p.2) (members_below fields path k ms p.1 b.1 p.3))

in_order_with : (e : Option (Keyed Value)) (more : List (Keyed Value)) (l : List ℕ) → IfSome e (λ x. x.key ≡ l)
    → AllByRecursion (Below l) (keys_in more) → IsInKeyOrder more → IsInKeyOrder (option_to_list e ++ more)
unfolding IsStrictlySortedBy
in_order_with None more l named b s = s
in_order_with (Some x) more l named b s = (subst (λ q. AllByRecursion (Below q) (keys_in more)) (sym named) b, s)

pub members_in_order : (fields : List (Keyed (Field Reader))) (path : List ℕ) (ms : Members) (es : List (Keyed Value))
    → IsInOrder (names_in ms) → seen_members fields path ms ≡ Ok es → IsInKeyOrder es
unfolding IsStrictlySortedBy
members_in_order fields path no_members es s h = subst IsInKeyOrder (same_ok (Ok []) [] es refl h) tt
members_in_order fields path (member l d ms) es s h =
    let p = both (seen_member (value_under l fields) path l d) (seen_members fields path ms) (λ e more. option_to_list e ++ more) es h in
    subst IsInKeyOrder (sym p.4)
    (in_order_with p.0 p.1 l (member_key (value_under l fields) path l d p.0 p.2) (members_below fields path l ms p.1 s.0 p.3)
    (members_in_order fields path ms p.1 s.1 p.3))

names_same : (ms : List Member) → names_of ms ≡ names_in (members_of ms)
names_same [] = refl
names_same (m ∷ ms) = ap (λ ks. m.0.now ∷ ks) (names_same ms)

-- the names of members that are lent in order
pub names_in_order : (ms : List Member) → AreInOrder ms → IsInOrder (names_in (members_of ms))
names_in_order ms s = subst IsInOrder (names_same ms) s

-- after the first member, too
pub names_behind : (k : List ℕ) (ks : List (List ℕ)) → IsInOrder (k ∷ ks) → IsInOrder ks
names_behind k ks s = sorted_tail (slice_cmp nat_cmp) k ks s
