-- The entries of an index, and what one policy more makes of them.
use Rattle.std.proofs.Common.{◌≡◌, ◌<◌, ◌≤◌, ◌+◌, ℕ, zero, suc, Bool, true, false, cond, ◌||◌, List, [], ◌∷◌, ◌++◌, length, map, filter}
use Rattle.std.proofs.Common.{set, get_or, refl, sym, ap, ◌∙◌, subst, arith, append-nil, inl, inr, Result, Ok, Err, OnOk}
use Rattle.std.proofs.Common.{take, drop, append_assoc}
use Rattle.std.specs.Prelude.{Some, None, if◌then◌else◌}
use Rattle.std.specs.List.{All, AllByRecursion, HoldsAt, flat_map, list_any}
use Rattle.std.specs.List.Sorted.{IsNonDecreasingBy, IsPartitionPoint, IsStrictlySortedBy}
use Rattle.std.specs.Ordering.{is_lt, ordering_index, ordering_reverse}
use Rattle.std.specs.Str.{bytes_eq}
use Rattle.std.specs.declared.cmp.Ordering.{Ordering}
use Rattle.std.specs.declared.cmp.Ordering.TheVariants.{Less, Equal, Greater}
use Rattle.std.proofs.lemmas.Bool.{and_parts, cases_lt}
use Rattle.std.proofs.lemmas.Cmp.{tied_itself}
use Rattle.std.proofs.lemmas.List.{get_or-map, length-map, take_all, take_more, drop_all}
use Rattle.std.proofs.lemmas.List.Elements.{All-from_recursion, filter-append, recursion_from_All}
use Rattle.std.proofs.lemmas.List.Folds.{list_any_none}
use Rattle.std.proofs.lemmas.List.Sorted.{searchable_from_sorted}
use Rattle.std.proofs.lemmas.Map.Keys.{Less-from_sorted, sorted_head, sorted_tail}
use Rattle.vap_policy_set.specs.Index.{AreApart, AreForPlaces, IsEntryOf, IsFoundAt, empty_entry, entry_places, is_entry, with_behind}
use Rattle.vap_policy_set.specs.Index.{if_wide, with_named, with_policy}
use Rattle.vap_policy_set.specs.PlaceOrder.{place_cmp}
use Rattle.vap_policy_set.specs.Places.{is_place, rule_places}
use Rattle.vap_policy_set.specs.PolicyCovering.{is_wide, may_cover, rules_in}
use Rattle.vap_policy_set.specs.declared.bound.BoundPolicy.{BoundPolicy}
use Rattle.vap_policy_set.specs.declared.index.Entry.{Entry}
use Rattle.vap_policy_set.specs.declared.places.Place.{Place}
use Rattle.vap_policy_set.proofs.Covered.{narrow_named, left_of, right_of}
use Rattle.vap_policy_programs.proofs.Each.{next_is}
use Rattle.vap_read_objects.proofs.Names.{itself, same_text}
use Rattle.vap_policy_set.proofs.PlaceOrder.{exact_places, place, place_total}

-- ---- places by their texts

pub same_place : (g s : List ℕ) (k : Place) → is_place g s k ≡ true → k ≡ place g s
same_place g s k h =
    let parts = and_parts (bytes_eq k.group g) (bytes_eq k.resource s) h in
    ap (λ (x : List ℕ). place x k.resource) (same_text k.group g parts.0)
    ∙ ap (λ (x : List ℕ). place g x) (same_text k.resource s parts.1)

own_place : (k : Place) → is_place k.group k.resource k ≡ true
own_place k = rw (itself k.group) (itself k.resource)

-- a place that is another by the order is another by its texts
unlike : (g s : List ℕ) (k : Place) → (place_cmp k (place g s) ≡ Equal → ⊥) → is_place g s k ≡ false
unlike g s k other = at (is_place g s k) refl
  where
    at : (b : Bool) → is_place g s k ≡ b → b ≡ false
    at true h = absurd (other (ap (λ (x : Place). place_cmp x (place g s)) (same_place g s k h) ∙ tied_itself place_total (place g s)))
    at false h = refl

not_less : (o : Ordering) → o ≡ Less → o ≡ Equal → ⊥
not_less o h k = omega (arith, ap ordering_index (sym h ∙ k))

not_greater : (o : Ordering) → o ≡ Greater → o ≡ Equal → ⊥
not_greater o h k = omega (arith, ap ordering_index (sym h ∙ k))

-- of two places that are apart, neither is the other
above_unlike : (k l : Place) → place_cmp k l ≡ Less → is_place k.group k.resource l ≡ false
above_unlike k l h =
    unlike k.group k.resource l
    (not_greater (place_cmp l k) (place_total.antisymm l k ∙ ap ordering_reverse h))

below_unlike : (k l : Place) → place_cmp k l ≡ Less → is_place l.group l.resource k ≡ false
below_unlike k l h = unlike l.group l.resource k (not_less (place_cmp k l) h)

-- ---- where an entry is

pub found_some : (g s : List ℕ) (es : List Entry) (at : ℕ) → at < length es → HoldsAt (λ e. place_cmp e.place (place g s) ≡ Equal) es at
    → IsFoundAt g s es (Some at)
found_some g s es at lt equal = (
  lt,
  λ d.
      subst (λ (k : Place). is_place g s k ≡ true) (sym (exact_places (get_or es at d).place (place g s) (equal d)))
      (own_place (place g s)),
)

rises : (k : Place) (es : List Entry) → AreApart es → IsNonDecreasingBy (λ e. ordering_index (place_cmp e.place k)) es
rises k es apart =
    searchable_from_sorted place_total (λ (e : Entry). e.place) es k (λ i d low lt.
    let below : place_cmp (get_or es i d).place (get_or es (i + 1) d).place ≡ Less =
    ap (λ (x : Place). place_cmp x (get_or es (i + 1) d).place)
    (sym (get_or-map (λ (e : Entry). e.place) es i d d.place (omega (arith, lt))))
    ∙ ap (λ (x : Place). place_cmp (get_or (entry_places es) i d.place) x)
    (sym (get_or-map (λ (e : Entry). e.place) es (i + 1) d d.place lt))
    ∙ Less-from_sorted place_cmp (entry_places es) i (i + 1) d.place apart (omega arith)
    (omega (arith, lt, length-map es (λ (e : Entry). e.place))) in
    ap is_lt (place_total.antisymm (get_or es (i + 1) d).place (get_or es i d).place ∙ ap ordering_reverse below))

pub found_none : (g s : List ℕ) (es : List Entry) (at : ℕ) → AreApart es
    → (IsNonDecreasingBy (λ e. ordering_index (place_cmp e.place (place g s))) es
    → IsPartitionPoint (λ e. place_cmp e.place (place g s) ≡ Less) (λ e. place_cmp e.place (place g s) ≡ Greater) es at)
    → IsFoundAt g s es None
found_none g s es at apart parted =
    let parts = parted (rises (place g s) es apart) in
    list_any_none (is_entry g s) es (λ i d lt. elim (cases_lt i at) [
      | inl below ↦
          unlike g s (get_or es i d).place (not_less (place_cmp (get_or es i d).place (place g s)) (parts.0 i d (omega arith) below))
      | inr above ↦
          unlike g s (get_or es i d).place (not_greater (place_cmp (get_or es i d).place (place g s)) (parts.1 i d above lt))
    ])

-- ---- one policy more, where it is named

named_at : (k : Place) (p : BoundPolicy) (e : Entry) → e.place ≡ k → with_named (k ∷ []) p e ≡ with_behind p e
unfolding with_named
named_at k p e same =
    let is : is_place e.place.group e.place.resource k ≡ true =
    subst (λ (x : Place). is_place e.place.group e.place.resource x ≡ true) same (own_place e.place) in
    rw is refl

unnamed : (k : Place) (p : BoundPolicy) (e : Entry) → is_place e.place.group e.place.resource k ≡ false → with_named (k ∷ []) p e ≡ e
unfolding with_named
unnamed k p e other = rw other refl

none_after : (k : Place) (p : BoundPolicy) (es : List Entry) → AllByRecursion (λ l. place_cmp k l ≡ Less) (entry_places es)
    → map (with_named (k ∷ []) p) es ≡ es
none_after k p [] below = refl
none_after k p (e ∷ es) below =
    ap (λ (x : Entry). x ∷ map (with_named (k ∷ []) p) es) (unnamed k p e (below_unlike k e.place below.0))
    ∙ ap (λ (xs : List Entry). e ∷ xs) (none_after k p es below.1)

one_after : (k : Place) (es : List Entry) (at : ℕ) (e : Entry) → at < length es → e ≡ get_or es at e
    → AllByRecursion (λ l. place_cmp k l ≡ Less) (entry_places es) → place_cmp k e.place ≡ Less
one_after k [] at e lt is below = absurd (omega (arith, lt))
one_after k (x ∷ xs) zero e lt is below = subst (λ (y : Entry). place_cmp k y.place ≡ Less) (sym is) below.0
one_after k (x ∷ xs) (suc at) e lt is below = one_after k xs at e (omega (arith, lt)) is below.1

-- the entry for a place has it, and no other
pub put_named : (p : BoundPolicy) (es : List Entry) (at : ℕ) (e : Entry) → at < length es → e ≡ get_or es at e → AreApart es
    → set es at (with_behind p e) ≡ map (with_named (e.place ∷ []) p) es
put_named p [] at e lt is apart = absurd (omega (arith, lt))
put_named p (x ∷ xs) zero e lt is apart =
    let below : AllByRecursion (λ l. place_cmp e.place l ≡ Less) (entry_places xs) =
    subst (λ (y : Entry). AllByRecursion (λ l. place_cmp y.place l ≡ Less) (entry_places xs)) (sym is)
    (sorted_head place_cmp x.place (entry_places xs) apart) in
    sym
    (
    ap (λ (y : Entry). y ∷ map (with_named (e.place ∷ []) p) xs)
    (subst (λ (y : Entry). with_named (e.place ∷ []) p y ≡ with_behind p e) is (named_at e.place p e refl))
    ∙ ap (λ (ys : List Entry). with_behind p e ∷ ys) (none_after e.place p xs below)
    )
put_named p (x ∷ xs) (suc at) e lt is apart =
    let below = one_after x.place xs at e (omega (arith, lt)) is (sorted_head place_cmp x.place (entry_places xs) apart) in
    sym
    (
    ap (λ (y : Entry). y ∷ map (with_named (e.place ∷ []) p) xs) (unnamed e.place p x (above_unlike x.place e.place below))
    ∙ ap (λ (ys : List Entry). x ∷ ys)
    (sym (put_named p xs at e (omega (arith, lt)) is (sorted_tail place_cmp x.place (entry_places xs) apart)))
    )

turned : (g s : List ℕ) (k : Place) → is_place g s k ≡ false → is_place k.group k.resource (place g s) ≡ false
turned g s k other = at (is_place k.group k.resource (place g s)) refl
  where
    at : (b : Bool) → is_place k.group k.resource (place g s) ≡ b → b ≡ false
    at true h =
        absurd
        (
        let no : true ≡ false =
        sym (subst (λ (x : Place). is_place x.group x.resource k ≡ true) (sym (same_place k.group k.resource (place g s) h)) (own_place k))
        ∙ other in
        cc
        )
    at false h = refl

-- without an entry for a place nothing is put
pub put_nowhere : (p : BoundPolicy) (k : Place) (es : List Entry) → list_any (is_entry k.group k.resource) es ≡ false
    → es ≡ map (with_named (k ∷ []) p) es
put_nowhere p k [] none = refl
put_nowhere p k (e ∷ es) none =
    sym
    (
    ap (λ (x : Entry). x ∷ map (with_named (k ∷ []) p) es)
    (unnamed k p e (turned k.group k.resource e.place
    (left_of (is_entry k.group k.resource e) (list_any (is_entry k.group k.resource) es) none)))
    ∙ ap (λ (xs : List Entry). e ∷ xs)
    (sym (put_nowhere p k es (right_of (is_entry k.group k.resource e) (list_any (is_entry k.group k.resource) es) none)))
    )

-- an entry that is found has the policy after its others
pub put_where : {A E : Type 0} (r : Result A E) (p : BoundPolicy) (k : Place) (es : List Entry) (at : ℕ) (e new : Entry)
    → e ≡ get_or es at e → IsFoundAt k.group k.resource es (Some at) → AreApart es → OnOk r (new ≡ with_behind p e)
    → OnOk r (set es at new ≡ map (with_named (k ∷ []) p) es)
put_where (Ok a) p k es at e new is found apart put =
    let own : is_entry k.group k.resource e ≡ true =
    subst (λ (x : Entry). is_entry k.group k.resource x ≡ true) (sym is) (found.1 e) in
    ap (λ (x : Entry). set es at x) put
    ∙ put_named p es at e found.0 is apart
    ∙ ap (λ (l : Place). map (with_named (l ∷ []) p) es) (same_place k.group k.resource e.place own)
put_where (Err error) p k es at e new is found apart put = tt

-- ---- one place after the other

unnamed_behind : (k : Place) (ks : List Place) → AllByRecursion (λ l. place_cmp k l ≡ Less) ks
    → list_any (is_place k.group k.resource) ks ≡ false
unnamed_behind k [] below = refl
unnamed_behind k (l ∷ ls) below = rw (above_unlike k l below.0) (unnamed_behind k ls below.1)

by_test : (ks : List Place) (p : BoundPolicy) (e : Entry)
    → with_named ks p e ≡ cond (list_any (is_place e.place.group e.place.resource) ks) (with_behind p e) e
unfolding with_named
by_test ks p e = refl

left_out : (ks : List Place) (p : BoundPolicy) (e : Entry) → list_any (is_place e.place.group e.place.resource) ks ≡ false
    → with_named ks p e ≡ e
left_out ks p e none = by_test ks p e ∙ ap (λ b. cond b (with_behind p e) e) none

named_next : (k : Place) (ks : List Place) (p : BoundPolicy) (e : Entry) → AllByRecursion (λ l. place_cmp k l ≡ Less) ks
    → with_named ks p (with_named (k ∷ []) p e) ≡ with_named (k ∷ ks) p e
named_next k ks p e below =
    ap (λ (x : Entry). with_named ks p x) (by_test (k ∷ []) p e)
    ∙ at (is_place e.place.group e.place.resource k) refl
    ∙ sym (by_test (k ∷ ks) p e)
  where
    at : (b : Bool) → is_place e.place.group e.place.resource k ≡ b → with_named ks p (cond (b || false) (with_behind p e) e)
        ≡ cond (b || list_any (is_place e.place.group e.place.resource) ks) (with_behind p e) e
    at true h =
        left_out ks p (with_behind p e)
        (
        subst (λ (x : Place). list_any (is_place x.group x.resource) ks ≡ false) (same_place e.place.group e.place.resource k h)
        (unnamed_behind k ks below)
        )
    at false h = by_test ks p e

map_alike : {X : Type 0} (f g : X → X) → ((x : X) → f x ≡ g x) → (xs : List X) → map f xs ≡ map g xs
map_alike f g same [] = refl
map_alike f g same (x ∷ xs) = ap (λ y. y ∷ map f xs) (same x) ∙ ap (λ ys. g x ∷ ys) (map_alike f g same xs)

map_twice : {X : Type 0} (f g h : X → X) → ((x : X) → f (g x) ≡ h x) → (xs : List X) → map f (map g xs) ≡ map h xs
map_twice f g h same [] = refl
map_twice f g h same (x ∷ xs) = ap (λ y. y ∷ map f (map g xs)) (same x) ∙ ap (λ ys. h x ∷ ys) (map_twice f g h same xs)

-- what is put to the entry for a place, and then to those for the places after it, is put to those for all
pub put_next : (k : Place) (ks : List Place) (p : BoundPolicy) (es : List Entry) → IsStrictlySortedBy place_cmp (k ∷ ks)
    → map (with_named ks p) (map (with_named (k ∷ []) p) es) ≡ map (with_named (k ∷ ks) p) es
put_next k ks p es ordered =
    map_twice (with_named ks p) (with_named (k ∷ []) p) (with_named (k ∷ ks) p)
    (λ e. named_next k ks p e (sorted_head place_cmp k ks ordered)) es

kept : (e : Entry) (p : BoundPolicy) → with_named [] p e ≡ e
unfolding with_named
kept e p = refl

-- for no places nothing is put
pub put_none : (p : BoundPolicy) (es : List Entry) → map (with_named [] p) es ≡ es
put_none p [] = refl
put_none p (e ∷ es) = ap (λ (x : Entry). x ∷ map (with_named [] p) es) (kept e p) ∙ ap (λ (xs : List Entry). e ∷ xs) (put_none p es)

narrow_one : (ks : List Place) (p : BoundPolicy) (e : Entry) → is_wide p ≡ false
    → ((g s : List ℕ) → list_any (is_place g s) ks ≡ list_any (is_place g s) (flat_map rule_places (rules_in p)))
    → with_named ks p e ≡ with_policy p e
unfolding with_named with_policy
narrow_one ks p e narrow same =
    ap (λ b. cond b (with_behind p e) e)
    (same e.place.group e.place.resource ∙ narrow_named e.place.group e.place.resource p narrow)

-- a narrow policy is put where its rules name the place
pub put_narrow : (ks : List Place) (p : BoundPolicy) (es : List Entry) → is_wide p ≡ false
    → ((g s : List ℕ) → list_any (is_place g s) ks ≡ list_any (is_place g s) (flat_map rule_places (rules_in p)))
    → map (with_named ks p) es ≡ map (with_policy p) es
put_narrow ks p es narrow same = map_alike (with_named ks p) (with_policy p) (λ e. narrow_one ks p e narrow same) es

pub narrow_put : {A E : Type 0} (r : Result A E) (ks : List Place) (p : BoundPolicy) (es new : List Entry) → is_wide p ≡ false
    → ((g s : List ℕ) → list_any (is_place g s) ks ≡ list_any (is_place g s) (flat_map rule_places (rules_in p)))
    → OnOk r (new ≡ map (with_named ks p) es) → OnOk r (new ≡ map (with_policy p) es)
narrow_put (Ok a) ks p es new narrow same put = put ∙ put_narrow ks p es narrow same
narrow_put (Err error) ks p es new narrow same put = tt

-- ---- entries keep their places

place_kept : (p : BoundPolicy) (e : Entry) → (with_policy p e).place ≡ e.place
unfolding with_policy
place_kept p e = at (may_cover e.place.group e.place.resource p)
  where
    at : (b : Bool) → (cond b (with_behind p e) e).place ≡ e.place
    at true = refl
    at false = refl

pub places_kept : (p : BoundPolicy) (es : List Entry) → entry_places (map (with_policy p) es) ≡ entry_places es
places_kept p [] = refl
places_kept p (e ∷ es) =
    ap (λ (k : Place). k ∷ entry_places (map (with_policy p) es)) (place_kept p e)
    ∙ ap (λ (ks : List Place). e.place ∷ ks) (places_kept p es)

place_named : (ks : List Place) (p : BoundPolicy) (e : Entry) → (with_named ks p e).place ≡ e.place
unfolding with_named
place_named ks p e = at (list_any (is_place e.place.group e.place.resource) ks)
  where
    at : (b : Bool) → (cond b (with_behind p e) e).place ≡ e.place
    at true = refl
    at false = refl

pub places_named : (ks : List Place) (p : BoundPolicy) (es : List Entry) → entry_places (map (with_named ks p) es) ≡ entry_places es
places_named ks p [] = refl
places_named ks p (e ∷ es) =
    ap (λ (k : Place). k ∷ entry_places (map (with_named ks p) es)) (place_named ks p e)
    ∙ ap (λ (xs : List Place). e.place ∷ xs) (places_named ks p es)

pub empty_places : (ks : List Place) → entry_places (map empty_entry ks) ≡ ks
empty_places [] = refl
empty_places (k ∷ ks) = ap (λ (xs : List Place). k ∷ xs) (empty_places ks)

any_place : (g s : List ℕ) (es : List Entry) → list_any (is_entry g s) es ≡ list_any (is_place g s) (entry_places es)
any_place g s [] = refl
any_place g s (e ∷ es) = ap (λ b. is_entry g s e || b) (any_place g s es)

-- entries that are for these places
pub for_places : (ks : List Place) (es : List Entry) → entry_places es ≡ ks → AreForPlaces ks es
for_places ks es is g s = any_place g s es ∙ ap (list_any (is_place g s)) is

-- ---- entries have the policies so far

each_empty : (ks : List Place) → AllByRecursion (IsEntryOf []) (map empty_entry ks)
each_empty [] = tt
each_empty (k ∷ ks) = (refl, each_empty ks)

pub empty_right : (ks : List Place) → All (IsEntryOf []) (map empty_entry ks)
empty_right ks = All-from_recursion (IsEntryOf []) (map empty_entry ks) (each_empty ks)

right_one : (qs : List BoundPolicy) (p : BoundPolicy) (e : Entry) → IsEntryOf qs e → IsEntryOf (qs ++ p ∷ []) (with_policy p e)
unfolding with_policy
right_one qs p e is = at (may_cover e.place.group e.place.resource p) refl
  where
    more : filter (may_cover e.place.group e.place.resource) (qs ++ p ∷ [])
        ≡ filter (may_cover e.place.group e.place.resource) qs ++ filter (may_cover e.place.group e.place.resource) (p ∷ [])
    more = filter-append (may_cover e.place.group e.place.resource) qs (p ∷ [])

    at : (b : Bool) → may_cover e.place.group e.place.resource p ≡ b → IsEntryOf (qs ++ p ∷ []) (cond b (with_behind p e) e)
    at true h =
        ap (λ (xs : List BoundPolicy). xs ++ p ∷ []) is
        ∙ ap (λ b. filter (may_cover e.place.group e.place.resource) qs ++ cond b (p ∷ []) []) (sym h)
        ∙ sym more
    at false h =
        is
        ∙ sym (append-nil (filter (may_cover e.place.group e.place.resource) qs))
        ∙ ap (λ b. filter (may_cover e.place.group e.place.resource) qs ++ cond b (p ∷ []) []) (sym h)
        ∙ sym more

each_right : (qs : List BoundPolicy) (p : BoundPolicy) (es : List Entry) → AllByRecursion (IsEntryOf qs) es
    → AllByRecursion (IsEntryOf (qs ++ p ∷ [])) (map (with_policy p) es)
each_right qs p [] all = tt
each_right qs p (e ∷ es) all = (right_one qs p e all.0, each_right qs p es all.1)

-- so they do with one policy more
pub next_right : (qs : List BoundPolicy) (p : BoundPolicy) (es : List Entry) → All (IsEntryOf qs) es
    → All (IsEntryOf (qs ++ p ∷ [])) (map (with_policy p) es)
next_right qs p es all =
    All-from_recursion (IsEntryOf (qs ++ p ∷ [])) (map (with_policy p) es)
    (each_right qs p es (recursion_from_All (IsEntryOf qs) es all))

-- ---- entries as they are written

pub written : (n : ℕ) (new old : List Entry) → length new ≡ length old → n ≡ length old → take n (new ++ drop (length new) old) ≡ new
written n new old same len =
    ap (λ (xs : List Entry). take n (new ++ xs)) (drop_all (length new) old (omega (arith, same)))
    ∙ ap (take n) (append-nil new)
    ∙ take_all n new (omega (arith, same, len))

pub cut_before : (ps : List BoundPolicy) (i : ℕ) (p : BoundPolicy) → i < length ps → p ≡ get_or ps i p
    → take (i + 1) ps ≡ take i ps ++ p ∷ []
cut_before ps i p lt is = take_more ps i p lt ∙ ap (λ (q : BoundPolicy). take i ps ++ q ∷ []) (sym is)

-- ---- the wide ones

wide_first : (p : BoundPolicy) (ps : List BoundPolicy) → filter is_wide (p ∷ ps) ≡ if_wide p ++ filter is_wide ps
unfolding if_wide
wide_first p ps = at (is_wide p)
  where
    at : (b : Bool) → cond b (p ∷ filter is_wide ps) (filter is_wide ps) ≡ (if b then p ∷ [] else []) ++ filter is_wide ps
    at true = refl
    at false = refl

-- the wide ones of the policies so far with those that are left are all
pub wide_next : (ps : List BoundPolicy) (i : ℕ) (p : BoundPolicy) (done new : List BoundPolicy) → i < length ps → p ≡ get_or ps i p
    → new ≡ done ++ if_wide p → done ++ filter is_wide (drop i ps) ≡ filter is_wide ps
    → new ++ filter is_wide (drop (i + 1) ps) ≡ filter is_wide ps
wide_next ps i p done new lt is put whole =
    let cut : drop i ps ≡ p ∷ drop (i + 1) ps =
    next_is ps i p lt is in
    ap (λ xs. xs ++ filter is_wide (drop (i + 1) ps)) put
    ∙ append_assoc done (if_wide p) (filter is_wide (drop (i + 1) ps))
    ∙ ap (λ xs. done ++ xs) (sym (wide_first p (drop (i + 1) ps)))
    ∙ ap (λ xs. done ++ filter is_wide xs) (sym cut)
    ∙ whole

pub all_wide : (ps : List BoundPolicy) (i : ℕ) (done : List BoundPolicy) → length ps ≤ i
    → done ++ filter is_wide (drop i ps) ≡ filter is_wide ps → done ≡ filter is_wide ps
all_wide ps i done over whole =
    sym (append-nil done) ∙ ap (λ xs. done ++ filter is_wide xs) (sym (drop_all i ps over)) ∙ whole
