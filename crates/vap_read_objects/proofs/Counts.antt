-- How much objects count together.
use Rattle.std.proofs.Common.{◌≡◌, ◌<◌, ◌≤◌, ◌+◌, ◌-◌, ◌&&◌, ℕ, Bool, true, false, List, [], ◌∷◌, length, inl, inr}
use Rattle.std.proofs.Common.{refl, ap, sym, ◌∙◌, arith}
use Rattle.std.specs.Prelude.{nat_le}
use Rattle.std.specs.BTreeMap.{is_at}
use Rattle.std.specs.List.{sum_by}
use Rattle.std.specs.List.Sorted.{IsStrictlySortedBy}
use Rattle.std.specs.Map.{keys_of, values_of, remove_entry}
use Rattle.std.proofs.lemmas.Bool.{leb-true, le-leb, lt-leb, and_parts, and_from, cases_lt}
use Rattle.std.proofs.lemmas.List.Sums.{sum_by-cons}
use Rattle.std.proofs.lemmas.Map.Entries.{sum_by-insert_entry, sum_by-remove_entry}
use Rattle.vap_read.specs.Keys.{key_cmp, with_object}
use Rattle.vap_read.specs.declared.key.Key.{Key}
use Rattle.vap_read.specs.declared.object.Object.{Object}
use Rattle.vap_read.proofs.KeyOrder.{key_total}
use Rattle.vap_read_objects.specs.Limits.{weight, total, held_weight, totals_of, counted_in, limit, is_few, are_few, AreFew}
use Rattle.vap_read_objects.specs.declared.tallies.Counted.{Counted}
use Rattle.vap_read_objects.specs.declared.tallies.Counted.TheVariants.{Objects, Policies, Bindings, Versions}
use Rattle.vap_read_objects.specs.declared.tallies.Totals.{Totals}

-- ---- sums

-- a total is the sum over the objects
total_sum : (f : Object → ℕ) (os : List (Key × Object)) → total f os ≡ sum_by f (values_of os)
total_sum f [] = refl
total_sum f (e ∷ os) = ap (λ n. f e.1 + n) (total_sum f os) ∙ sym (sum_by-cons f e.1 (values_of os))

-- what a put adds, and what it takes the place of
put_total : (what : Counted) (o : Object) (os : List (Key × Object)) → IsStrictlySortedBy key_cmp (keys_of os)
    → total (weight what) (with_object o os) + held_weight what o.key os ≡ total (weight what) os + weight what o
put_total what o os sorted =
    ap (λ n. n + held_weight what o.key os) (total_sum (weight what) (with_object o os))
    ∙ sum_by-insert_entry (weight what) key_total os o.key o sorted
    ∙ ap (λ n. n + weight what o) (sym (total_sum (weight what) os))

-- what a removal takes away
without_total : (what : Counted) (k : Key) (os : List (Key × Object))
    → total (weight what) (remove_entry (is_at (key_cmp k)) os) + held_weight what k os ≡ total (weight what) os
without_total what k os =
    ap (λ n. n + held_weight what k os) (total_sum (weight what) (remove_entry (is_at (key_cmp k)) os))
    ∙ sum_by-remove_entry (weight what) (is_at (key_cmp k)) os
    ∙ sym (total_sum (weight what) os)

-- what is held under one key is part of the total
pub held_within : (what : Counted) (k : Key) (os : List (Key × Object)) → held_weight what k os ≤ total (weight what) os
held_within what k os = omega (arith, without_total what k os)

-- totals say for each limit what objects count towards it
pub told_total : (what : Counted) (os : List (Key × Object)) (t : Totals) → t ≡ totals_of os → counted_in what t ≡ total (weight what) os
told_total Objects os t is = ap (λ (x : Totals). x.objects) is
told_total Policies os t is = ap (λ (x : Totals). x.policies) is
told_total Bindings os t is = ap (λ (x : Totals). x.bindings) is
told_total Versions os t is = ap (λ (x : Totals). x.versions) is

-- ---- limits

four_parts : (a b c d : Bool) → (a && b && c && d) ≡ true → (a ≡ true) × (b ≡ true) × (c ≡ true) × (d ≡ true)
four_parts a b c d all =
    let three = and_parts (a && b && c) d all in
    let two = and_parts (a && b) c three.0 in
    let one = and_parts a b two.0 in
    (one.0, one.1, two.1, three.1)

-- each object counts one
ones : (os : List (Key × Object)) → total (weight Objects) os ≡ length os
ones [] = refl
ones (e ∷ os) = omega (arith, ones os)

-- objects within all limits are within each
pub few_limit : (what : Counted) (os : List (Key × Object)) → AreFew os → total (weight what) os ≤ limit what
few_limit Objects os few = omega (arith, ones os, few.objects)
few_limit Policies os few = few.policies
few_limit Bindings os few = few.bindings
few_limit Versions os few = few.versions

-- the test passes for objects within each limit
pub all_few : (os : List (Key × Object)) → ((what : Counted) → total (weight what) os ≤ limit what) → true ≡ are_few os
unfolding are_few
all_few os within =
    let few : (what : Counted) → is_few os what ≡ true =
    λ what. le-leb (total (weight what) os) (limit what) (within what) in
    sym (and_from (is_few os Objects && is_few os Policies && is_few os Bindings) (is_few os Versions)
    (and_from (is_few os Objects && is_few os Policies) (is_few os Bindings)
    (and_from (is_few os Objects) (is_few os Policies) (few Objects) (few Policies)) (few Bindings)) (few Versions))

-- the test passes for objects within all limits
pub few_told : (os : List (Key × Object)) → AreFew os → true ≡ are_few os
few_told os few = all_few os (λ what. few_limit what os few)

-- objects that pass the test are within all limits
pub told_few : (os : List (Key × Object)) → are_few os ≡ true → AreFew os
unfolding are_few
told_few os told =
    let parts = four_parts (is_few os Objects) (is_few os Policies) (is_few os Bindings) (is_few os Versions) told in
    record {
      objects = omega (arith, ones os, leb-true (total (weight Objects) os) 4096 parts.0);
      policies = leb-true (total (weight Policies) os) 256 parts.1;
      bindings = leb-true (total (weight Bindings) os) 256 parts.2;
      versions = leb-true (total (weight Versions) os) 2048 parts.3;
    }

small_limit : (what : Counted) → limit what ≤ 4096
small_limit Objects = omega arith
small_limit Policies = omega arith
small_limit Bindings = omega arith
small_limit Versions = omega arith

-- what is within the limits is small
pub small_total : (what : Counted) (os : List (Key × Object)) → AreFew os → total (weight what) os ≤ 4096
small_total what os few = omega (arith, few_limit what os few, small_limit what)

-- ---- counting down

-- if an object counts more than is left, all count too much
pub too_many : (what : Counted) (os more rest : List (Key × Object)) (e : Key × Object) (left : ℕ)
    → total (weight what) more + limit what ≡ total (weight what) os + left → more ≡ e ∷ rest → left < weight what e.1
    → false ≡ is_few os what
too_many what os more rest e left whole next over =
    let here : weight what e.1 + total (weight what) rest + limit what ≡ total (weight what) os + left =
    ap (λ es. total (weight what) es + limit what) (sym next) ∙ whole in
    sym (lt-leb (total (weight what) os) (limit what) (omega (arith, here, over)))

-- if nothing more counts, there was enough
pub enough : (what : Counted) (os more : List (Key × Object)) (left : ℕ)
    → total (weight what) more + limit what ≡ total (weight what) os + left → more ≡ [] → true ≡ is_few os what
enough what os more left whole none =
    let here : 0 + limit what ≡ total (weight what) os + left = ap (λ es. total (weight what) es + limit what) (sym none) ∙ whole in
    sym (le-leb (total (weight what) os) (limit what) (omega (arith, here)))

-- ---- one more, and one less

moved : (own rest most : ℕ) → rest ≤ most → nat_le own (most - rest) ≡ nat_le (rest + own) most
moved own rest most within = elim (cases_lt most (rest + own)) [
  | inl over ↦ lt-leb own (most - rest) (omega (arith, over, within)) ∙ sym (lt-leb (rest + own) most over)
  | inr fits ↦ le-leb own (most - rest) (omega (arith, fits, within)) ∙ sym (le-leb (rest + own) most fits)
]

-- with an object put among them, objects are few exactly if it counts no more than the others leave
pub few_with : (what : Counted) (o : Object) (os : List (Key × Object)) (rest own most : ℕ) → own ≡ weight what o → most ≡ limit what
    → IsStrictlySortedBy key_cmp (keys_of os) → AreFew os → rest + held_weight what o.key os ≡ total (weight what) os
    → nat_le own (most - rest) ≡ is_few (with_object o os) what
few_with what o os rest own most counts may sorted few parts =
    let behind : rest + own ≡ total (weight what) (with_object o os) = omega (arith, put_total what o os sorted, parts, counts) in
    let within : rest ≤ most = omega (arith, few_limit what os few, parts, may) in
    moved own rest most within ∙ ap (λ n. nat_le n most) behind ∙ ap (nat_le (total (weight what) (with_object o os))) may

-- without one of them objects are few as before
pub few_without : (k : Key) (os : List (Key × Object)) → AreFew os → true ≡ are_few (remove_entry (is_at (key_cmp k)) os)
few_without k os few =
    all_few (remove_entry (is_at (key_cmp k)) os) (λ what. omega (arith, without_total what k os, few_limit what os few))

-- with one put among them objects count what the others count, and what it counts, which is little
pub put_small : (what : Counted) (o : Object) (os : List (Key × Object)) (rest own : ℕ) → own ≡ weight what o
    → IsStrictlySortedBy key_cmp (keys_of os) → AreFew (with_object o os) → rest + held_weight what o.key os ≡ total (weight what) os
    → (rest + own ≡ total (weight what) (with_object o os)) × (rest + own ≤ 4096)
put_small what o os rest own counts sorted few parts =
    let all : rest + own ≡ total (weight what) (with_object o os) = omega (arith, put_total what o os sorted, parts, counts) in
    (all, omega (arith, all, small_total what (with_object o os) few))

-- without the one under a key objects count what the others count
pub left_total : (what : Counted) (k : Key) (os : List (Key × Object)) (rest : ℕ)
    → rest + held_weight what k os ≡ total (weight what) os → rest ≡ total (weight what) (remove_entry (is_at (key_cmp k)) os)
left_total what k os rest parts = omega (arith, without_total what k os, parts)
