use Rattle.std.proofs.Common.{◌≡◌, ◌+◌, ℕ, List, get_or, length, ap, sym, ◌∙◌, arith, rules, of_calls}
use Rattle.std.specs.List.Sorted.{IsNonDecreasingBy}
use Rattle.std.specs.Ordering.{nat_cmp, is_lt, ordering_index, ordering_reverse}
use Rattle.std.specs.Cmp.Lexicographic.{slice_cmp}
use Rattle.std.proofs.lemmas.Cmp.{nat_list_cmp_total}
use Rattle.std.proofs.lemmas.Fn.{always_returns_same}
use Rattle.std.proofs.lemmas.List.{get_or-map, length-map}
use Rattle.std.proofs.lemmas.List.Sorted.{searchable_from_sorted}
use Rattle.std.proofs.lemmas.Map.Keys.{Less-from_sorted}
use Rattle.base_containers.specs.Gathered.{Member, names_of, AreInOrder}
use Rattle.base_containers.proofs.Order.{Below}
use Rattle.base_containers.proofs.contents.free_place.Goals as goal

-- how names compare to one rises, as they do
rises : (name : List ℕ) (found : List Member) → AreInOrder found
    → IsNonDecreasingBy (λ m. ordering_index (slice_cmp nat_cmp m.0.now name)) found
rises name found ordered =
    searchable_from_sorted nat_list_cmp_total (λ (m : Member). m.0.now) found name (λ i m low lt.
    let below : Below (get_or found i m).0.now (get_or found (i + 1) m).0.now =
    ap (λ (n : List ℕ). slice_cmp nat_cmp n (get_or found (i + 1) m).0.now)
    (sym (get_or-map (λ (m : Member). m.0.now) found i m m.0.now (omega (arith, lt))))
    ∙ ap (λ (n : List ℕ). slice_cmp nat_cmp (get_or (names_of found) i m.0.now) n)
    (sym (get_or-map (λ (m : Member). m.0.now) found (i + 1) m m.0.now lt))
    ∙ Less-from_sorted (slice_cmp nat_cmp) (names_of found) i (i + 1) m.0.now ordered (omega arith)
    (omega (arith, lt, length-map found (λ (m : Member). m.0.now))) in
    ap is_lt (nat_list_cmp_total.antisymm (get_or found (i + 1) m).0.now (get_or found i m).0.now ∙ ap ordering_reverse below))

pub returns-in-Err-clause-above : goal.returns-in-Err-clause-above
returns-in-Err-clause-above c =
    (c.in-Err.ensures.position (λ m. slice_cmp nat_cmp m.0.now c.args.name.now)
    (always_returns_same _ _ _ (λ a r f k. search (rules, of_calls)))
    (rises c.args.name.now c.args.found.now c.requires)).0

pub returns-in-Err-clause-below : goal.returns-in-Err-clause-below
returns-in-Err-clause-below c =
    (c.in-Err.ensures.position (λ m. slice_cmp nat_cmp m.0.now c.args.name.now)
    (always_returns_same _ _ _ (λ a r f k. search (rules, of_calls)))
    (rises c.args.name.now c.args.found.now c.requires)).1
