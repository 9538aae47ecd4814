use Rattle.std.proofs.Common.{◌≡◌, ◌<◌, ◌+◌, ◌-◌, ℕ, suc, Bool, true, false, cond, List, [], ◌∷◌, length, drop, take, get_or, map, filter}
use Rattle.std.proofs.Common.{Option, Some, None, refl, sym, ap, ◌∙◌, subst, true≢false, is_some, bytes_eq, add-one, drop-cons}
use Rattle.std.proofs.Common.{take_all, length-drop, rules, arith}
use Rattle.std.proofs.lemmas.Grind.{common_steps}
use Rattle.base_containers.specs.Keys.{IsInKeyOrder, value_under, with_entry}
use Rattle.base_containers.specs.declared.text.Keyed.{Keyed}
use Rattle.vap_read_objects.proofs.Names.{same_text}
use Rattle.vap_policy_verdict.specs.DecisionAnnotations.{each_once, failure_annotation, joined, values_at}
use Rattle.vap_policy_verdict.proofs.ByKey.{value_with}
use Rattle.vap_policy_verdict.proofs.Grouped.{IsGrouping, begun, added, done, known, found_none, found_there}
use Rattle.vap_policy_verdict.proofs.decision_annotations.annotations_from.Goals as goal
use Rattle.vap_policy_verdict.proofs.decision_annotations.annotations_from.Goals.{then-is_none+in_ok-values+in_ok-copy+in_ok-insert}
use Rattle.vap_policy_verdict.proofs.decision_annotations.annotations_from.Goals.{else-is_none}

abbrev Entry : Type 0
Entry = Keyed (List ℕ)

-- an entry under another key adds no value
passed : (k : List ℕ) (e : Entry) (rest : List Entry) → bytes_eq e.key k ≡ false
    → values_at k (e ∷ rest) ≡ values_at k rest
passed k e rest other =
    ap (λ b. each_once (map (λ (x : Entry). x.value)
    (cond b (e ∷ filter (λ x. bytes_eq x.key k) rest) (filter (λ x. bytes_eq x.key k) rest)))) other

-- what is left at a place begins with the entry there
next : (all : List Entry) (i : ℕ) (e : Entry) → i < length all → e ≡ get_or all i e
    → drop i all ≡ e ∷ drop (i + 1) all
next all i e lt is =
    drop-cons all i e lt ∙ ap (λ (y : Entry). y ∷ drop (suc i) all) (sym is)
    ∙ ap (λ (k : ℕ). e ∷ drop k all) (sym (add-one i))

-- a key that has no value is not that of an entry which has one
apart : (k : List ℕ) (e : Entry) (made : List Entry) (b : Bool) → bytes_eq e.key k ≡ b
    → is_some (value_under e.key made) ≡ true → value_under k made ≡ None → b ≡ false
apart k e made true same there none =
    let here : is_some (value_under k made) ≡ true = subst (λ q. is_some (value_under q made) ≡ true) (same_text e.key k same) there in
    absurd (true≢false (sym here ∙ ap is_some none))
apart k e made false same there none = refl

-- a key without a value is neither that of the first entry nor one of the others
neither : (b : Bool) (v : List ℕ) (o : Option (List ℕ)) → cond b (Some v) o ≡ None → (b ≡ false) × (o ≡ None)
neither true v o h = absurd (true≢false (ap is_some h))
neither false v o h = (refl, h)

-- under the key of no entry that was passed, what is left has the values of all
passed_at : (all : List Entry) (i : ℕ) (e : Entry) (k : List ℕ) → i < length all → e ≡ get_or all i e
    → bytes_eq e.key k ≡ false → values_at k (drop i all) ≡ values_at k all → values_at k (drop (i + 1) all) ≡ values_at k all
passed_at all i e k lt is other before =
    sym (passed k e (drop (i + 1) all) other) ∙ ap (values_at k) (sym (next all i e lt is)) ∙ before

-- so where the entry's key has a value
known_left : (all made : List Entry) (i : ℕ) (e : Entry) → i < length all → e ≡ get_or all i e
    → is_some (value_under e.key made) ≡ true
    → ((k : List ℕ) → value_under k made ≡ None → values_at k (drop i all) ≡ values_at k all)
    → (k : List ℕ) → value_under k made ≡ None → values_at k (drop (i + 1) all) ≡ values_at k all
known_left all made i e lt is there before k none =
    passed_at all i e k lt is (apart k e made (bytes_eq e.key k) refl there none) (before k none)

-- and where it is given one
added_left : (all made new : List Entry) (v : List ℕ) (i : ℕ) (e : Entry) → i < length all → e ≡ get_or all i e
    → value_under e.key made ≡ None → new ≡ with_entry e.key v made
    → ((k : List ℕ) → value_under k made ≡ None → values_at k (drop i all) ≡ values_at k all)
    → (k : List ℕ) → value_under k new ≡ None → values_at k (drop (i + 1) all) ≡ values_at k all
added_left all made new v i e lt is absent same before k none =
    let two = neither (bytes_eq e.key k) v (value_under k made)
    (sym (value_with k e.key v made absent) ∙ ap (value_under k) (sym same) ∙ none) in
    passed_at all i e k lt is two.0 (before k two.1)

pub loop-place-init : goal.loop-place-init
loop-place-init c =
    let first = failure_annotation c.args.findings.now in
    let made : c.in_ok-made.made ≡ first = first_of (search rules, grind (arith, common_steps)) in
    let order : IsInKeyOrder c.in_ok-made.made = first_of (search rules, grind (arith, common_steps)) in
    record {
      grouped = subst (λ m. IsGrouping first c.args.entries.now c.args.entries.now m) (sym made)
          (begun first c.args.entries.now (subst (λ m. IsInKeyOrder m) made order));
      left = λ k none. refl;
    }

pub loop-place-preserved : goal.loop-place-preserved
loop-place-preserved c =
    let l = c.loop-place in
    let first = failure_annotation c.args.findings.now in
    let all = c.args.entries.now in
    let e = c.index-entries-place.result in
    elim c.if-is_none.branch [
      | then-is_none+in_ok-values+in_ok-copy+in_ok-insert w ↦
          let absent : value_under e.key l.made ≡ None = first_of (search (rules, found_none), grind (arith, common_steps, found_none)) in
          let rest : take (length all - l.place) (drop l.place all) ≡ drop l.place all =
          take_all _ (drop l.place all) (omega (arith, length-drop l.place all)) in
          let key : w.as_str-then-is_none.result.now ≡ e.key = w.as_str-then-is_none.ensures in
          let values : w.in_ok-values.values ≡ joined (values_at e.key all) =
          w.in_ok-values.ensures
          ∙ ap (λ es. joined (values_at w.as_str-then-is_none.result.now es)) rest
          ∙ ap (λ k. joined (values_at k (drop l.place all))) key
          ∙ ap joined (l.invariant.left e.key absent) in
          let put : c.if-is_none.made ≡ with_entry e.key w.in_ok-values.values l.made =
          first_of (search rules, grind (arith, common_steps)) in
          let same : c.if-is_none.made ≡ with_entry e.key (joined (values_at e.key all)) l.made =
          put ∙ ap (λ v. with_entry e.key v l.made) values in
          record {
            grouped = added first all l.made c.if-is_none.made l.place e c.loop-place-test.true c.index-entries-place.is absent same
                l.invariant.grouped;
            left = added_left all l.made c.if-is_none.made (joined (values_at e.key all)) l.place e c.loop-place-test.true
                c.index-entries-place.is absent same l.invariant.left;
          }
      | else-is_none w ↦
          let there : is_some (value_under e.key l.made) ≡ true =
          first_of (search (rules, found_there), grind (arith, common_steps, found_there)) in
          let same : c.if-is_none.made ≡ l.made = first_of (search rules, grind (arith, common_steps)) in
          rw same (record {
            grouped = known first all l.made l.place e c.loop-place-test.true c.index-entries-place.is there l.invariant.grouped;
            left = known_left all l.made l.place e c.loop-place-test.true c.index-entries-place.is there l.invariant.left;
          })
    ]

pub returns : goal.returns
returns c =
    let l = c.loop-place in
    let none : drop l.place c.args.entries.now ≡ [] = first_of (search rules, grind (arith, common_steps)) in
    done (failure_annotation c.args.findings.now) c.args.entries.now (drop l.place c.args.entries.now) l.made none l.invariant.grouped
