-- A well typed expression charges no more than its estimate.
use Rattle.std.proofs.Common.{◌≡◌, ℕ, ◌+◌, ◌*◌, ◌≤◌, Bool, true, false, ◌&&◌, max, List, [], ◌∷◌, map, length, Option, Some, None, refl}
use Rattle.std.proofs.Common.{sym, ap}
use Rattle.std.proofs.Common.{◌∙◌, subst, true≢false, arith}
use Rattle.std.proofs.Math.Nat.{mul-le-mul_right}
use Rattle.std.proofs.lemmas.Bool.{and_parts, and_from}
use Rattle.std.specs.Prelude.{Result, Ok, Err}
use Rattle.std.specs.List.{list_all}
use Rattle.cel_value.specs.declared.expr.Entry.{Entry}
use Rattle.cel_value.specs.declared.value.Value.{Value}
use Rattle.cel_value.specs.declared.cel_type.CelType.{CelType}
use Rattle.cel_value.specs.declared.cel_type.CelType as type
use Rattle.cel_value.specs.declared.cel_error.CelError.{CelError}
use Rattle.cel_value.specs.CelType.{fits, assignable}
use Rattle.cel_value.specs.declared.expr.Loop.{Loop}
use Rattle.cel_value.specs.declared.expr.Loop.TheVariants as loop
use Rattle.cel_check.specs.declared.typed.Typed.{Typed}
use Rattle.cel_operators.specs.declared.accumulator.Accumulator.{Accumulator}
use Rattle.cel_check.specs.declared.tree.TypedTree.{TypedTree, roll-TypedTree}
use Rattle.cel_check.specs.declared.tree.TypedTree.TheOpen.{TypedTree-F}
use Rattle.cel_check.specs.declared.tree.TypedTree.TheFolds.{map-TypedTree, fold-roll-TypedTree, fold_out-TypedTree, ind-TypedTree}
use Rattle.cel_check.specs.declared.tree.Form.{Form}
use Rattle.cel_check.specs.declared.tree.Form.TheVariants.{Literal, Unary, Binary, And, Or, Conditional, ListOf, MapOf, WithText, Slot}
use Rattle.cel_check.specs.declared.tree.Form.TheVariants.{Local, MapWhere}
use Rattle.cel_check.specs.declared.tree.Form.TheVariants as form
use Rattle.cel_operators.specs.Outcomes.{Outcome, Side, Env, Types, outcome_fits, slots_fit, locals_fit, env_fits, outside, types_outside}
use Rattle.cel_operators.specs.Outcomes.{unless_false, unless_true, of_branch}
use Rattle.cel_operators.specs.Wants.{limit_of, taken, side_of, is_truth}
use Rattle.cel_operators.specs.declared.operands.Want.TheVariants.{Ranged}
use Rattle.cel_operators.specs.declared.limit.Span.{Span}
use Rattle.cel_operators.specs.Operators.{row, at_one, at_two, charge_made, type_of_one, type_of_two, greatest_of_one, greatest_of_two}
use Rattle.cel_operators.specs.TextOperators.{row_with}
use Rattle.cel_operators.specs.declared.type_rule.TypeRule.{TypeRule}
use Rattle.cel_operators.specs.Lists.{each_there, list_where, items_type}
use Rattle.cel_operators.specs.Maps.{map_where, entries_type, entries_greatest}
use Rattle.cel_operators.specs.Loops.{Turn, Closes, GoesOn, inside, types_inside, nothing_yet, cost_of_items, charged_behind, cost_over}
use Rattle.cel_operators.specs.Loops.{where_ranged, loop_type}
use Rattle.cel_check.specs.Meaning.{Valuation, Priced, cost_at, priced_step, priced_of, value_of, cost_of, values_at, values_priced}
use Rattle.cel_check.specs.Meaning.{costs_at}
use Rattle.cel_value.specs.Turns.{by_turns}
use Rattle.cel_check.specs.Meaning.{Judged, judged_of, judged_step, right_at, is_right, takes_result, types_judged, each_right}
use Rattle.cel_check.specs.Meaning.{loop_turns, where_turns, where_cost, right_loop, right_where, type_of}
use Rattle.cel_check.proofs.Levels.{part, parts, fused, value_is}
use Rattle.cel_operators.proofs.Rows.{MadeRight, row_right, one_operand, two_operands}
use Rattle.cel_operators.proofs.Taking.{Taken, taken_fits}
use Rattle.cel_operators.proofs.FieldRows.{row_with_right}
use Rattle.cel_operators.proofs.Literals.{EachFits, literal_made}
use Rattle.cel_operators.proofs.MapLiterals.{paired_turns, paired_mapped, literal_map_made}
use Rattle.cel_check.proofs.Preserved.{preserved}
use Rattle.cel_estimate.specs.Estimate.{Rated, sum_of, types_rated, span_max, items_most, estimate_at, rated_step, rated_of, estimate_of}
use Rattle.cel_estimate.proofs.Estimates.{length_mapped}

-- what a row's answer says of each type that takes it
of_taken : (t : CelType) (r : Result CelType TypeRule) (P : CelType → Type 0) → takes_result t r ≡ true
    → ((s : CelType) → r ≡ Ok s → assignable s t ≡ true → P t) → P t
of_taken t (Err e) P h k = absurd (true≢false (sym h))
of_taken t (Ok s) P h k = k s refl h

-- what is charged after an item
behind_le : (turns : Value → Accumulator → Option Turn) (costs : Value → ℕ) (vs : List Value) (n : ℕ)
    → ((a : Accumulator) → cost_of_items turns costs vs a ≤ n)
    → (t : Option Turn) → charged_behind t (cost_of_items turns costs vs) ≤ n
behind_le turns costs vs n h None = omega arith
behind_le turns costs vs n h (Some (Closes x)) = omega arith
behind_le turns costs vs n h (Some (GoesOn b)) = h b

-- what items charge, if the bodies at each charge at most n
items_le : (turns : Value → Accumulator → Option Turn) (costs : Value → ℕ) (p : Value → Bool) (n : ℕ)
    → ((v : Value) → p v ≡ true → costs v ≤ n) → (vs : List Value) → list_all p vs ≡ true
    → (a : Accumulator) → cost_of_items turns costs vs a ≤ length vs * (1 + n)
items_le turns costs p n h [] k a = omega arith
items_le turns costs p n h (v ∷ vs) k a =
    let q = and_parts (p v) (list_all p vs) k in
    let rest = behind_le turns costs vs (length vs * (1 + n)) (items_le turns costs p n h vs q.1) (turns v a) in
    omega (arith, h v q.0, rest)

-- what a range's items charge, if the range is of its type
range_le : (turns : Value → Accumulator → Option Turn) (costs : Value → ℕ) (n : ℕ) (span : Span)
    → ((v : Value) → fits v span.item ≡ true → costs v ≤ n) → (x : Option (Result (List Value) CelError)) → Taken Ranged span x
    → cost_over x (λ vs. cost_of_items turns costs vs nothing_yet) ≤ span.max * (1 + n)
range_le turns costs n span h None k = absurd k
range_le turns costs n span h (Some (Err e)) k = omega arith
range_le turns costs n span h (Some (Ok vs)) k =
    omega (arith, items_le turns costs (λ v. fits v span.item) n h vs k.1 nothing_yet, mul-le-mul_right (1 + n) k.0)

unless_false_le : (x : Option Side) (n : ℕ) → unless_false x n ≤ n
unless_false_le None n = omega arith
unless_false_le (Some (Ok false)) n = omega arith
unless_false_le (Some (Ok true)) n = omega arith
unless_false_le (Some (Err e)) n = omega arith

unless_true_le : (x : Option Side) (n : ℕ) → unless_true x n ≤ n
unless_true_le None n = omega arith
unless_true_le (Some (Ok false)) n = omega arith
unless_true_le (Some (Ok true)) n = omega arith
unless_true_le (Some (Err e)) n = omega arith

of_branch_le : (x : Option Side) (m n : ℕ) → of_branch x m n ≤ max m n
of_branch_le None m n = omega arith
of_branch_le (Some (Ok true)) m n = omega arith
of_branch_le (Some (Ok false)) m n = omega arith
of_branch_le (Some (Err e)) m n = omega arith

-- in each fitting environment, no more than the estimate
abbrev Bounded : TypedTree → Type 0
Bounded e = (types : Types) (env : Env) → is_right e types ≡ true → env_fits types env ≡ true → cost_of e env ≤ estimate_of e

abbrev Such : Type 0
Such = (e : TypedTree) × Bounded e

abbrev judged : Such → Judged
judged e = judged_of e.0

abbrev priced : Such → Priced
priced e = priced_of e.0

abbrev rated : Such → Rated
rated e = rated_of e.0

judged_type : (e : TypedTree) → (judged_of e).type ≡ type_of e
judged_type e = ap (λ j. j.type) (fold_out-TypedTree Judged judged_step e)

rated_same : (e : TypedTree) → (rated_of e).type ≡ (judged_of e).type
rated_same e =
    ap (λ r. r.type) (fold_out-TypedTree Rated rated_step e) ∙ sym (judged_type e)

types_same : (xs : List Such) → types_rated (map rated xs) ≡ types_judged (map judged xs)
types_same [] = refl
types_same (a ∷ xs) =
    ap (λ t. t ∷ types_rated (map rated xs)) (rated_same a.0) ∙ ap (λ ts. (judged a).type ∷ ts) (types_same xs)

types_same_turns : (es : List (Entry Such)) → types_rated (by_turns (parts rated es)) ≡ types_judged (by_turns (parts judged es))
types_same_turns [] = refl
types_same_turns (e ∷ es) =
    ap (λ t. t ∷ (rated e.value).type ∷ types_rated (by_turns (parts rated es))) (rated_same e.key.0)
    ∙ ap (λ t. (judged e.key).type ∷ t ∷ types_rated (by_turns (parts rated es))) (rated_same e.value.0)
    ∙ ap (λ ts. (judged e.key).type ∷ (judged e.value).type ∷ ts) (types_same_turns es)

module _ (types : Types) (env : Env) (h : env_fits types env ≡ true) where
  -- the value of a part is of its type
  abbrev good : (e : Such) → is_right e.0 types ≡ true → outcome_fits (judged e).type ((priced e).value env) ≡ true
  good e g =
      ap (λ t. outcome_fits t ((priced e).value env)) (judged_type e.0) ∙ ap (λ v. outcome_fits (type_of e.0) (v env)) (value_is e.0)
      ∙ preserved e.0 types env g h

  abbrev bounded : (e : Such) → is_right e.0 types ≡ true → (priced e).cost env ≤ (rated e).most
  bounded e g = e.1 types env g h

  each_good : (xs : List Such) → each_right (map judged xs) types ≡ true
      → EachFits (types_judged (map judged xs)) (values_at (values_priced (map priced xs)) env)
  each_good [] g = tt
  each_good (a ∷ xs) g =
      let p = and_parts (is_right a.0 types) (each_right (map judged xs) types) g in
      (good a p.0, each_good xs p.1)

  each_bounded : (xs : List Such) → each_right (map judged xs) types ≡ true → costs_at (map priced xs) env ≤ sum_of (map rated xs)
  each_bounded [] g = omega arith
  each_bounded (a ∷ xs) g =
      let p = and_parts (is_right a.0 types) (each_right (map judged xs) types) g in
      omega (arith, bounded a p.0, each_bounded xs p.1)

  each_good_entry : (es : List (Entry Such)) → each_right (by_turns (parts judged es)) types ≡ true
      → EachFits (types_judged (by_turns (parts judged es))) (values_at (values_priced (by_turns (parts priced es))) env)
  each_good_entry [] g = tt
  each_good_entry (e ∷ es) g =
      let p = and_parts (is_right e.key.0 types) (is_right e.value.0 types && each_right (by_turns (parts judged es)) types) g in
      let q = and_parts (is_right e.value.0 types) (each_right (by_turns (parts judged es)) types) p.1 in
      (good e.key p.0, (good e.value q.0, each_good_entry es q.1))

  each_entry_bounded : (es : List (Entry Such)) → each_right (by_turns (parts judged es)) types ≡ true
      → costs_at (by_turns (parts priced es)) env ≤ sum_of (by_turns (parts rated es))
  each_entry_bounded [] g = omega arith
  each_entry_bounded (e ∷ es) g =
      let p = and_parts (is_right e.key.0 types) (is_right e.value.0 types && each_right (by_turns (parts judged es)) types) g in
      let q = and_parts (is_right e.value.0 types) (each_right (by_turns (parts judged es)) types) p.1 in
      omega (arith, bounded e.key p.0, bounded e.value q.0, each_entry_bounded es q.1)

  -- a loop over a range, whose bodies charge at most n at each item
  over : (a : Such) (o : Option Span) (turns : Value → Accumulator → Option Turn) (costs : Value → ℕ) (n : ℕ) (p : Span → Bool)
      → limit_of Ranged (judged a).type ≡ o → is_right a.0 types ≡ true → where_ranged o p ≡ true
      → ((span : Span) → p span ≡ true → (v : Value) → fits v span.item ≡ true → costs v ≤ n)
      → cost_over (taken Ranged ((priced a).value env)) (λ vs. cost_of_items turns costs vs nothing_yet) ≤ span_max o * (1 + n)
  over a None turns costs n p e g k f = absurd (true≢false (sym k))
  over a (Some span) turns costs n p e g k f =
      range_le turns costs n span (f span k) (taken Ranged ((priced a).value env))
      (taken_fits Ranged (judged a).type ((priced a).value env) span e (good a g))

  -- inside a loop the environment fits too
  fits_inside : (v : Value) (t : CelType) → fits v t ≡ true → env_fits (types_inside t types) (inside v env) ≡ true
  fits_inside v t k =
      let p = and_parts (slots_fit types.slots env.slots) (locals_fit types.locals env.locals) h in
      and_from (slots_fit types.slots env.slots) (fits v t && locals_fit types.locals env.locals) p.0
      (and_from (fits v t) (locals_fit types.locals env.locals) k p.1)

  level : (t : CelType) (y : Form Such) → right_at t (part judged t y) types ≡ true
      → cost_at (part priced t y) env ≤ estimate_at (part rated t y)
  level t (Literal v) g = omega arith
  level t (Slot n) g = omega arith
  level t (Local d) g = omega arith
  level t (Unary op a) g =
      let p = and_parts (is_right a.0 types) (takes_result t (type_of_one (row op) (judged a).type)) g in
      of_taken t (type_of_one (row op) (judged a).type)
      (λ u. cost_at (part priced t (Unary op a)) env ≤ estimate_at (part rated t (Unary op a))) p.1
      (λ s e w.
      let m = one_operand (row op) (judged a).type s ((priced a).value env) (row_right op) e (good a p.0) in
      omega (arith, bounded a p.0, m.1, ap (greatest_of_one (row op)) (rated_same a.0)))
  level t (Binary op a b) g =
      let p =
      and_parts (is_right a.0 types && is_right b.0 types) (takes_result t (type_of_two (row op) (judged a).type (judged b).type)) g in
      let q = and_parts (is_right a.0 types) (is_right b.0 types) p.0 in
      of_taken t (type_of_two (row op) (judged a).type (judged b).type)
      (λ u. cost_at (part priced t (Binary op a b)) env ≤ estimate_at (part rated t (Binary op a b))) p.1
      (λ s e w.
      let m =
      two_operands (row op) (judged a).type (judged b).type s ((priced a).value env) ((priced b).value env) (row_right op) e (good a q.0)
      (good b q.1) in
      omega (
        arith,
        bounded a q.0,
        bounded b q.1,
        m.1,
        ap (λ u. greatest_of_two (row op) u (rated b).type) (rated_same a.0),
        ap (greatest_of_two (row op) (judged a).type) (rated_same b.0),
      ))
  level t (And a b) g =
      let p =
      and_parts (is_right a.0 types && is_right b.0 types)
      ((is_truth (judged a).type && is_truth (judged b).type) && assignable type.Bool t) g in
      let q = and_parts (is_right a.0 types) (is_right b.0 types) p.0 in
      omega (arith, bounded a q.0, bounded b q.1, unless_false_le (side_of ((priced a).value env)) ((priced b).cost env))
  level t (Or a b) g =
      let p =
      and_parts (is_right a.0 types && is_right b.0 types)
      ((is_truth (judged a).type && is_truth (judged b).type) && assignable type.Bool t) g in
      let q = and_parts (is_right a.0 types) (is_right b.0 types) p.0 in
      omega (arith, bounded a q.0, bounded b q.1, unless_true_le (side_of ((priced a).value env)) ((priced b).cost env))
  level t (Conditional c a b) g =
      let p =
      and_parts ((is_right c.0 types && is_truth (judged c).type) && (is_right a.0 types && is_right b.0 types))
      (assignable (judged a).type t && assignable (judged b).type t) g in
      let q = and_parts (is_right c.0 types && is_truth (judged c).type) (is_right a.0 types && is_right b.0 types) p.0 in
      let r = and_parts (is_right c.0 types) (is_truth (judged c).type) q.0 in
      let s = and_parts (is_right a.0 types) (is_right b.0 types) q.1 in
      omega (
        arith,
        bounded c r.0,
        bounded a s.0,
        bounded b s.1,
        of_branch_le (side_of ((priced c).value env)) ((priced a).cost env) ((priced b).cost env),
      )
  level t (ListOf xs) g =
      let types_of_items = types_judged (map judged xs) in
      let p = and_parts (each_right (map judged xs) types) (takes_result t (items_type types_of_items)) g in
      of_taken t (items_type types_of_items)
      (λ u. cost_at (part priced t (ListOf xs)) env ≤ estimate_at (part rated t (ListOf xs))) p.1
      (λ s e w.
      let m = literal_made types_of_items (values_at (values_priced (map priced xs)) env) s e (each_good xs p.0) in
      omega (
        arith,
        each_bounded xs p.0,
        m.1,
        length_mapped Such Rated rated xs,
        length_mapped Such Judged judged xs,
        length_mapped Judged CelType (λ x. x.type) (map judged xs),
      ))
  level t (MapOf es) g =
      let types_by_turns = types_judged (by_turns (parts judged es)) in
      let p = and_parts (each_right (by_turns (parts judged es)) types) (takes_result t (entries_type types_by_turns)) g in
      of_taken t (entries_type types_by_turns)
      (λ u. cost_at (part priced t (MapOf es)) env ≤ estimate_at (part rated t (MapOf es))) p.1
      (λ s e w.
      let m =
      literal_map_made types_by_turns (values_at (values_priced (by_turns (parts priced es))) env) s
      (paired_mapped (λ x. x.type) (by_turns (parts judged es)) (paired_turns (parts judged es))) e (each_good_entry es p.0) in
      omega (arith, each_entry_bounded es p.0, m.1, ap entries_greatest (types_same_turns es)))
  level t (WithText op a text) g =
      let p = and_parts (is_right a.0 types) (takes_result t (type_of_one (row_with op text) (judged a).type)) g in
      of_taken t (type_of_one (row_with op text) (judged a).type)
      (λ u. cost_at (part priced t (WithText op a text)) env ≤ estimate_at (part rated t (WithText op a text))) p.1
      (λ s e w.
      let m = one_operand (row_with op text) (judged a).type s ((priced a).value env) (row_with_right op text) e (good a p.0) in
      omega (arith, bounded a p.0, m.1, ap (greatest_of_one (row_with op text)) (rated_same a.0)))
  level t (form.Loop l a b) g =
      let p = and_parts (is_right a.0 types) (where_ranged (limit_of Ranged (judged a).type) (right_loop t l (judged b) types)) g in
      let m =
      over a (limit_of Ranged (judged a).type) (loop_turns l (priced b).value env) (λ v. (priced b).cost (inside v env)) (rated b).most
      (right_loop t l (judged b) types) refl p.0 p.1
      (λ span k v f.
      let q = and_parts (is_right b.0 (types_inside span.item types)) (takes_result t (loop_type l span (judged b).type)) k in
      b.1 (types_inside span.item types) (inside v env) q.0 (fits_inside v span.item f)) in
      omega (arith, bounded a p.0, m, ap (λ u. items_most u * (1 + (rated b).most)) (rated_same a.0))
  level t (MapWhere a c b) g =
      let p = and_parts (is_right a.0 types) (where_ranged (limit_of Ranged (judged a).type) (right_where t (judged c) (judged b) types)) g
      in
      let m =
      over a (limit_of Ranged (judged a).type) (where_turns (priced c).value (priced b).value env) (where_cost (priced c) (priced b) env)
      ((rated c).most + (rated b).most) (right_where t (judged c) (judged b) types) refl p.0 p.1
      (λ span k v f.
      let inner = types_inside span.item types in
      let q =
      and_parts (is_right c.0 inner && is_truth (judged c).type)
      (is_right b.0 inner && takes_result t (loop_type loop.Map span (judged b).type)) k in
      let r = and_parts (is_right c.0 inner) (is_truth (judged c).type) q.0 in
      let s = and_parts (is_right b.0 inner) (takes_result t (loop_type loop.Map span (judged b).type)) q.1 in
      omega (
        arith,
        c.1 inner (inside v env) r.0 (fits_inside v span.item f),
        b.1 inner (inside v env) s.0 (fits_inside v span.item f),
        of_branch_le (side_of ((priced c).value (inside v env))) ((priced b).cost (inside v env)) 0,
      )) in
      omega (arith, bounded a p.0, m, ap (λ u. items_most u * (1 + ((rated c).most + (rated b).most))) (rated_same a.0))

step : (y : TypedTree-F Such) → Bounded (roll-TypedTree (map-TypedTree _ _ (λ e. e.0) y))
step y = λ types env g h.
    let z = map-TypedTree _ _ (λ e. e.0) y in
    let j : judged_of (roll-TypedTree z) ≡ judged_step (map-TypedTree _ _ judged y) =
    fold-roll-TypedTree Judged judged_step z ∙ ap judged_step (fused Such TypedTree Judged judged_of (λ e. e.0) y) in
    let c : priced_of (roll-TypedTree z) ≡ priced_step (map-TypedTree _ _ priced y) =
    fold-roll-TypedTree Priced priced_step z ∙ ap priced_step (fused Such TypedTree Priced priced_of (λ e. e.0) y) in
    let r : rated_of (roll-TypedTree z) ≡ rated_step (map-TypedTree _ _ rated y) =
    fold-roll-TypedTree Rated rated_step z ∙ ap rated_step (fused Such TypedTree Rated rated_of (λ e. e.0) y) in
    let l = level types env h y.cel_type y.form (sym (ap (λ x. x.right types) j) ∙ g) in
    omega (arith, l, ap (λ x. x.cost env) c, ap (λ x. x.most) r)

pub bounded_by_estimate : (e : TypedTree) → Bounded e
bounded_by_estimate = ind-TypedTree Bounded (λ x y is. subst (λ z. Bounded (roll-TypedTree z)) is (step y))

pub bounded_outside : (typed : Typed) (slots : List Outcome) → slots_fit typed.slots slots ≡ true
    → cost_of typed.tree (outside slots) ≤ estimate_of typed.tree
bounded_outside typed slots h =
    bounded_by_estimate typed.tree (types_outside typed.slots) (outside slots) typed.well_typed
    (and_from (slots_fit typed.slots slots) true h refl)
