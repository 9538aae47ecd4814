-- A run of the image of an expression gives what the definitions say of its text.
use Rattle.std.proofs.Common.{◌≡◌, ◌≤◌, ℕ, List, Option, Some, None, IsTrue, true, refl, sym, ap, ◌∙◌, arith}
use Rattle.std.specs.Prelude.{option_map}
use Rattle.cel_value.specs.declared.cel_type.CelType.{CelType}
use Rattle.cel_check.specs.declared.tree.TypedTree.{TypedTree}
use Rattle.cel_check.specs.Meaning.{type_of, value_of, cost_of}
use Rattle.cel_check.specs.Typing.{types_in}
use Rattle.cel_operators.specs.Outcomes.{Outcome, outcome_fits, slots_fit, outside}
use Rattle.cel_code.specs.declared.image.Image.{Image}
use Rattle.cel_code.specs.Machine.{Run}
use Rattle.cel_code.specs.Matches.{HasMatches}
use Rattle.cel_expression.proofs.OneRun.{one_run}
use Rattle.cel_expression.specs.Expressions.{Ran, ran_in, run_of, type_in, type_at, estimate_in, estimate_at}
use Rattle.cel_expression.specs.Faithful.{IsFaithful}
use Rattle.cel_expression.specs.Images.{IsImageOf}
use Rattle.cel_expression.specs.Patterns.{MayMatch}
use Rattle.cel_expression.specs.Source.{Source}
use Rattle.cel_machine.proofs.Spelled.{may_match}

-- what a run resulted in, and what it charged
abbrev ran_as : Outcome → ℕ → Ran
ran_as x n = record { outcome = x; charged = n }

-- an outcome that fits is there
is_some : (t : CelType) (o : Option Outcome) → IsTrue (outcome_fits t o) → (x : Outcome) × (o ≡ Some x)
is_some t None h = absurd (cc h)
is_some t (Some x) h = (x, refl)

-- the outcome of a run is the tree's, and the charge its cost
record IsOf (tree : TypedTree) (slots : List Outcome) (x : Outcome) (charged : ℕ) : Type 0 where
  value : value_of tree (outside slots) ≡ Some x
  cost : cost_of tree (outside slots) ≡ charged

module _ (s : Source) (p : Image) (f : IsFaithful s p) (slots : List Outcome) (x : Outcome) (charged steps : ℕ)
    (fit : slots_fit (types_in s.names) slots ≡ true) (run : Run p slots x charged steps) where
  ran : IsOf f.tree slots x charged
  ran =
      let (y, is) = is_some _ _ (f.preserves slots fit) in
      let (n, whole) = f.computes slots y is in
      let same = one_run p slots y x _ _ _ _ whole run in
      record { value = is ∙ ap Some same.outcome; cost = same.charge }

  pub run_is : run_of s slots ≡ Some (ran_as x charged)
  unfolding run_of
  run_is =
      ap (λ t. ran_in t slots) f.accepted
      ∙ ap (option_map (λ y. ran_as y (cost_of f.tree (outside slots)))) ran.value
      ∙ ap (λ n. Some (ran_as x n)) ran.cost

  pub run_fits : outcome_fits (type_at s) (Some x) ≡ true
  unfolding type_at
  run_fits =
      ap (λ t. outcome_fits (type_in t) (Some x)) f.accepted ∙ ap (outcome_fits (type_of f.tree)) (sym ran.value)
      ∙ f.preserves slots fit

  pub run_within : charged ≤ estimate_at s
  unfolding estimate_at
  run_within = omega (arith, ran.cost, f.bounds slots fit, ap estimate_in f.accepted)

-- an image that looks for a pattern is of a text in which `matches` is given a literal one
pub run_matches : (s : Source) (p : Image) → IsImageOf s p → HasMatches p → MayMatch s
run_matches s p image looks = may_match s image.tree p (types_in s.names) image.accepted image.compiled looks
