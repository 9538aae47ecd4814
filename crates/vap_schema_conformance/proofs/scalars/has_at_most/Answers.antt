use Rattle.std.proofs.Common.{ℕ, ◌≤◌, List, [], ◌∷◌, length, arith, inl, inr}
use Rattle.std.proofs.lemmas.Bool.{cases_Bool}
use Rattle.cel_value.specs.Value.{begins, code_points}
use Rattle.vap_schema_conformance.proofs.scalars.has_at_most.Goals as goal

-- a text has no more code points than bytes
code_points_most : (bytes : List ℕ) → code_points bytes ≤ length bytes
code_points_most [] = omega arith
code_points_most (b ∷ bytes) = elim (cases_Bool (begins b)) [
  | inl h ↦ rw h (omega (arith, code_points_most bytes))
  | inr h ↦ rw h (omega (arith, code_points_most bytes))
]

pub returns-then-text-max : goal.returns-then-text-max
returns-then-text-max c = λ _. omega (arith, c.if-text-max.true, code_points_most c.args.text.now)
