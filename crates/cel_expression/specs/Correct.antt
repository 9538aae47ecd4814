-- What the compiler promises.
use Rattle.std.specs.Prelude.{◌≡◌, ℕ, IsTrue, List, Some}
use Rattle.cel_value.specs.declared.cel_type.CelType.{CelType}
use Rattle.cel_check.specs.declared.tree.TypedTree.{TypedTree}
use Rattle.cel_code.specs.declared.image.Image.{Image}
use Rattle.cel_operators.specs.Outcomes.{Outcome, slots_fit, outcome_fits, outside}
use Rattle.cel_check.specs.Meaning.{type_of, value_of, cost_of}
use Rattle.cel_code.specs.Machine.{Run}

-- for all that the slots may hold, the image's run gives the expression's value or error, and charges what it costs
abbrev pub Computes : Image → TypedTree → Type 0
Computes image e = (slots : List Outcome) (x : Outcome) → value_of e (outside slots) ≡ Some x
    → (steps : ℕ) × Run image slots x (cost_of e (outside slots)) steps

-- whatever the slots hold that fits their types, the expression gives an error or a value of its type
abbrev pub Preserves : List CelType → TypedTree → Type 0
Preserves types e =
    (slots : List Outcome) → IsTrue (slots_fit types slots) → IsTrue (outcome_fits (type_of e) (value_of e (outside slots)))
