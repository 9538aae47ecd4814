-- Variables that can be run after what the slots hold.
use Rattle.std.specs.Prelude.{◌≡◌, true, List}
use Rattle.cel_value.specs.declared.cel_type.CelType.{CelType}
use Rattle.cel_operators.specs.Outcomes.{Outcome, slots_fit}
use Rattle.cel_expression.specs.Source.{Source}
use Rattle.vap_policy_programs.specs.Ready.{Follow}

-- the slots fit some types, and the variables follow one another from these on
pub record CanRun (ss : List Source) (slots : List Outcome) (last : List CelType) : Type 0 where
  pub types : List CelType
  pub fit : slots_fit types slots ≡ true
  pub follow : Follow types ss last
