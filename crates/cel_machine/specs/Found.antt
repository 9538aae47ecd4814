-- What an index finds.
use Rattle.cel_operators.specs.declared.operator.Made.{Made}
use Rattle.cel_machine.specs.declared.index.Found.{Found}

-- as what an operator makes
abbrev pub made_by : Found → Made
made_by f = record { outcome = f.operand; charge = f.charge }
