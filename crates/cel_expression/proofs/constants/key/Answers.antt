use Rattle.std.proofs.Common.{refl}
use Rattle.cel_value.specs.declared.value.Value as value
use Rattle.cel_expression.proofs.constants.key.Goals as goal

pub returns-in-Uint : goal.returns-in-Uint
unfolding value.out-Value denote.Hole.Carrier.out
returns-in-Uint c = rw c.in-Uint.is refl
