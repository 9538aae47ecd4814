-- What an operand is.
use Rattle.cel_value.specs.declared.value.Value.{Value}
use Rattle.cel_machine.specs.declared.operand.Held.{Held}
use Rattle.cel_machine.specs.declared.operand.Held.TheVariants.{Lent, Own}

-- the value, wherever it is
abbrev pub content_of : Held → Value
content_of (Lent r) = r.now
content_of (Own v) = v
