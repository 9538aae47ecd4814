use Rattle.std.proofs.Common.{◌≡◌, ◌≤◌, drop}
use Rattle.cel_lex.specs.Numbers.{value_of}
use Rattle.cel_lex.proofs.number.number_up_to.Given as goal

abbrev pub invariant-loop-d : goal.invariant-loop-d
invariant-loop-d l = (l.value ≤ l.most) × (value_of l.base l.value (drop l.d-index l.digits) ≡ value_of l.base 0 l.digits)
