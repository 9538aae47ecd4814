use Rattle.std.proofs.Common.{◌≡◌, ◌+◌, false, drop, option_map}
use Rattle.cel_lex.specs.Texts.{closed_at}
use Rattle.cel_lex.proofs.literal.closing.Given as goal

abbrev pub invariant-loop-i : goal.invariant-loop-i
invariant-loop-i l = option_map (λ n. l.i + n) (closed_at l.style l.is_escaped (drop l.i l.inside)) ≡ closed_at l.style false l.inside
