use Rattle.std.proofs.Common.{◌≡◌}
use Rattle.vap_cli_lines.proofs.line_queue.Early.read_part.Given as goal

abbrev pub invariant-loop-place : goal.invariant-loop-place
invariant-loop-place g l = l.lines ≡ l.fn.lines
