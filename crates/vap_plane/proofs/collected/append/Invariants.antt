use Rattle.std.proofs.Common.{◌≡◌, ◌++◌}
use Rattle.vap_plane.proofs.collected.append.Given as goal

abbrev pub invariant-loop-answer : goal.invariant-loop-answer
invariant-loop-answer l = l.kept.items ≡ l.initial.kept.items ++ l.yielded
