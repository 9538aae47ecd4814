use Rattle.std.proofs.Common.{◌≡◌, ◌++◌, length}
use Rattle.vap_read_objects.specs.Blocks.{joined}
use Rattle.vap_read_objects.proofs.blocks.add_entries.Given as goal

abbrev pub invariant-loop-rest : goal.invariant-loop-rest
invariant-loop-rest g l = joined l.blocks.items ++ l.rest ≡ joined l.initial.blocks.items ++ l.entries

abbrev pub decreases-loop-rest : goal.decreases-loop-rest
decreases-loop-rest g l = length l.rest
