use Rattle.std.proofs.Common.{◌≡◌, ◌++◌, drop}
use Rattle.vap_read_objects.proofs.blocks.add_shared.Given as goal

abbrev pub invariant-loop-value : goal.invariant-loop-value
invariant-loop-value g l = l.all.items ++ drop l.value-index l.values ≡ l.initial.all.items ++ l.values
