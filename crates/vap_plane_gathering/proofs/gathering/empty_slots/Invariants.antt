use Rattle.std.proofs.Common.{◌≡◌, replicate}
use Rattle.vap_plane_gathering.specs.declared.gathering.Came.TheVariants.{Never}
use Rattle.vap_plane_gathering.proofs.gathering.empty_slots.Given as goal

abbrev pub invariant-loop-number : goal.invariant-loop-number
invariant-loop-number l = l.slots.items ≡ replicate l._number Never
