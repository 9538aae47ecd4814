use Rattle.std.proofs.Common.{◌≡◌, ◌++◌, map}
use Rattle.vap_plane_gathering.specs.declared.gathering.Came.TheVariants.{Once}
use Rattle.vap_plane_gathering.proofs.gathering.in_order.Given as goal

abbrev pub invariant-loop-slot : goal.invariant-loop-slot
invariant-loop-slot l = (l.yielded ≡ map Once l.verdicts.items) × (l.yielded ++ l.slot-iterator.rest.items ≡ l.fn.slots.items)
