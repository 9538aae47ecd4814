use Rattle.std.proofs.Common.{refl}
use Rattle.vap_read_objects.proofs.Taken.{nothing_within}
use Rattle.vap_read_objects.proofs.objects.Objects.new.Goals as goal

pub invariant_of-result : goal.invariant_of-result
invariant_of-result c = rw c.new.ensures (nothing_within, refl)
