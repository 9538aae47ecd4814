use Rattle.std.specs.List.Sorted.{IsStrictlySortedBy}
use Rattle.base_containers.proofs.text_map.TextMap.new.Goals as goal

pub invariant_of-result : goal.invariant_of-result
unfolding IsStrictlySortedBy
invariant_of-result g c = rw c.new.ensures.items tt
