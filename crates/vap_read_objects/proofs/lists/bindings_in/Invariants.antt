use Rattle.std.specs.List.{flat_map}
use Rattle.vap_read_objects.specs.Classes.{is_binding, of_class}
use Rattle.vap_read_objects.specs.Listed.{binding_read}
use Rattle.vap_read_objects.proofs.Gathering.{IsGathered}
use Rattle.vap_read_objects.proofs.lists.bindings_in.Given as goal

abbrev pub invariant-loop-key : goal.invariant-loop-key
invariant-loop-key l = record {
  can_next : goal.iterator-loop-key.can_next l.key-iterator;
  is_finite : goal.iterator-loop-key.is_finite l.key-iterator;
  gathered : IsGathered (flat_map binding_read (of_class is_binding l.objects)) (flat_map binding_read l.key-iterator) l.bindings.items;
}
