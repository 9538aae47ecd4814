use Rattle.std.specs.List.{flat_map}
use Rattle.vap_read_objects.specs.Classes.{of_class}
use Rattle.vap_read_objects.specs.Definitions.{is_definition}
use Rattle.vap_read_objects.specs.Listed.{object_named}
use Rattle.vap_read_objects.proofs.Gathering.{IsGathered}
use Rattle.vap_read_objects.proofs.lists.definitions_in.Given as goal

abbrev pub invariant-loop-key : goal.invariant-loop-key
invariant-loop-key l = record {
  can_next : goal.iterator-loop-key.can_next l.key-iterator;
  is_finite : goal.iterator-loop-key.is_finite l.key-iterator;
  gathered : IsGathered (flat_map object_named (of_class is_definition l.objects)) (flat_map object_named l.key-iterator)
      l.definitions.items;
}
