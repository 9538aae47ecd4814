use Rattle.std.proofs.Common.{◌≡◌, ◌++◌}
use Rattle.std.specs.Map.{values_of}
use Rattle.vap_read.specs.Keys.{is_of}
use Rattle.vap_read_objects.specs.Classes.{of_class}
use Rattle.vap_read_objects.proofs.of_kind.objects_of_kind.Given as goal

abbrev pub invariant-loop-object : goal.invariant-loop-object
invariant-loop-object l = record {
  can_next : goal.iterator-loop-object.can_next l.object-iterator;
  is_finite : goal.iterator-loop-object.is_finite l.object-iterator;
  all : l.found.items ++ values_of l.object-iterator ≡ values_of (of_class (is_of l.api_version l.kind) l.objects);
}
