use Rattle.std.proofs.Common.{◌≡◌, drop}
use Rattle.vap_read_objects.specs.Kinds.{with_definitions}
use Rattle.vap_read_objects.proofs.kinds.add_definitions.Given as goal

abbrev pub invariant-loop-definition : goal.invariant-loop-definition
invariant-loop-definition l =
    with_definitions (drop l.definition-index l.definitions) l.kinds.items
    ≡ with_definitions l.definitions l.initial.kinds.items
