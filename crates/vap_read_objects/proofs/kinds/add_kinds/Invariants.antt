use Rattle.std.proofs.Common.{◌≡◌, drop}
use Rattle.vap_read_objects.specs.Kinds.{with_kinds}
use Rattle.vap_read_objects.proofs.kinds.add_kinds.Given as goal

abbrev pub invariant-loop-kind : goal.invariant-loop-kind
invariant-loop-kind l =
    with_kinds (drop l.kind-index l.more) l.kinds.items ≡ with_kinds l.more l.initial.kinds.items
