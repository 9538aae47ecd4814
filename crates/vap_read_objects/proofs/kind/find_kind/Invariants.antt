use Rattle.std.proofs.Common.{◌≡◌, drop}
use Rattle.vap_read_objects.specs.Kinds.{kind_named}
use Rattle.vap_read_objects.proofs.kind.find_kind.Given as goal

abbrev pub invariant-loop-known : goal.invariant-loop-known
invariant-loop-known l =
    kind_named l.group l.version l.kind (drop l.known-index l.kinds) ≡ kind_named l.group l.version l.kind l.kinds
