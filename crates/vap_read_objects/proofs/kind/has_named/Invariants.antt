use Rattle.std.proofs.Common.{◌≡◌, drop}
use Rattle.std.specs.List.{list_any}
use Rattle.vap_read_objects.specs.Kinds.{is_named}
use Rattle.vap_read_objects.proofs.kind.has_named.Given as goal

abbrev pub invariant-loop-known : goal.invariant-loop-known
invariant-loop-known l =
    list_any (is_named l.group l.version l.kind) (drop l.known-index l.kinds)
    ≡ list_any (is_named l.group l.version l.kind) l.kinds
