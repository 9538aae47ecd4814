use Rattle.std.proofs.Common.{◌≡◌, drop}
use Rattle.std.specs.List.{list_any}
use Rattle.vap_read_objects.specs.Fitted.{is_same_kind}
use Rattle.vap_read_objects.proofs.named.is_among.Given as goal

abbrev pub invariant-loop-other : goal.invariant-loop-other
invariant-loop-other l = list_any (is_same_kind l.kind) (drop l.other-index l.kinds) ≡ list_any (is_same_kind l.kind) l.kinds
