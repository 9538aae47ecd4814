use Rattle.std.proofs.Common.{◌≡◌, drop}
use Rattle.std.specs.List.{find}
use Rattle.vap_read_objects.specs.Fitted.{is_same_kind}
use Rattle.vap_read_objects.proofs.named.find_params.Given as goal

abbrev pub invariant-loop-params : goal.invariant-loop-params
invariant-loop-params l =
    find (λ q. is_same_kind q.kind l.kind) (drop l.params-index l.all) ≡ find (λ q. is_same_kind q.kind l.kind) l.all
