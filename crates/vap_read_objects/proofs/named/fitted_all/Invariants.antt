use Rattle.std.proofs.Common.{◌≡◌, ◌++◌, drop}
use Rattle.std.specs.List.{flat_map}
use Rattle.vap_read_objects.specs.Fitted.{fitted_in}
use Rattle.vap_read_objects.proofs.named.fitted_all.Given as goal

-- the params so far, with those of the kinds that are left, are all
abbrev pub invariant-loop-kind : goal.invariant-loop-kind
invariant-loop-kind l =
    l.all.items ++ flat_map (fitted_in l.kinds l.objects) (drop l.kind-index l.named)
    ≡ flat_map (fitted_in l.kinds l.objects) l.named
