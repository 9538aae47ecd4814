use Rattle.std.proofs.Common.{◌≡◌, ◌++◌, drop, map}
use Rattle.vap_read_objects.specs.Fitted.{refitted}
use Rattle.vap_read_objects.proofs.after.params_after.Given as goal

-- the params so far, with those of the kinds that are left, are all
abbrev pub invariant-loop-params : goal.invariant-loop-params
invariant-loop-params l =
    l.all.items ++ map (refitted l.objects) (drop l.params-index l.old) ≡ map (refitted l.objects) l.old
