use Rattle.std.proofs.Common.{sym, subst}
use Rattle.vap_read_objects.specs.Reuse.{AreStill}
use Rattle.vap_read_objects.proofs.after.params_after.Goals as goal

pub kind_params_after-requires : goal.kind_params_after-requires
kind_params_after-requires c =
    let l = c.loop-params in
    subst (AreStill c.args.objects.now c.args.events.now) (sym c.params-item.is)
    (c.requires l.params-index c.params-item.result c.loop-params-test.true)
