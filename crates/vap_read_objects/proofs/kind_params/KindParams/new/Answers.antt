use Rattle.vap_read_objects.proofs.Placed.{fitted_by}
use Rattle.vap_read_objects.proofs.kind_params.KindParams.new.Goals as goal

pub returns : goal.returns
returns c =
    fitted_by c.args.objects.now c.args.kind.now c.in_ok-copied.field-0 c.args.namespaced c.args.cel_type.now c.in_ok-copy.field-0
    c.in_ok-params.params c.in_ok-copied.ensures c.in_ok-copy.ensures c.in_ok-params.ensures.entries
