use Rattle.std.proofs.Common.{arith}
use Rattle.vap_read_objects.proofs.Counts.{put_small}
use Rattle.vap_read_objects.proofs.tallies.one_put.Goals as goal

pub overflow_add-result : goal.overflow_add-result
overflow_add-result c =
    let both = put_small c.args.counted c.args.object.now c.args.objects.now c.others-rest.result c.weight-own.result c.weight-own.ensures
    c.others-rest.ensures.ordered c.requires.few c.others-rest.ensures.others in omega (arith, both.1)

pub returns : goal.returns
returns c =
    (put_small c.args.counted c.args.object.now c.args.objects.now c.others-rest.result c.weight-own.result c.weight-own.ensures
    c.others-rest.ensures.ordered c.requires.few c.others-rest.ensures.others).0
