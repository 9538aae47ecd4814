use Rattle.vap_read_objects.proofs.Counts.{few_with}
use Rattle.vap_read_objects.proofs.room.is_few_with.Goals as goal

pub returns : goal.returns
returns c =
    few_with c.args.counted c.args.object.now c.args.objects.now c.others-rest.result c.weight-own.result c.limit-most.result
    c.weight-own.ensures c.limit-most.ensures c.others-rest.ensures.ordered c.requires.few c.others-rest.ensures.others
