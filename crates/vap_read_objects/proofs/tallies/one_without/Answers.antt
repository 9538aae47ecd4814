use Rattle.vap_read_objects.proofs.Counts.{left_total}
use Rattle.vap_read_objects.proofs.tallies.one_without.Goals as goal

pub returns : goal.returns
returns c = left_total c.args.counted c.args.key.now c.args.objects.now c.others.result c.others.ensures.others
