use Rattle.vap_read_objects.proofs.Taken.{told_within}
use Rattle.vap_read_objects.proofs.objects.Objects.takes.Goals as goal

pub returns : goal.returns
returns c = told_within c.is_taken.result c.args.event.now c.args.self.now c.is_taken.ensures
