use Rattle.vap_plane.proofs.Replies.{answered}
use Rattle.vap_plane.proofs.running.Service.answer.Goals as goal

pub push-requires : goal.push-requires
push-requires g c =
    answered g.B.Batch.told g.B.Batch.requests c.args.job.number c.args.job.request c.in-Ok.verdict c.args.worker.now.reader
    c.admit.new.self.reader c.requires c.args.job.asked c.in-Ok.ensures.seen c.in-Ok.ensures.verdict
