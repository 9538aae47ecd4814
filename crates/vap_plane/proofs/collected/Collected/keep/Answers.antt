use Rattle.std.proofs.lemmas.Result.{on_ok_weaker}
use Rattle.vap_plane.proofs.Replies.{more_right}
use Rattle.vap_plane.proofs.collected.Collected.keep.Goals as goal

pub returns : goal.returns
returns g c =
    on_ok_weaker c.append.result
    (λ whole. more_right g.B.Batch.told g.B.Batch.requests c.args.self.now.answers.items c.into_verdicts.result.items
    c.append.new.kept.items c.requires c.into_verdicts.ensures.right whole) c.append.ensures
