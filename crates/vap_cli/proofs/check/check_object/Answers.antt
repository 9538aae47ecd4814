use Rattle.vap_cli.proofs.Told.{tells_object}
use Rattle.vap_cli.proofs.check.check_object.Goals as goal

pub returns-clause-told : goal.returns-clause-told
returns-clause-told g c = tells_object _ _ c.in_ok-judgement.judgement _ _ _ c.in_ok-judgement.ensures c.tell.ensures.written
    c.tell.ensures.ended
