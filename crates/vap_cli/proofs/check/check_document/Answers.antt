use Rattle.std.proofs.Common.{rules}
use Rattle.std.specs.Prelude.{Ok, Err}
use Rattle.vap_cli.proofs.Told.{tells_document, tells_refused}
use Rattle.vap_cli.proofs.check.check_document.Goals as goal

pub returns-in-Ok-clause-told : goal.returns-in-Ok-clause-told
returns-in-Ok-clause-told g c = tells_document _ (Ok c.in-Ok.made) _ _ _ (search rules) (search rules)

pub returns-in-Err-clause-told : goal.returns-in-Err-clause-told
returns-in-Err-clause-told g c =
    tells_document _ (Err c.in-Err.why) _ _ _ (search rules) (tells_refused _ _ _ _ c.refuse.ensures.written c.refuse.ensures.ended)
