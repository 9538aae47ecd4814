use Rattle.std.proofs.Common.{rules}
use Rattle.vap_cli.proofs.Told.{tells_file, tells_read, tells_unread, tells_refused}
use Rattle.vap_cli.proofs.check.check_to.Goals as goal

pub returns-in-Ok-clause-told : goal.returns-in-Ok-clause-told
returns-in-Ok-clause-told g c =
    tells_file c.in_ok-bytes.bytes.items _ _ _ _ _ (search rules) (search rules)
    (tells_read _ _ _ _ _ (search rules) (search rules) c.check_document.ensures.told)

pub returns-clause-told : goal.returns-clause-told
returns-clause-told g c =
    tells_file c.in_ok-bytes.bytes.items _ _ _ _ _ (search rules) (search rules)
    (tells_unread _ _ _ _ _ (search rules) (tells_refused _ _ _ _ c.refuse.ensures.written c.refuse.ensures.ended))
