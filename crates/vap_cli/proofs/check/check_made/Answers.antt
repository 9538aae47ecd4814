use Rattle.std.proofs.Common.{rules}
use Rattle.vap_cli.proofs.Told.{tells_both}
use Rattle.vap_cli.proofs.check.check_made.Goals as goal

pub returns-in-Some-clause-told : goal.returns-in-Some-clause-told
returns-in-Some-clause-told g c = tells_both _ _ _ _ _ _ _ (first_of (rw c.in-Some.is, search rules)) (search rules)
    c.check_object.ensures.told
