use Rattle.std.proofs.Common.{sym}
use Rattle.vap_read_objects.proofs.Slashes.{cut_at}
use Rattle.vap_policy_set.proofs.params.resource_in.Goals as goal

pub returns-in-Some : goal.returns-in-Some
returns-in-Some c =
    let cut = cut_at c.args.pattern.now _ c.split_once.ensures.cases in
    let parts = rw c.in-Some.is at cut in
    parts.1

pub returns-in-None : goal.returns-in-None
returns-in-None c =
    let cut = cut_at c.args.pattern.now _ c.split_once.ensures.cases in
    let parts = rw c.in-None.is at cut in
    sym parts.1
