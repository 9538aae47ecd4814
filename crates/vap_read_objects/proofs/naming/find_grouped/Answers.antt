use Rattle.std.proofs.Common.{sym, ◌∙◌}
use Rattle.vap_read_objects.proofs.ParamKinds.{where_false, where_true}
use Rattle.vap_read_objects.proofs.Slashes.{cut_at}
use Rattle.vap_read_objects.proofs.naming.find_grouped.Goals as goal

pub returns-in-Some : goal.returns-in-Some
returns-in-Some c =
    let cut = cut_at c.args.version.now _ c.split_once.ensures.cases in
    let parts = rw c.in-Some.is at cut in
    sym (where_true _ _ _ parts.0)

pub returns-in-None : goal.returns-in-None
returns-in-None c =
    let cut = cut_at c.args.version.now _ c.split_once.ensures.cases in
    let parts = rw c.in-None.is at cut in
    c.find_kind.ensures ∙ sym (where_false _ _ _ parts.0)
