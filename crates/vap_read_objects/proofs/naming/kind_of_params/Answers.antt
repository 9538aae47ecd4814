use Rattle.std.proofs.Common.{◌∙◌}
use Rattle.vap_read_objects.proofs.ParamKinds.{grouped, ungrouped}
use Rattle.vap_read_objects.proofs.Slashes.{cut_at}
use Rattle.vap_read_objects.proofs.naming.kind_of_params.Goals as goal

pub returns-in-Some : goal.returns-in-Some
returns-in-Some c =
    let cut = cut_at c.as_str-text.result.now _ c.split_once.ensures.cases in
    let parts = rw c.in-Some.is at cut in
    c.find_grouped.ensures
    ∙ grouped c.args.kinds.now _ _ _ c.as_str-text.result.now c.args.params.now
    c.as_str-text.ensures parts.0 parts.1 parts.2 c.as_str.ensures

pub returns-in-None : goal.returns-in-None
returns-in-None c =
    let cut = cut_at c.as_str-text.result.now _ c.split_once.ensures.cases in
    let parts = rw c.in-None.is at cut in
    c.find_kind.ensures
    ∙ ungrouped c.args.kinds.now _ c.as_str-text.result.now c.args.params.now c.as_str-text.ensures parts.0 c.as_str-in-None.ensures
