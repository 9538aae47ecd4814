use Rattle.std.proofs.Common.{◌∙◌}
use Rattle.vap_schema.proofs.Searched.{searched}
use Rattle.vap_schema.proofs.keywords.is_named.Goals as goal

pub returns : goal.returns
returns c =
    c.is_ok.ensures.value
    ∙ searched c.args.texts.now c.args.name.now c.binary_search.result c.requires c.binary_search.ensures.bound
    c.binary_search.ensures.position
