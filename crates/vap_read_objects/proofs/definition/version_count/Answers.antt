use Rattle.std.proofs.Common.{ap, sym, ◌∙◌}
use Rattle.serde_json.specs.Events.{items_len}
use Rattle.serde_json.proofs.Views.{items_len-items_view}
use Rattle.vap_read_objects.proofs.definition.version_count.Goals as goal

pub returns : goal.returns
returns c = sym (items_len-items_view c.versions_of.result.now) ∙ ap items_len c.versions_of.ensures
