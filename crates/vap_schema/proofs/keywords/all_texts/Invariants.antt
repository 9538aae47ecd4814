use Rattle.std.proofs.Common.{◌≡◌, drop}
use Rattle.serde_json.specs.View.{items_view}
use Rattle.vap_schema.specs.Keywords.{all_texts}
use Rattle.vap_schema.proofs.keywords.all_texts.Given as goal

abbrev pub invariant-loop-name : goal.invariant-loop-name
invariant-loop-name l = all_texts (items_view (drop l.name-index l.names)) ≡ all_texts (items_view l.names)
