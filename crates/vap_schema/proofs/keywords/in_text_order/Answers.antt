use Rattle.serde_json.specs.View.{items_view}
use Rattle.vap_schema.proofs.Searched.{same_texts}
use Rattle.vap_schema.proofs.keywords.in_text_order.Goals as goal

pub returns-clause-same : goal.returns-clause-same
returns-clause-same c =
    same_texts c.in_ok-texts.texts.items c.sort_unstable.new.self.items
    (items_view c.args.names.now) c.sort_unstable.ensures.permutation c.in_ok-texts.ensures
