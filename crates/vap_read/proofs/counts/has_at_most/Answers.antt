use Rattle.std.proofs.Common.{ap, sym, ◌∙◌}
use Rattle.std.specs.Prelude.{nat_le}
use Rattle.serde_json.specs.Events.{items_len}
use Rattle.serde_json.proofs.Views.{items_len-items_view}
use Rattle.vap_read.proofs.counts.has_at_most.Goals as goal

pub returns : goal.returns
returns c =
    ap (λ n. nat_le n c.args.limit) (sym (items_len-items_view c.items_in.result.now) ∙ ap items_len c.items_in.ensures)
