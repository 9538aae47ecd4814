use Rattle.std.proofs.Common.{arith, rules, sym, ◌∙◌}
use Rattle.vap_read.proofs.Ends.{past_end, none_left}
use Rattle.vap_read.proofs.same_documents.+documents.Goals as goal

pub same_items-returns : goal.same_items-returns
same_items-returns t c =
    let ended = past_end c.args.left.now c.loop-item.item-index (omega arith) in
    let last = none_left c.is_empty.result c.loop-item.rest.now c.is_empty.ensures in
    (λ h. c.loop-item.invariant.1 (ended ∙ last.0 h), λ e. last.1 (sym ended ∙ c.loop-item.invariant.0 e))

pub same_members-loop-name-preserved : goal.same_members-loop-name-preserved
same_members-loop-name-preserved t c = search rules
