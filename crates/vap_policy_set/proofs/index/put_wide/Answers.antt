use Rattle.std.proofs.Common.{ap, set, sym, ◌∙◌}
use Rattle.std.proofs.lemmas.List.Edits.{map_over_more}
use Rattle.vap_policy_set.specs.Index.{with_policy}
use Rattle.vap_policy_set.specs.declared.index.Entry.{Entry}
use Rattle.vap_policy_set.proofs.index.put_wide.Goals as goal

-- one entry more
pub loop-at-preserved : goal.loop-at-preserved
loop-at-preserved c =
    let l = c.loop-at in
    ap (λ (e : Entry). set l.entries l.at e) c.in_ok-put_covering.ensures
    ∙ ap (λ (e : Entry). set l.entries l.at (with_policy c.args.policy.now e)) (sym c.index-entries-at.is)
    ∙ map_over_more (with_policy c.args.policy.now) c.args.entries.now l.entries l.at c.index-entries-at.result c.loop-at-test.true
    l.invariant c.index-entries-at.is
