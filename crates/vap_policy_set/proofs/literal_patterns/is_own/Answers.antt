use Rattle.std.proofs.Common.{◌||◌, ◌+◌, drop, ap, arith, sym, ◌∙◌}
use Rattle.cel_operators.specs.PatternChoice.{refuses}
use Rattle.vap_read.specs.declared.policy.Policy.{Policy}
use Rattle.vap_policy_set.specs.Patterns.{of_policies, of_policy}
use Rattle.vap_policy_set.proofs.Asked.{own_end, own_next}
use Rattle.vap_policy_set.proofs.literal_patterns.is_own.Goals as goal

pub returns-then-refuses : goal.returns-then-refuses
returns-then-refuses c =
    let l = c.loop-policy in
    let left = refuses (of_policies (drop (l.policy-index + 1) c.args.policies.now)) c.args.text.now in
    sym
    (sym l.invariant
    ∙ own_next c.args.policies.now l.policy-index c.policy-item.result c.texts.result.now c.args.text.now
    (omega (arith, c.loop-policy-test.true)) c.policy-item.is
    (c.texts.ensures ∙ ap (λ (p : Policy). of_policy p.spec) c.get.ensures)
    ∙ ap (λ b. b || left) (sym c.refuses.ensures ∙ c.if-refuses.true))

pub loop-policy-preserved : goal.loop-policy-preserved
loop-policy-preserved c =
    let l = c.loop-policy in
    let left = refuses (of_policies (drop (l.policy-index + 1) c.args.policies.now)) c.args.text.now in
    sym
    (own_next c.args.policies.now l.policy-index c.policy-item.result c.texts.result.now c.args.text.now
    (omega (arith, c.loop-policy-test.true)) c.policy-item.is
    (c.texts.ensures ∙ ap (λ (p : Policy). of_policy p.spec) c.get.ensures)
    ∙ ap (λ b. b || left) (sym c.refuses.ensures ∙ c.if-refuses.false))
    ∙ l.invariant

pub returns : goal.returns
returns c =
    let l = c.loop-policy in
    sym (own_end c.args.policies.now l.policy-index c.args.text.now (omega (arith, c.loop-policy-test.false))) ∙ l.invariant
