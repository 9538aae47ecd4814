use Rattle.std.proofs.Common.{refl, arith, ap, subst, ◌∙◌}
use Rattle.vap_read.specs.declared.policy.Policy.{Policy}
use Rattle.vap_policy_set.specs.Patterns.{AreAsked, of_policy}
use Rattle.vap_policy_set.proofs.Asked.{leaves_all, leaves_less, leaves_none}
use Rattle.vap_policy_set.proofs.literal_patterns.ask_policies.Goals as goal

pub loop-policy-init : goal.loop-policy-init
loop-policy-init c = leaves_all _ _ _ refl

pub loop-policy-preserved : goal.loop-policy-preserved
loop-policy-preserved c =
    let l = c.loop-policy in
    leaves_less (λ p. of_policy p.value.spec) c.args.policies.now l.policy-index c.policy-item.result _ _ _ _
    (omega (arith, c.loop-policy-test.true)) c.policy-item.is
    (subst (λ texts. AreAsked texts l.patterns c.ask_texts.new.patterns)
    (c.texts.ensures ∙ ap (λ (p : Policy). of_policy p.spec) c.get.ensures)
    c.in_ok-ask_texts.ensures)
    l.invariant

pub returns : goal.returns
returns c =
    let l = c.loop-policy in
    leaves_none (λ p. of_policy p.value.spec) c.args.policies.now l.policy-index _ _ _
    (omega (arith, c.loop-policy-test.false)) l.invariant
