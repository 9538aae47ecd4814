use Rattle.std.proofs.Common.{◌∙◌, ap, arith}
use Rattle.std.specs.List.{flat_map}
use Rattle.vap_read_objects.specs.Fitted.{and_others, kind_in}
use Rattle.vap_read_objects.proofs.Once.{all_left, next_left, nothing_left}
use Rattle.vap_read_objects.proofs.named.kinds_named.Goals as goal

pub loop-policy-init : goal.loop-policy-init
loop-policy-init c =
    ap (λ ks. and_others ks (flat_map kind_in c.args.policies.now)) c.new-kinds.ensures.items
    ∙ all_left (flat_map kind_in c.args.policies.now)

pub loop-policy-preserved : goal.loop-policy-preserved
loop-policy-preserved c =
    let l = c.loop-policy in
    next_left c.args.policies.now l.policy-index c.policy-item.result _ _ (omega (arith, c.loop-policy-test.true)) c.policy-item.is
    c.in_ok-add_named.ensures l.invariant

pub returns : goal.returns
returns c =
    let l = c.loop-policy in
    nothing_left c.args.policies.now l.policy-index _ (omega (arith, c.loop-policy-test.false)) l.invariant
