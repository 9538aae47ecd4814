use Rattle.std.proofs.Common.{drop, map, ap, ap₂, sym, ◌+◌, ◌∙◌}
use Rattle.std.specs.Option.{option_copied}
use Rattle.std.proofs.lemmas.List.{map_push}
use Rattle.vap_policy_set.proofs.Changed.{keep_next, says_same}
use Rattle.vap_policy_set.proofs.Olds.{old_next, old_some, whole_next}
use Rattle.vap_policy_set.proofs.policies.read_policies.Goals as goal

pub read_once-requires : goal.read_once-requires
read_once-requires c =
    let ps = c.args.policies.now in
    let i = c.loop-policy.policy-index in
    let item = c.policy-item.result in
    let keep =
    keep_next c.args.kept.now.changed.now ps c.loop-policy.rest.now i item c.loop-policy-test.true c.policy-item.is
    c.loop-policy.invariant.others in
    says_same c.loop-policy.rest.now item (option_copied c.next_old-next.result.bound)
    (c.next_old-next.ensures.old item (drop (i + 1) ps) (sym c.as_str.ensures) keep)

pub loop-policy-preserved : goal.loop-policy-preserved
loop-policy-preserved c =
    let all = c.args.kept.now.policies.now in
    let ps = c.args.policies.now in
    let i = c.loop-policy.policy-index in
    let item = c.policy-item.result in
    let next = c.next_old-next in
    let bound = option_copied next.result.bound in
    let at = c.loop-policy.invariant in
    let keep = keep_next c.args.kept.now.changed.now ps c.loop-policy.rest.now i item c.loop-policy-test.true c.policy-item.is at.others in
    let old = next.ensures.old item (drop (i + 1) ps) (sym c.as_str.ensures) keep in
    record {
      whole =
          whole_next ps c.loop-policy.all.items c.push-in-loop-policy.new.self.items i item
          (record { key = c.in_ok-copy.field-0; value = c.in_ok-read_once.field-0 }) c.in_ok-push.ensures.items
          (ap₂ (λ k v. record { key = k; value = v }) c.in_ok-copy.ensures c.in_ok-read_once.ensures) c.loop-policy-test.true
          c.policy-item.is at.whole;
      part = λ choice kinds bindings are. next.ensures.part choice kinds bindings (at.part choice kinds bindings are);
      others = next.ensures.kept item (drop (i + 1) ps) (sym c.as_str.ensures) keep;
      old =
          old_next all ps i item (map option_copied c.loop-policy.old.items) (map option_copied c.push-in-loop-policy-2.new.self.items)
          bound c.loop-policy-test.true c.policy-item.is
          (ap (map option_copied) c.in_ok-push-2.ensures.items ∙ map_push option_copied c.loop-policy.old.items next.result.bound) at.old
          (old_some c.loop-policy.rest.now all item bound at.part old);
    }
