use Rattle.std.proofs.Common.{◌≡◌, drop}
use Rattle.std.specs.List.{list_any}
use Rattle.vap_policy_set.specs.Covering.{rule_may_cover}
use Rattle.vap_policy_set.proofs.covering.one_may_cover.Given as goal

abbrev pub invariant-loop-rule : goal.invariant-loop-rule
invariant-loop-rule l =
    list_any (rule_may_cover l.group l.resource) (drop l.rule-index l.rules) ≡ list_any (rule_may_cover l.group l.resource) l.rules
