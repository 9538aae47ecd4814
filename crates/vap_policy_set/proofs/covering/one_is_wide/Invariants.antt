use Rattle.std.proofs.Common.{◌≡◌, drop}
use Rattle.std.specs.List.{list_any}
use Rattle.vap_policy_set.specs.Covering.{rule_is_wide}
use Rattle.vap_policy_set.proofs.covering.one_is_wide.Given as goal

abbrev pub invariant-loop-rule : goal.invariant-loop-rule
invariant-loop-rule l = list_any rule_is_wide (drop l.rule-index l.rules) ≡ list_any rule_is_wide l.rules
