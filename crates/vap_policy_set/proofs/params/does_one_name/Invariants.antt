use Rattle.std.proofs.Common.{◌≡◌, drop}
use Rattle.std.specs.List.{list_any}
use Rattle.vap_policy_set.specs.Kinds.{rule_names}
use Rattle.vap_policy_set.proofs.params.does_one_name.Given as goal

abbrev pub invariant-loop-rule : goal.invariant-loop-rule
invariant-loop-rule l = list_any (rule_names l.kind) (drop l.rule-index l.rules) ≡ list_any (rule_names l.kind) l.rules
