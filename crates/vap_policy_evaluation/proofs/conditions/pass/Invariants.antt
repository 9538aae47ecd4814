use Rattle.std.proofs.Common.{◌≡◌, ◌≤◌, ◌+◌, drop, sum_by}
use Rattle.std.specs.List.{list_any}
use Rattle.std.specs.Option.{option_or}
use Rattle.vap_policy_programs.specs.Pairs.{condition_estimate, most}
use Rattle.vap_policy_programs.specs.Ready.{AreConditionsAt}
use Rattle.vap_policy_evaluation.specs.Conditions.{conditions_pass, conditions_charge, first_error, gate_of, is_shut}
use Rattle.vap_policy_evaluation.proofs.conditions.pass.Given as goal

abbrev pub invariant-loop-condition : goal.invariant-loop-condition
invariant-loop-condition g l =
    (conditions_pass l.conditions l.slots ≡ gate_of (list_any (is_shut l.slots) (drop l.condition-index l.conditions))
    (option_or l.first (first_error (drop l.condition-index l.conditions) l.slots)))
    × (l.total + conditions_charge (drop l.condition-index l.conditions) l.slots ≡ conditions_charge l.conditions l.slots)
    × (l.total + sum_by condition_estimate (drop l.condition-index l.conditions) ≤ sum_by condition_estimate l.conditions)
    × (l.total ≤ most)
    × AreConditionsAt g.types (drop l.condition-index l.conditions)
