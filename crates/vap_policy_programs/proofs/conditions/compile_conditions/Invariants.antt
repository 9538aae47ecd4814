use Rattle.std.proofs.Common.{◌≡◌, drop}
use Rattle.vap_policy_programs.specs.Pairs.{each, behind, condition_of}
use Rattle.vap_policy_programs.proofs.conditions.compile_conditions.Given as goal

abbrev pub invariant-loop-condition : goal.invariant-loop-condition
invariant-loop-condition l =
    behind l.made.items (each (condition_of l.choice l.names) (drop l.condition-index l.conditions))
    ≡ each (condition_of l.choice l.names) l.conditions
