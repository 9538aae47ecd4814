use Rattle.std.proofs.Common.{◌≡◌, ◌++◌, drop, []}
use Rattle.vap_policy_programs.specs.Pairs.{scoped_from}
use Rattle.vap_policy_programs.specs.Expressions.{of_variables}
use Rattle.vap_policy_programs.proofs.variables.compile_variables.Given as goal

abbrev pub invariant-loop-variable : goal.invariant-loop-variable
invariant-loop-variable l =
    (scoped_from l.choice l.names l.made.items (drop l.variable-index l.variables) ≡ scoped_from l.choice l.first [] l.variables)
    × (l.made.items ++ of_variables l.choice l.names (drop l.variable-index l.variables) ≡ of_variables l.choice l.first l.variables)
