-- The names that are printed.
use Rattle.std.specs.Prelude.{ℕ, List, codes}
use Rattle.cel_expression.specs.Names.{refusal_name}
use Rattle.vap_policy_programs.specs.declared.pair_fault.PairFault.{PairFault}
use Rattle.vap_policy_programs.specs.declared.pair_fault.PairFault.TheVariants as pair

-- the name of what makes a policy misconfigured
abbrev pub pair_fault_name : PairFault → List ℕ
pair_fault_name pair.UnknownParamKind = codes "UnknownParamKind"
pair_fault_name (pair.Expression why) = refusal_name why
pair_fault_name pair.OverBudget = codes "OverBudget"
