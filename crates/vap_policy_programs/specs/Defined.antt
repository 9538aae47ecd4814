-- Variables that were compiled, as the definitions see them.
use Rattle.std.specs.Prelude.{Result, Ok, Err}
use Rattle.vap_policy_programs.specs.declared.pair_fault.PairFault.{PairFault}
use Rattle.vap_policy_programs.specs.declared.variables.Defined.{Defined}
use Rattle.vap_policy_programs.specs.Pairs.{Scoped}

-- variables with the names after them
abbrev pub scoped_by : Defined → Scoped
scoped_by d = record { variables = d.variables; names = d.names }

-- the same, or their fault
abbrev pub scoped : Result Defined PairFault → Result Scoped PairFault
scoped (Ok d) = Ok (scoped_by d)
scoped (Err why) = Err why
