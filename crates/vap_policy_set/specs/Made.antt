-- What a policy is compiled to at a kind, by what it is compiled of.
use Rattle.vap_policy_programs.specs.Pairs.{pair_of}
use Rattle.vap_policy_programs.specs.declared.programs.Pair.{Pair}
use Rattle.vap_policy_set.specs.Kinds.{types_at}
use Rattle.vap_policy_set.specs.declared.made.Inputs.{Inputs}

-- the pair that results from these
abbrev pub pair_made : Inputs → Pair
pair_made i = pair_of i.refused (types_at i.cel_type) i.params i.policy
