use Rattle.std.proofs.Common.{None}
use Rattle.vap_policy_set.proofs.compiling.Compiling.other_of.Goals as goal

-- at the kinds that are not known
pub returns-clause-unverified : goal.returns-clause-unverified
returns-clause-unverified c = λ at is. record {
  kind = None;
  looked_at = tt;
  at = at;
  is = c.made_of.ensures.unverified at is;
}
