use Rattle.vap_policy_set.proofs.Indexed.{bound_read}
use Rattle.vap_policy_set.proofs.rules.rules_of.Goals as goal

-- what is read of the policies that are bound is read of these
pub new-requires-2 : goal.new-requires-2
new-requires-2 c = record {
  read =
      bound_read c.get-3.result.now c.as_slice-3.result.now c.as_slice-4.result.now c.in_ok-read.read.policies c.in_ok-bound.bound
      c.in_ok-bound.ensures.bound;
}
