use Rattle.std.proofs.Common.{◌≡◌, ◌++◌, drop}
use Rattle.std.specs.List.{flat_map}
use Rattle.vap_policy_set.specs.Sets.{misconfigured_in}
use Rattle.vap_policy_set.proofs.report.report_of.Given as goal

abbrev pub invariant-loop-policy : goal.invariant-loop-policy
invariant-loop-policy l =
    l.report.items ++ flat_map misconfigured_in (drop l.policy-index l.policies) ≡ flat_map misconfigured_in l.policies
