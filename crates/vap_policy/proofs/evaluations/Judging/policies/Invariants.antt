use Rattle.std.proofs.Common.{◌≡◌, drop}
use Rattle.vap_policy.specs.Adds.{IsWithin, Looks, behind, progress_of}
use Rattle.vap_policy.specs.Judging.{of_policies}
use Rattle.vap_policy.specs.Shown.{case_of}
use Rattle.vap_policy.proofs.evaluations.Judging.policies.Given as goal

-- the progress so far, with that of the policies that are left, is that of all
abbrev pub invariant-loop-policy : goal.invariant-loop-policy
invariant-loop-policy l = record {
  case : l.self.case ≡ l.initial.self.case;
  progress : behind (progress_of l.self) (of_policies (case_of l.initial.self.case.now) (drop l.policy-index l.policies))
      ≡ behind (progress_of l.initial.self) (of_policies (case_of l.initial.self.case.now) l.policies);
  within : IsWithin l.self;
  looks : Looks l.self (of_policies (case_of l.initial.self.case.now) (drop l.policy-index l.policies))
      → Looks l.initial.self (of_policies (case_of l.initial.self.case.now) l.policies);
}
