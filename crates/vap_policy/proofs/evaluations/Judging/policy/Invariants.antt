use Rattle.std.proofs.Common.{◌≡◌, drop, filter, flat_map}
use Rattle.vap_policy.specs.Adds.{IsWithin, Looks, behind, progress_of}
use Rattle.vap_policy.specs.Judging.{binding_matches, of_binding}
use Rattle.vap_policy.specs.Shown.{case_of}
use Rattle.vap_policy.proofs.evaluations.Judging.policy.Given as goal

-- the progress so far, with that under the bindings that are left, is that of all
abbrev pub invariant-loop-binding : goal.invariant-loop-binding
invariant-loop-binding l = record {
  case : l.self.case ≡ l.initial.self.case;
  progress : behind (progress_of l.self) (flat_map (of_binding (case_of l.initial.self.case.now) l.policy)
      (filter (binding_matches (case_of l.initial.self.case.now)) (drop l.binding-index l.policy.bindings)))
      ≡ behind (progress_of l.initial.self) (flat_map (of_binding (case_of l.initial.self.case.now) l.policy)
      (filter (binding_matches (case_of l.initial.self.case.now)) l.policy.bindings));
  within : IsWithin l.self;
  looks : Looks l.self (flat_map (of_binding (case_of l.initial.self.case.now) l.policy)
      (filter (binding_matches (case_of l.initial.self.case.now)) (drop l.binding-index l.policy.bindings)))
      → Looks l.initial.self (flat_map (of_binding (case_of l.initial.self.case.now) l.policy)
      (filter (binding_matches (case_of l.initial.self.case.now)) l.policy.bindings));
}
