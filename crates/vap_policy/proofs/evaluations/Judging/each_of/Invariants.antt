use Rattle.std.proofs.Common.{◌≡◌, drop, filter, map}
use Rattle.vap_policy.specs.Adds.{IsWithin, Looks, behind, progress_of}
use Rattle.vap_policy.specs.Judging.{at_param}
use Rattle.vap_policy.specs.Params.{is_param}
use Rattle.vap_policy.specs.Shown.{case_of, lent_place, rule_of}
use Rattle.vap_policy.proofs.evaluations.Judging.each_of.Given as goal

abbrev pub ghost-param : goal.ghost-param
ghost-param g a = g.types

-- the progress so far, with that at the objects that are left, is that of all
abbrev pub invariant-loop-param : goal.invariant-loop-param
invariant-loop-param g l = record {
  case : l.self.case ≡ l.initial.self.case;
  progress : behind (progress_of l.self) (map (at_param (case_of l.initial.self.case.now) (rule_of l.rule) l.programs
      l.selection.params.now.cel_type) (filter (is_param (lent_place l.selection.place) l.selection.reference.now)
      (map (λ p. p.object) (drop l.param-index l.params))))
      ≡ behind (progress_of l.initial.self) (map (at_param (case_of l.initial.self.case.now) (rule_of l.rule) l.programs
      l.selection.params.now.cel_type) (filter (is_param (lent_place l.selection.place) l.selection.reference.now)
      (map (λ p. p.object) l.params)));
  within : IsWithin l.self;
  looks : Looks l.self (map (at_param (case_of l.initial.self.case.now) (rule_of l.rule) l.programs
      l.selection.params.now.cel_type) (filter (is_param (lent_place l.selection.place) l.selection.reference.now)
      (map (λ p. p.object) (drop l.param-index l.params))))
      → Looks l.initial.self (map (at_param (case_of l.initial.self.case.now) (rule_of l.rule) l.programs
      l.selection.params.now.cel_type) (filter (is_param (lent_place l.selection.place) l.selection.reference.now)
      (map (λ p. p.object) l.params)));
}
