use Rattle.std.proofs.Common.{◌≡◌, drop, filter, map}
use Rattle.vap_read_objects.specs.Blocks as blocks
use Rattle.vap_policy.specs.Adds.{IsWithin, Looks, behind, progress_of}
use Rattle.vap_policy.specs.Judging.{at_param}
use Rattle.vap_policy.specs.Params.{is_param}
use Rattle.vap_policy.specs.Shown.{case_of, lent_place, rule_of}
use Rattle.vap_policy.proofs.evaluations.Judging.each.Given as goal

abbrev pub ghost-each_of : goal.ghost-each_of
ghost-each_of g a = g.types

-- the progress so far, with that at the objects in the blocks that are left, is that of all
abbrev pub invariant-loop-block : goal.invariant-loop-block
invariant-loop-block g l = record {
  case : l.self.case ≡ l.initial.self.case;
  progress : behind (progress_of l.self) (map (at_param (case_of l.initial.self.case.now) (rule_of l.rule) l.programs
      l.selection.params.now.cel_type) (filter (is_param (lent_place l.selection.place) l.selection.reference.now)
      (map (λ p. p.object) (blocks.joined (drop l.block-index l.block-items)))))
      ≡ behind (progress_of l.initial.self) (map (at_param (case_of l.initial.self.case.now) (rule_of l.rule) l.programs
      l.selection.params.now.cel_type) (filter (is_param (lent_place l.selection.place) l.selection.reference.now)
      l.selection.params.now.objects));
  within : IsWithin l.self;
  looks : Looks l.self (map (at_param (case_of l.initial.self.case.now) (rule_of l.rule) l.programs
      l.selection.params.now.cel_type) (filter (is_param (lent_place l.selection.place) l.selection.reference.now)
      (map (λ p. p.object) (blocks.joined (drop l.block-index l.block-items)))))
      → Looks l.initial.self (map (at_param (case_of l.initial.self.case.now) (rule_of l.rule) l.programs
      l.selection.params.now.cel_type) (filter (is_param (lent_place l.selection.place) l.selection.reference.now)
      l.selection.params.now.objects));
}
