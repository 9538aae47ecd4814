use Rattle.std.proofs.Common.{◌≡◌, ◌≤◌, ◌+◌, ◌++◌, drop, sum_by}
use Rattle.std.specs.List.{flat_map}
use Rattle.vap_policy_programs.specs.Pairs.{annotation_estimate, most}
use Rattle.vap_policy_programs.specs.Ready.{AreAnnotationsAt}
use Rattle.vap_policy_evaluation.specs.Annotations.{note, note_failure, note_charge}
use Rattle.vap_policy_evaluation.proofs.annotations.annotate_all.Given as goal

abbrev pub ghost-annotate : goal.ghost-annotate
ghost-annotate g a = g.types

abbrev pub invariant-loop-annotation : goal.invariant-loop-annotation
invariant-loop-annotation g l =
    (l.failures.items ++ flat_map (note_failure l.policy l.slots) (drop l.annotation-index l.annotations)
    ≡ l.initial.failures.items ++ flat_map (note_failure l.policy l.slots) l.annotations)
    × (l.notes.items ++ flat_map (note l.slots) (drop l.annotation-index l.annotations)
    ≡ l.initial.notes.items ++ flat_map (note l.slots) l.annotations)
    × (l.charged + sum_by (note_charge l.slots) (drop l.annotation-index l.annotations) ≡ sum_by (note_charge l.slots) l.annotations)
    × (l.charged + sum_by annotation_estimate (drop l.annotation-index l.annotations) ≤ sum_by annotation_estimate l.annotations)
    × (l.charged ≤ most)
    × AreAnnotationsAt g.types (drop l.annotation-index l.annotations)
