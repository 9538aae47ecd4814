use Rattle.std.proofs.Common.{◌≡◌, drop}
use Rattle.vap_policy_programs.specs.Pairs.{each, behind, annotation_of}
use Rattle.vap_policy_programs.proofs.annotations.compile_annotations.Given as goal

abbrev pub invariant-loop-annotation : goal.invariant-loop-annotation
invariant-loop-annotation l =
    behind l.made.items (each (annotation_of l.choice l.names) (drop l.annotation-index l.annotations))
    ≡ each (annotation_of l.choice l.names) l.annotations
