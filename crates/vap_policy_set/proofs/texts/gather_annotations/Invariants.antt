use Rattle.std.proofs.Common.{◌≡◌, ◌++◌, drop}
use Rattle.std.specs.List.{flat_map}
use Rattle.vap_policy_set.specs.Patterns.{of_annotation}
use Rattle.vap_policy_set.proofs.texts.gather_annotations.Given as goal

abbrev pub invariant-loop-annotation : goal.invariant-loop-annotation
invariant-loop-annotation l =
    l.texts.items ++ flat_map of_annotation (drop l.annotation-index l.annotations)
    ≡ l.initial.texts.items ++ flat_map of_annotation l.annotations
