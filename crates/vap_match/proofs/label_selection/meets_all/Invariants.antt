use Rattle.std.proofs.Common.{◌≡◌, drop}
use Rattle.std.specs.List.{list_all}
use Rattle.vap_match.specs.Select.{lent_labels, meets}
use Rattle.vap_match.proofs.label_selection.meets_all.Given as goal

abbrev pub invariant-loop-requirement : goal.invariant-loop-requirement
invariant-loop-requirement l =
    list_all (meets (lent_labels l.labels)) (drop l.requirement-index l.requirements)
    ≡ list_all (meets (lent_labels l.labels)) l.requirements
