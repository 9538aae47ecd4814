use Rattle.std.proofs.Common.{◌≡◌, drop}
use Rattle.std.specs.List.{list_all}
use Rattle.vap_match.specs.Select.{lent_labels, has_label}
use Rattle.vap_match.proofs.label_selection.has_all.Given as goal

abbrev pub invariant-loop-one : goal.invariant-loop-one
invariant-loop-one l =
    list_all (has_label (lent_labels l.labels)) (drop l.one-index l.wanted) ≡ list_all (has_label (lent_labels l.labels)) l.wanted
