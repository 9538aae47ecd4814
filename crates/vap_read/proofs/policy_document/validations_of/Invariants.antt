use Rattle.std.proofs.Common.{◌≡◌, ◌++◌, drop}
use Rattle.serde_json.specs.View.{items_view}
use Rattle.vap_match.specs.Parts.{each_item}
use Rattle.vap_read.specs.PolicyReading.{validation_of}
use Rattle.vap_read.proofs.policy_document.validations_of.Given as goal

abbrev pub invariant-loop-item : goal.invariant-loop-item
invariant-loop-item l =
    l.validations.items ++ each_item validation_of (items_view (drop l.item-index l.items))
    ≡ each_item validation_of (items_view l.items)
