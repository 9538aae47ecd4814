use Rattle.std.proofs.Common.{◌≡◌, ◌++◌, drop}
use Rattle.serde_json.specs.View.{items_view}
use Rattle.vap_match.specs.Parts.{each_item}
use Rattle.vap_match.specs.RuleForm.{operation_of}
use Rattle.vap_match.proofs.rule_form.operations_of.Given as goal

abbrev pub invariant-loop-item : goal.invariant-loop-item
invariant-loop-item l =
    l.operations.items ++ each_item operation_of (items_view (drop l.item-index l.items))
    ≡ each_item operation_of (items_view l.items)
