use Rattle.std.proofs.Common.{◌≡◌, drop}
use Rattle.serde_json.specs.View.{items_view}
use Rattle.vap_read.specs.BindingForm.{names}
use Rattle.vap_read.proofs.binding_form.names.Given as goal

abbrev pub invariant-loop-item : goal.invariant-loop-item
invariant-loop-item l = names l.word (items_view (drop l.item-index l.items)) ≡ names l.word (items_view l.items)
