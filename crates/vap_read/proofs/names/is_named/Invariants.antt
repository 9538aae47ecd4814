use Rattle.std.proofs.Common.{◌≡◌, drop}
use Rattle.std.specs.List.{list_any}
use Rattle.std.specs.Str.{bytes_eq}
use Rattle.serde_json.specs.View.{items_view}
use Rattle.vap_read.specs.PolicyForm.{names_in}
use Rattle.vap_read.proofs.names.is_named.Given as goal

abbrev pub invariant-loop-item : goal.invariant-loop-item
invariant-loop-item l =
    list_any (bytes_eq l.name) (names_in l.key (items_view (drop l.item-index l.items)))
    ≡ list_any (bytes_eq l.name) (names_in l.key (items_view l.items))
