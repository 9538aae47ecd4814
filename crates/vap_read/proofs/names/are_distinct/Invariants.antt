use Rattle.std.proofs.Common.{◌≡◌, drop}
use Rattle.serde_json.specs.View.{items_view}
use Rattle.vap_read.specs.PolicyForm.{names_in, are_distinct}
use Rattle.vap_read.proofs.names.are_distinct.Given as goal

abbrev pub invariant-loop-place : goal.invariant-loop-place
invariant-loop-place l =
    are_distinct (names_in l.key (items_view (drop l.place l.items))) ≡ are_distinct (names_in l.key (items_view l.items))
