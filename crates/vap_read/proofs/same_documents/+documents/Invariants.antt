use Rattle.std.proofs.Common.{◌≡◌, ◌↔◌, drop}
use Rattle.serde_json.specs.View.{items_view, members_view}
use Rattle.vap_read.proofs.same_documents.+documents.Given as goal

-- the lists hold the same exactly if what is left of them does
abbrev pub invariant-same_items-loop-item : goal.invariant-same_items-loop-item
invariant-same_items-loop-item l =
    (items_view l.left ≡ items_view l.right) ↔ (items_view (drop l.item-index l.left) ≡ items_view l.rest)

-- the members are the same exactly if those that are left are
abbrev pub invariant-same_members-loop-name : goal.invariant-same_members-loop-name
invariant-same_members-loop-name l = record {
  can_next : (goal.iterator-same_members-loop-name).can_next l.name-iterator;
  is_finite : (goal.iterator-same_members-loop-name).is_finite l.name-iterator;
  left : (members_view l.left.entries ≡ members_view l.right.entries) ↔ (members_view l.name-iterator ≡ members_view l.others);
}
