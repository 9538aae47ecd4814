use Rattle.std.proofs.Common.{◌≡◌, drop}
use Rattle.base_containers.specs.Gathered.{items_of, members_of}
use Rattle.base_containers.specs.Keys.{value_under}
use Rattle.vap_schema_conformance.specs.Conformance.{AreEntriesOf, AreItemsOf, AreMembersOf}
use Rattle.vap_schema_conformance.proofs.conformance.+is_value.Given as goal

abbrev pub invariant-are_items-loop-item : goal.invariant-are_items-loop-item
invariant-are_items-loop-item l = AreItemsOf l.item_type (items_of (drop l.item-index l.items)) → AreItemsOf l.item_type (items_of l.items)

abbrev pub invariant-are_entries-loop-member : goal.invariant-are_entries-loop-member
invariant-are_entries-loop-member l =
    AreEntriesOf l.key_max l.item_type (members_of (drop l.member-index l.members))
    → AreEntriesOf l.key_max l.item_type (members_of l.members)

abbrev pub invariant-are_members-loop-member : goal.invariant-are_members-loop-member
invariant-are_members-loop-member l =
    AreMembersOf l.fields (members_of (drop l.member-index l.members)) → AreMembersOf l.fields (members_of l.members)

abbrev pub invariant-is_member-loop-field : goal.invariant-is_member-loop-field
invariant-is_member-loop-field l = value_under l.name (drop l.field-index l.field-items) ≡ value_under l.name l.fields
