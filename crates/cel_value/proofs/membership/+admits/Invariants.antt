use Rattle.std.proofs.Common.{◌≡◌, ◌&&◌, nat_le, drop}
use Rattle.std.specs.List.{list_all}
use Rattle.base_containers.specs.declared.text.Keyed.{Keyed}
use Rattle.cel_value.specs.declared.value.Value.{Value}
use Rattle.cel_value.specs.Value.{code_points}
use Rattle.cel_value.specs.Fits.{fits, object_fits, admitted_by}
use Rattle.cel_value.proofs.membership.+admits.Given as goal

abbrev pub invariant-admits_entries-loop-entry : goal.invariant-admits_entries-loop-entry
invariant-admits_entries-loop-entry l =
    let fits_entry = λ (e : Keyed Value). nat_le (code_points e.key) l.key_max && fits e.value l.item_type in
    list_all fits_entry (drop l.entry-index l.entries) ≡ list_all fits_entry l.entries

abbrev pub invariant-admits_items-loop-item : goal.invariant-admits_items-loop-item
invariant-admits_items-loop-item l =
    list_all (λ v. fits v l.item_type) (drop l.item-index l.items) ≡ list_all (λ v. fits v l.item_type) l.items

abbrev pub invariant-admits_fields-loop-field : goal.invariant-admits_fields-loop-field
invariant-admits_fields-loop-field l =
    object_fits (admitted_by (drop l.field-index l.fields)) l.rest ≡ object_fits (admitted_by l.fields) l.initial.rest
