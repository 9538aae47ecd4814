use Rattle.std.proofs.Common.{Some, option_map, sym, ap, ◌∙◌}
use Rattle.base_containers.specs.Gathered.{items_of, members_of}
use Rattle.vap_schema_conformance.proofs.Values.{list_is_value, map_is_value, object_is_value}
use Rattle.vap_schema_conformance.proofs.conformance.+is_value.Goals as goal

pub is_list-returns-in-Ok-Some : goal.is_list-returns-in-Ok-Some
is_list-returns-in-Ok-Some t c = λ known plain.
    list_is_value c.args.max plain c.args.item_type.now c.args.document.now c.as_slice.result.now
    (sym c.in-Ok-Some.ensures ∙ ap (option_map (λ v. items_of v.items)) c.in-Ok-Some.field-0-is
    ∙ ap (λ ds. Some (items_of ds)) (sym c.as_slice.ensures.value))
    (c.are_items.ensures.within known) (c.are_items.ensures.each known)

pub is_map-returns-in-Ok-Some : goal.is_map-returns-in-Ok-Some
is_map-returns-in-Ok-Some t c = λ known.
    map_is_value c.args.max c.args.key_max c.args.item_type.now c.args.document.now c.as_slice.result.now
    (sym c.in-Ok-Some.ensures.exact ∙ ap (option_map (λ v. members_of v.items)) c.in-Ok-Some.field-0-is
    ∙ ap (λ es. Some (members_of es)) (sym c.as_slice.ensures.value))
    (c.are_entries.ensures.within known) (c.are_entries.ensures.each known)

pub is_object-returns-in-Ok-Some : goal.is_object-returns-in-Ok-Some
is_object-returns-in-Ok-Some t c = λ known.
    object_is_value c.args.fields.now c.args.document.now (members_of c.as_slice.result.now) c.has_fields.ensures.ordered
    (sym c.in-Ok-Some.ensures.exact ∙ ap (option_map (λ v. members_of v.items)) c.in-Ok-Some.field-0-is
    ∙ ap (λ es. Some (members_of es)) (sym c.as_slice.ensures.value))
    (c.has_fields.ensures.required known) (c.has_fields.ensures.each known)
