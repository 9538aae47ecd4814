use Rattle.std.proofs.Common.{◌≡◌, ℕ, List, ◌-◌, ◌<◌, Ok, Err, ap, sym, ◌∙◌, subst, string_bytes, rules, arith}
use Rattle.std.proofs.lemmas.Result.{err_from_is_err_and}
use Rattle.base_containers.specs.Failures.{Answers}
use Rattle.serde_json.specs.View.{view, items_view, members_view}
use Rattle.vap_schema.specs.Forms.{form_in}
use Rattle.vap_schema.specs.Schemas.{schema_type, form_type, nested_type, fields_of, is_named, is_among}
use Rattle.vap_schema.proofs.Rest.{behind, behind-none, behind-all}
use Rattle.vap_schema.proofs.InOrder.{names_in_order}
use Rattle.vap_schema.proofs.Levels.{too_deep, one_level, fields_stop, fields_go, field_named, same_fields, fields_in_order}
use Rattle.vap_schema.proofs.schema.+read_schema.Goals as goal

pub read_fields-loop-name-init : goal.read_fields-loop-name-init
read_fields-loop-name-init t c =
    let all : c.into_iter-name-iterator.result ≡ c.args.properties.now.entries = search rules in
    let none = c.in_ok-fields.ensures.items in
    record { can_next = tt; is_finite = tt; exact = rw (all, none) (sym (behind-none _)) }

pub read_fields-returns-in_err-field_of : goal.read_fields-returns-in_err-field_of
read_fields-returns-in_err-field_of t c =
    let p = err_from_is_err_and c.from_residual-in_err-field_of.result c.from_residual-in_err-field_of.ensures.1 in
    let l = c.loop-name in
    let named =
    field_named (schema_type c.args.levels) c.is_named-is_required.result c.args.required.now c.as_str-name.result.now
    (string_bytes c.in-Some.name.now) (view c.in-Some.schema.now) c.is_named-is_required.ensures c.as_str-name.ensures.value in
    let reading = schema_type c.args.levels in
    let wanted = c.args.required.now in
    let here = ap (λ es. behind l.fields.items (fields_of reading (λ k. is_named k wanted) (members_view es))) c.in-Some.ensures.steps in
    rw (p.1, p.2) (fields_stop reading (λ k. is_named k wanted) (string_bytes c.in-Some.name.now) (view c.in-Some.schema.now)
    (members_view c.next.new.self) l.fields.items _ _ (l.invariant.exact ∙ here)
    (subst (λ want. Answers want (Err c.in_err-field_of.field-0.0)) named (c.in_err-field_of.ensures _ c.read_schema-cel_type.ensures)))

pub read_fields-loop-name-preserved : goal.read_fields-loop-name-preserved
read_fields-loop-name-preserved t c =
    let l = c.loop-name in
    let named =
    field_named (schema_type c.args.levels) c.is_named-is_required.result c.args.required.now c.as_str-name.result.now
    (string_bytes c.in-Some.name.now) (view c.in-Some.schema.now) c.is_named-is_required.ensures c.as_str-name.ensures.value in
    let reading = schema_type c.args.levels in
    let wanted = c.args.required.now in
    let here = ap (λ es. behind l.fields.items (fields_of reading (λ k. is_named k wanted) (members_view es))) c.in-Some.ensures.steps in
    record {
      can_next = tt;
      is_finite = tt;
      exact = rw c.in_ok-push.ensures.items (fields_go reading (λ k. is_named k wanted) (string_bytes c.in-Some.name.now)
          (view c.in-Some.schema.now) (members_view c.next.new.self) c.in_ok-field_of.field-0 l.fields.items _
          (l.invariant.exact ∙ here) (sym named ∙ c.in_ok-field_of.ensures _ c.read_schema-cel_type.ensures));
    }

pub read_fields-from_vec-requires : goal.read_fields-from_vec-requires
read_fields-from_vec-requires t c =
    let l = c.loop-name in
    let ended =
    ap (λ es. fields_of (schema_type c.args.levels) (λ k. is_named k c.args.required.now) (members_view es)) c.in-None.ensures.steps.0 in
    fields_in_order (schema_type c.args.levels) (λ k. is_named k c.args.required.now)
    (members_view c.args.properties.now.entries) l.fields.items
    (names_in_order c.args.properties.now.entries c.iter-name-items.ensures.ordered)
    (l.invariant.exact ∙ behind-all l.fields.items _ ended)

pub read_fields-returns : goal.read_fields-returns
read_fields-returns t c =
    let l = c.loop-name in
    let ended =
    ap (λ es. fields_of (schema_type c.args.levels) (λ k. is_named k c.args.required.now) (members_view es)) c.in-None.ensures.steps.0 in
    l.invariant.exact ∙ behind-all l.fields.items _ ended ∙ ap Ok (sym c.from_vec.ensures)

pub read_schema-returns-then-levels-eq0 : goal.read_schema-returns-then-levels-eq0
read_schema-returns-then-levels-eq0 t c =
    let none : c.args.levels ≡ 0 = omega arith in
    too_deep c.args.levels (view c.args.schema.now) none

pub read_schema-returns-in_err-nullable : goal.read_schema-returns-in_err-nullable
read_schema-returns-in_err-nullable t c =
    let some : 0 < c.args.levels = omega arith in
    let p = err_from_is_err_and c.from_residual.result c.from_residual.ensures.1 in
    rw (p.1, p.2)
    (one_level c.args.levels (view c.args.schema.now) some ∙ ap (nested_type (schema_type (c.args.levels - 1))) c.in_err-nullable.ensures)

pub read_schema-returns : goal.read_schema-returns
read_schema-returns t c =
    let some : 0 < c.args.levels = omega arith in
    let inner = schema_type (c.args.levels - 1) in
    let here = one_level c.args.levels (view c.args.schema.now) some ∙ ap (nested_type inner) c.in_ok-nullable.ensures in
    subst (λ want. Answers want c.nullable_type.result) (sym here) (c.nullable_type.ensures _ c.read_form.ensures)

pub read_form-returns-in-List : goal.read_form-returns-in-List
read_form-returns-in-List t c =
    subst (λ f. Answers (form_type (schema_type c.args.levels) (form_in f)) c.list_of.result) (sym c.in-List.is)
    (c.list_of.ensures _ c.read_schema.ensures)

pub read_form-returns-in-Map : goal.read_form-returns-in-Map
read_form-returns-in-Map t c =
    subst (λ f. Answers (form_type (schema_type c.args.levels) (form_in f)) c.map_of.result) (sym c.in-Map.is)
    (c.map_of.ensures _ c.read_entry.ensures)

pub read_record-returns : goal.read_record-returns
read_record-returns t c =
    let inner = schema_type c.args.levels in
    let texts = c.as_slice.result.now in
    let named : (k : List ℕ) → is_named k texts ≡ is_among k (items_view c.args.required.now) =
    λ k. ap (λ xs. is_named k xs) c.as_slice.ensures.value ∙ c.in_ok-required.ensures.same k in
    c.object_of.ensures _
    (subst (λ want. Answers want c.read_fields.result)
    (same_fields inner (λ k. is_named k texts) (λ k. is_among k (items_view c.args.required.now))
    (members_view c.args.properties.now.entries) named)
    c.read_fields.ensures)
