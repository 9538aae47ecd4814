use Rattle.std.proofs.Common.{◌≡◌, ◌-◌, ◌<◌, IfOk, ap, sym, ◌∙◌, subst, refl, string_bytes, arith}
use Rattle.serde_json.specs.View.{view, members_view}
use Rattle.vap_schema.specs.Answers.{IsPlaceBackwards}
use Rattle.vap_schema.specs.Forms.{form_in}
use Rattle.vap_schema.specs.Places.{under, form_place, nested_place, schema_place, members_place, entry_place}
use Rattle.vap_schema.proofs.Walks.{too_deep, one_level, members_stop, members_go}
use Rattle.vap_schema.proofs.place.+place_in.Goals as goal

pub place_in-returns-then-levels-eq0 : goal.place_in-returns-then-levels-eq0
place_in-returns-then-levels-eq0 t c =
    let none : c.args.levels ≡ 0 = omega arith in
    rw (too_deep c.args.levels (view c.args.schema.now) none, c.here.ensures.fault, c.here.ensures.path) refl

pub place_in-returns-in-Ok : goal.place_in-returns-in-Ok
place_in-returns-in-Ok t c =
    let some : 0 < c.args.levels = omega arith in
    let within = schema_place (c.args.levels - 1) in
    let here = one_level c.args.levels (view c.args.schema.now) some ∙ ap (nested_place within) c.in-Ok.ensures in
    subst (λ want. IfOk c.place_in_form.result (IsPlaceBackwards want)) (sym here) c.place_in_form.ensures

pub place_in-returns-in-Err : goal.place_in-returns-in-Err
place_in-returns-in-Err t c =
    let some : 0 < c.args.levels = omega arith in
    let within = schema_place (c.args.levels - 1) in
    let here = one_level c.args.levels (view c.args.schema.now) some ∙ ap (nested_place within) c.in-Err.ensures in
    subst (λ want. IfOk c.own_place.result (IsPlaceBackwards want)) (sym here) c.own_place.ensures

pub place_in_form-returns-in-List : goal.place_in_form-returns-in-List
place_in_form-returns-in-List t c =
    let found = schema_place c.args.levels (view c.in-List.items.now) in
    subst (λ f. IfOk c.under.result (IsPlaceBackwards (form_place (schema_place c.args.levels) (form_in f)))) (sym c.in-List.is)
    (subst (λ k. IfOk c.under.result (IsPlaceBackwards (under k found))) c.name.ensures
    (c.under.ensures _ c.place_in.ensures))

pub place_in_form-returns-in-Map : goal.place_in_form-returns-in-Map
place_in_form-returns-in-Map t c =
    let found = entry_place (schema_place c.args.levels) (view c.in-Map.entry.now) in
    subst (λ f. IfOk c.under-in-Map.result (IsPlaceBackwards (form_place (schema_place c.args.levels) (form_in f)))) (sym c.in-Map.is)
    (subst (λ k. IfOk c.under-in-Map.result (IsPlaceBackwards (under k found))) c.name-in-Map.ensures
    (c.under-in-Map.ensures _ c.place_in_entry.ensures))

pub place_in_form-returns-in-Record : goal.place_in_form-returns-in-Record
place_in_form-returns-in-Record t c =
    let found = members_place (schema_place c.args.levels) (members_view c.in-Record.properties.now.entries) in
    subst (λ f. IfOk c.under-in-Record.result (IsPlaceBackwards (form_place (schema_place c.args.levels) (form_in f)))) (sym c.in-Record.is)
    (subst (λ k. IfOk c.under-in-Record.result (IsPlaceBackwards (under k found))) c.name-in-Record.ensures
    (c.under-in-Record.ensures _ c.place_among.ensures))

pub place_among-returns-then-is_some : goal.place_among-returns-then-is_some
place_among-returns-then-is_some t c =
    let within = schema_place c.args.levels in
    let document = view c.in-Some.schema.now in
    let here = ap (λ es. members_place within (members_view es)) c.in-Some.ensures.steps in
    members_stop within (string_bytes c.in-Some.name.now) document (members_view c.next.new.self) _ c.in_ok-found.found
    (c.loop-name.invariant.exact ∙ here)
    (subst (λ k. IsPlaceBackwards (under k (within document)) c.in_ok-found.found) c.as_str.ensures.value
    (c.in_ok-found.ensures _ c.place_in.ensures))
    (sym c.is_some.ensures ∙ c.if-is_some.true)

pub place_among-loop-name-preserved : goal.place_among-loop-name-preserved
place_among-loop-name-preserved t c =
    let within = schema_place c.args.levels in
    let document = view c.in-Some.schema.now in
    let here = ap (λ es. members_place within (members_view es)) c.in-Some.ensures.steps in
    record {
      can_next = tt;
      is_finite = tt;
      exact = members_go within (string_bytes c.in-Some.name.now) document (members_view c.next.new.self) _ c.in_ok-found.found
          (c.loop-name.invariant.exact ∙ here)
          (subst (λ k. IsPlaceBackwards (under k (within document)) c.in_ok-found.found) c.as_str.ensures.value
          (c.in_ok-found.ensures _ c.place_in.ensures))
          (sym c.is_some.ensures ∙ c.if-is_some.false);
    }
