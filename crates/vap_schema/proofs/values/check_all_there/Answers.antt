use Rattle.std.proofs.Common.{◌≡◌, false, drop, Err, ap, sym, ◌∙◌, rules}
use Rattle.std.specs.Prelude.{not, ◌&&◌, is_some}
use Rattle.vap_schema.specs.InStep.{first_under}
use Rattle.vap_schema.specs.Paths.{path_text, at_field}
use Rattle.vap_schema.specs.Seen.{fault}
use Rattle.vap_schema.specs.declared.fit_fault.FitFaultKind.TheVariants.{Missing}
use Rattle.vap_schema.specs.declared.path.Path as path
use Rattle.vap_schema.proofs.Parts.{told}
use Rattle.vap_schema.proofs.AllThere.{stops_there, goes_on_there, never_missing}
use Rattle.vap_schema.proofs.values.check_all_there.Goals as goal
use Rattle.vap_schema.proofs.values.check_all_there.Goals.{else-field-via-then-field+else-not-is_at, else-field-via-else-field}

pub loop-field-preserved : goal.loop-field-preserved
loop-field-preserved c =
    let l = c.loop-field in
    let f = c.field-item.result in
    let known = is_some (first_under c.as_str-name.result.now (drop c.place_from-place.result c.args.entries.now)) in
    let found : (f.value.required && not known) ≡ false =
    elim c.else-field.branch [
      | else-field-via-then-field+else-not-is_at w ↦ never_missing f.value.required known
          (sym w.is_at.ensures.value ∙ w.if-not-is_at.false)
      | else-field-via-else-field w ↦ ap (λ b. b && not known) w.if-field.false
    ]
    in
    let turn =
    goes_on_there c.args.fields.now l.field-index f
    (path_text c.args.path.now) c.as_str-name.result.now c.args.entries.now l.place c.place_from-place.result
    c.as_str-name.ensures c.loop-field-test.true c.field-item.is c.requires.fields_ordered c.requires.entries_ordered
    c.place_from-place.ensures.value found
    in
    record { within = c.place_from-place.ensures.within; rest = turn ∙ l.invariant.rest }

pub returns-then-not-is_at : goal.returns-then-not-is_at
returns-then-not-is_at c =
    let l = c.loop-field in
    let stop =
    stops_there c.args.fields.now l.field-index c.field-item.result
    (path_text c.args.path.now) c.as_str-name.result.now c.args.entries.now l.place c.place_from-place.result
    c.as_str-name.ensures c.loop-field-test.true c.field-item.is c.requires.fields_ordered c.requires.entries_ordered
    c.place_from-place.ensures.value c.if-field.true
    (sym c.is_at.ensures.value ∙ c.if-not-is_at.true)
    in
    let written : path_text (path.Field c.args.path c.as_str-name.result) ≡ at_field (path_text c.args.path.now) c.as_str-name.result.now =
    search (rules, path.the_lemmas) in
    told _ _ c.refusal.result (sym l.invariant.rest ∙ stop ∙ ap (λ p. Err (fault Missing p)) (sym written)) c.refusal.ensures
