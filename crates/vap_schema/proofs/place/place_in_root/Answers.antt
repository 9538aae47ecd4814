use Rattle.std.proofs.Common.{sym, ap, subst}
use Rattle.std.specs.Prelude.{IfOk}
use Rattle.vap_schema.specs.Answers.{IsPlaceBackwards}
use Rattle.vap_schema.specs.Places.{root_place, schema_place}
use Rattle.vap_schema.proofs.place.place_in_root.Goals as goal

pub returns-in-Ok : goal.returns-in-Ok
returns-in-Ok c =
    subst (λ want. IfOk c.place_in_form.result (IsPlaceBackwards want)) (sym (ap (root_place (schema_place 99)) c.in-Ok.ensures))
    c.place_in_form.ensures

pub returns-in-Err : goal.returns-in-Err
returns-in-Err c =
    subst (λ want. IfOk c.own_place.result (IsPlaceBackwards want)) (sym (ap (root_place (schema_place 99)) c.in-Err.ensures))
    c.own_place.ensures
