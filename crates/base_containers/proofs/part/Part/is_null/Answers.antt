use Rattle.std.proofs.Common.{sym, ap, ◌∙◌, subst}
use Rattle.std.specs.Prelude.{is_some}
use Rattle.serde_json.specs.Find.{as_null}
use Rattle.base_containers.specs.Places.{data_at_place, IsPlace}
use Rattle.base_containers.proofs.Lookups.{null_of_part}
use Rattle.base_containers.proofs.part.Part.is_null.Goals as goal

pub returns-in-Tape : goal.returns-in-Tape
returns-in-Tape c =
    let part = subst IsPlace c.in-Tape.is c.self.invariant in
    null_of_part c.in-Tape.element part c.is_null.result c.is_null.ensures
    ∙ ap (λ d. is_some (as_null d)) (ap data_at_place (sym c.in-Tape.is) ∙ c.self.view_is)
