use Rattle.std.proofs.Common.{sym, ap, ◌∙◌, subst}
use Rattle.serde_json.specs.Find.{as_bool}
use Rattle.base_containers.specs.Places.{data_at_place, IsPlace}
use Rattle.base_containers.proofs.Lookups.{bool_of_part}
use Rattle.base_containers.proofs.part.Part.as_bool.Goals as goal

pub returns-in-Tape : goal.returns-in-Tape
returns-in-Tape c =
    let part = subst IsPlace c.in-Tape.is c.self.invariant in
    bool_of_part c.in-Tape.element part c.as_bool.result c.as_bool.ensures
    ∙ ap as_bool (ap data_at_place (sym c.in-Tape.is) ∙ c.self.view_is)
