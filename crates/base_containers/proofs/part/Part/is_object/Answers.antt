use Rattle.std.proofs.Common.{sym, ap, ◌∙◌, subst}
use Rattle.std.specs.Prelude.{is_some}
use Rattle.serde_json.specs.Find.{as_object}
use Rattle.base_containers.specs.Parts.{data_of}
use Rattle.base_containers.specs.Places.{data_at_place, IsPlace}
use Rattle.base_containers.proofs.Gathers.{members_here, object_here}
use Rattle.base_containers.proofs.part.Part.is_object.Goals as goal

pub returns-in-Tape : goal.returns-in-Tape
returns-in-Tape c =
    let part = subst IsPlace c.in-Tape.is c.self.invariant in
    let here = members_here c.in-Tape.element part c.members.result c.members.ensures in
    c.is_some.ensures ∙ object_here c.members.result (data_of c.in-Tape.element) here
    ∙ ap (λ d. is_some (as_object d)) (ap data_at_place (sym c.in-Tape.is) ∙ c.self.view_is)
