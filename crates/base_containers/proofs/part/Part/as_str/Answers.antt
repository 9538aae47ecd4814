use Rattle.std.proofs.Common.{option_map, sym, ap, ◌∙◌, subst}
use Rattle.serde_json.specs.Find.{as_str}
use Rattle.base_containers.specs.Places.{data_at_place, IsPlace}
use Rattle.base_containers.proofs.Lookups.{text_of_part}
use Rattle.base_containers.proofs.part.Part.as_str.Goals as goal

pub returns-in-Tape : goal.returns-in-Tape
returns-in-Tape c =
    let part = subst IsPlace c.in-Tape.is c.self.invariant in
    text_of_part c.in-Tape.element part (option_map (λ s. s.now) c.as_str.result) c.as_str.ensures
    ∙ ap as_str (ap data_at_place (sym c.in-Tape.is) ∙ c.self.view_is)
