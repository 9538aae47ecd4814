use Rattle.std.proofs.Common.{option_map, option_and_then, sym, ap, ◌∙◌, subst}
use Rattle.serde_json.specs.Find.{as_number}
use Rattle.serde_json.specs.Read.{number_of}
use Rattle.base_containers.specs.Numbers.{num_of}
use Rattle.base_containers.specs.Places.{data_at_place, IsPlace}
use Rattle.base_containers.proofs.Lookups.{number_of_part}
use Rattle.base_containers.proofs.part.Part.as_number.Goals as goal

pub returns-in_err-as_number-in-Tape : goal.returns-in_err-as_number-in-Tape
returns-in_err-as_number-in-Tape c =
    let part = subst IsPlace c.in-Tape.is c.self.invariant in
    let n = number_of_part c.in-Tape.element part (option_map (λ s. s.now) c.as_number.result) c.as_number.ensures in
    ap (option_map num_of) c.from_residual.ensures
    ∙ ap (λ r. option_and_then number_of (option_map (λ s. s.now) r)) (sym c.in_err-as_number-in-Tape.was) ∙ n
    ∙ ap as_number (ap data_at_place (sym c.in-Tape.is) ∙ c.self.view_is)

pub returns-in_ok-as_number-in-Tape : goal.returns-in_ok-as_number-in-Tape
returns-in_ok-as_number-in-Tape c =
    let part = subst IsPlace c.in-Tape.is c.self.invariant in
    let n = number_of_part c.in-Tape.element part (option_map (λ s. s.now) c.as_number.result) c.as_number.ensures in
    c.number_in.ensures
    ∙ ap (λ r. option_and_then number_of (option_map (λ s. s.now) r)) (sym c.in_ok-as_number-in-Tape.was) ∙ n
    ∙ ap as_number (ap data_at_place (sym c.in-Tape.is) ∙ c.self.view_is)
