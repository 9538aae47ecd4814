use Rattle.std.proofs.Common.{sym, ap, ◌∙◌, subst}
use Rattle.serde_json.specs.Find.{get}
use Rattle.base_containers.specs.Parts.{data_of}
use Rattle.base_containers.specs.Places.{data_at_place, IsPlace}
use Rattle.base_containers.proofs.Lookups.{found, FoundAs}
use Rattle.base_containers.proofs.part.Part.get.Goals as goal

pub invariant_of-result : goal.invariant_of-result
invariant_of-result c =
    let part = subst IsPlace c.in-Tape.is c.self.invariant in
    let f = found c.args.name.now c.in-Tape.element part c.get.result c.get.ensures in
    (subst (λ r. FoundAs r (get c.args.name.now (data_of c.in-Tape.element))) c.in-Some.is f).0

pub returns-in-Some : goal.returns-in-Some
returns-in-Some c =
    let part = subst IsPlace c.in-Tape.is c.self.invariant in
    let f = found c.args.name.now c.in-Tape.element part c.get.result c.get.ensures in
    (subst (λ r. FoundAs r (get c.args.name.now (data_of c.in-Tape.element))) c.in-Some.is f).1
    ∙ ap (get c.args.name.now) (ap data_at_place (sym c.in-Tape.is) ∙ c.self.view_is)

pub returns-in-None : goal.returns-in-None
returns-in-None c =
    let part = subst IsPlace c.in-Tape.is c.self.invariant in
    let f = found c.args.name.now c.in-Tape.element part c.get.result c.get.ensures in
    subst (λ r. FoundAs r (get c.args.name.now (data_of c.in-Tape.element))) c.in-None.is f
    ∙ ap (get c.args.name.now) (ap data_at_place (sym c.in-Tape.is) ∙ c.self.view_is)
