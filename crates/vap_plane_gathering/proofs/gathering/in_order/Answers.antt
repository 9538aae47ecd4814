use Rattle.std.proofs.Common.{◌≡◌, ◌∙◌, ◌++◌, ◌∷◌, [], List, length, ap, sym, refl, rules}
use Rattle.vap_plane_gathering.specs.declared.gathering.Came.{Came}
use Rattle.vap_plane_gathering.specs.declared.gathering.Came.TheVariants.{Never, Once, Again}
use Rattle.vap_plane_gathering.specs.declared.gathering.GatherFault.TheVariants.{Double, Lost}
use Rattle.vap_plane_gathering.proofs.Numbered.{breaks_here}
use Rattle.vap_plane_gathering.proofs.gathering.in_order.Goals as goal

pub returns-in-Never : goal.returns-in-Never
returns-in-Never c =
    breaks_here _ c.loop-slot.yielded c.next.new.self.rest.items c.loop-slot.verdicts.items Never _ c.loop-slot.invariant.0
    (ap (λ (s : Came). c.loop-slot.yielded ++ s ∷ c.next.new.self.rest.items) (sym c.in-Never.is)
    ∙ (ap (λ (l : List Came). c.loop-slot.yielded ++ l) (sym c.in-Some.ensures.steps.0) ∙ c.loop-slot.invariant.1))
    (let e : c.len.result ≡ length c.loop-slot.verdicts.items = search rules in ap Lost e)

pub returns-in-Again : goal.returns-in-Again
returns-in-Again c =
    breaks_here _ c.loop-slot.yielded c.next.new.self.rest.items c.loop-slot.verdicts.items Again _ c.loop-slot.invariant.0
    (ap (λ (s : Came). c.loop-slot.yielded ++ s ∷ c.next.new.self.rest.items) (sym c.in-Again.is)
    ∙ (ap (λ (l : List Came). c.loop-slot.yielded ++ l) (sym c.in-Some.ensures.steps.0) ∙ c.loop-slot.invariant.1))
    (let e : c.len-in-Again.result ≡ length c.loop-slot.verdicts.items = search rules in ap Double e)
