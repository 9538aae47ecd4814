use Rattle.std.proofs.Common.{◌≡◌, ◌∙◌, ap, sym, refl, rules, arith, subst, Option, None, ℕ}
use Rattle.vap_plane_gathering.specs.Numbered.{IsLeastStranger}
use Rattle.vap_plane_gathering.proofs.Numbered.{list_of}
use Rattle.vap_plane_gathering.proofs.gathering.gather.Goals as goal

pub returns-in-None : goal.returns-in-None
returns-in-None c =
    list_of c.args.count c.args.answers.items c.in_ok-slots.slots.items c.in-Ok.verdicts.items c.in_ok-slots.ensures.slots c.in-Ok.ensures
    (subst (λ (s : Option ℕ). IsLeastStranger c.args.count c.args.answers.items s) c.in-None.is c.in_ok-slots.ensures.stranger)
