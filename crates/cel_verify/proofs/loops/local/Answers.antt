use Rattle.std.proofs.Common.{◌≡◌, Some, sym, ap, ◌∙◌, rules}
use Rattle.std.specs.Prelude.{option_copied, slice_get}
use Rattle.cel_verify.specs.Sound.{local_rule}
use Rattle.cel_verify.proofs.loops.local.Goals as goal

pub returns-in_default : goal.returns-in_default
returns-in_default c = ap (λ o. local_rule o c.args.types) (sym c.get.ensures ∙ ap option_copied c.in_default.is)

pub returns : goal.returns
returns c =
    let there : slice_get c.args.opens.now c.args.within ≡ Some c.in-Some.around.now =
    sym c.get.ensures ∙ ap option_copied c.in-Some.is in
    rw there (search rules)
