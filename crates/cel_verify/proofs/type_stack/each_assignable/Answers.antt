use Rattle.std.proofs.Common.{reverse, sym, ◌∙◌}
use Rattle.std.proofs.lemmas.List.{length-reverse}
use Rattle.cel_verify.proofs.Pairwise.{types_long}
use Rattle.cel_verify.proofs.type_stack.each_assignable.Goals as goal

pub returns-then-from-to : goal.returns-then-from-to
returns-then-from-to c =
    let from = c.args.from.now in
    let to = c.args.to.now in
    sym (types_long (reverse from) (reverse to) (λ e. c.if-from-to.true (sym (length-reverse from) ∙ e ∙ length-reverse to)))
