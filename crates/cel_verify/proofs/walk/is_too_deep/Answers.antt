use Rattle.std.proofs.Common.{not, Some, sym, ap, ◌∙◌}
use Rattle.std.specs.Prelude.{Ok}
use Rattle.cel_verify.specs.declared.fault.VerifyRule.TheVariants.{TooDeep}
use Rattle.cel_verify.specs.Sound.{needs}
use Rattle.cel_verify.specs.Walked.{shallow}
use Rattle.cel_verify.proofs.Openings.{shallow_by}
use Rattle.cel_verify.proofs.walk.is_too_deep.Goals as goal

pub returns-in-Some-clause-deep : goal.returns-in-Some-clause-deep
returns-in-Some-clause-deep c = λ t.
    let opens = c.args.opens.now in
    let ts = c.in-Some.types in
    ap (λ o. shallow opens (Ok o)) c.in-Some.is
    ∙ shallow_by opens ts c.len.result c.below.result c.len-in-Some.result c.is_too_much.result c.len.ensures c.below.ensures
    c.len-in-Some.ensures c.is_too_much.ensures
    ∙ ap (λ b. needs (not b) TooDeep (Ok (Some ts))) t

pub returns-in-Some-clause-shallow : goal.returns-in-Some-clause-shallow
returns-in-Some-clause-shallow c = λ f.
    let opens = c.args.opens.now in
    let ts = c.in-Some.types in
    ap (λ o. shallow opens (Ok o)) c.in-Some.is
    ∙ shallow_by opens ts c.len.result c.below.result c.len-in-Some.result c.is_too_much.result c.len.ensures c.below.ensures
    c.len-in-Some.ensures c.is_too_much.ensures
    ∙ ap (λ b. needs (not b) TooDeep (Ok (Some ts))) f
    ∙ ap Ok (sym c.in-Some.is)
