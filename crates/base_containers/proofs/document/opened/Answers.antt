use Rattle.std.proofs.Common.{Err, sym, ap, ◌∙◌}
use Rattle.base_containers.proofs.Accepts.{nodes_accepted, not_read, opens, opens_not}
use Rattle.base_containers.proofs.document.opened.Goals as goal

pub returns-then-are_accepted : goal.returns-then-are_accepted
returns-then-are_accepted c =
    let tape = c.in-Ok.ensures.ok in
    let is = nodes_accepted c.args.text.now c.nodes.result.now (c.nodes.ensures.tokens ∙ tape.0) tape.1 in
    opens c.args.text.now c.in-Ok.tape tape.0 (sym (c.are_accepted.ensures ∙ is) ∙ c.if-are_accepted.true)

pub returns-in-Ok : goal.returns-in-Ok
returns-in-Ok c =
    let tape = c.in-Ok.ensures.ok in
    let is = nodes_accepted c.args.text.now c.nodes.result.now (c.nodes.ensures.tokens ∙ tape.0) tape.1 in
    opens_not _ (sym (c.are_accepted.ensures ∙ is) ∙ c.if-are_accepted.false)

pub returns-in-Err-Invalid : goal.returns-in-Err-Invalid
returns-in-Err-Invalid c = not_read c.args.text.now (c.parse.ensures.invalid (c.in-Err-Invalid.is ∙ ap Err c.in-Err-Invalid.field-0-is))
