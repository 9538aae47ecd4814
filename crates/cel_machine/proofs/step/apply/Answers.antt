use Rattle.std.proofs.Common.{Some, sym, ◌∙◌}
use Rattle.cel_operators.specs.Operators.{row}
use Rattle.cel_code.specs.Machine.{operate_by}
use Rattle.cel_machine.specs.Follow.{Comes, LeadsTo, metered_one, metered_two}
use Rattle.cel_machine.proofs.Meters.{by_one, by_two, carried}
use Rattle.cel_machine.proofs.step.apply.Goals as goal

pub returns-in-One-clause-acts : goal.returns-in-One-clause-acts
returns-in-One-clause-acts c =
    let after = c.operate_one.new.stack.items in
    let there = c.operate_one.new.position in
    let before = c.args.stack.now.items in
    carried c.operate_one.result (λ m. Comes (metered_one (row c.args.op) c.args.position.now.at before) m there after)
    (λ m. LeadsTo (operate_by (Some c.args.op) c.args.position.now.at before) m there after)
    (λ m h. λ frames. by_one (row c.args.op) _ c.args.position.now.at before frames (sym c.operands.ensures ∙ c.in-One.is) ∙ h frames)
    c.operate_one.ensures.acts

pub returns-in-Two-clause-acts : goal.returns-in-Two-clause-acts
returns-in-Two-clause-acts c =
    let after = c.operate_two.new.stack.items in
    let there = c.operate_two.new.position in
    let before = c.args.stack.now.items in
    carried c.operate_two.result (λ m. Comes (metered_two (row c.args.op) c.args.position.now.at before) m there after)
    (λ m. LeadsTo (operate_by (Some c.args.op) c.args.position.now.at before) m there after)
    (λ m h. λ frames. by_two (row c.args.op) _ _ c.args.position.now.at before frames (sym c.operands.ensures ∙ c.in-Two.is) ∙ h frames)
    c.operate_two.ensures.acts
