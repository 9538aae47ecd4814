use Rattle.std.proofs.Common.{◌≡◌, Some, ap, ◌∙◌, rules}
use Rattle.cel_operators.specs.Operators.{row}
use Rattle.cel_code.specs.Machine.{made}
use Rattle.cel_machine.specs.Follow.{made_of_two, int_made, below_two, next_of}
use Rattle.cel_machine.proofs.Meters.{by_made}
use Rattle.cel_machine.proofs.step.calculate.Goals as goal

pub returns-in-Some-clause-acts : goal.returns-in-Some-clause-acts
returns-in-Some-clause-acts c = λ frames.
    let at = c.args.position.now.at in
    let before = c.args.stack.now.items in
    let answer = int_made c.in-Some.number in
    let makes : made_of_two (row c.args.op) before ≡ Some answer =
    ap (made_of_two (row c.args.op)) c.as_slice.ensures ∙ c.in-Some.ensures in
    let there : made (Some answer) at (below_two before) frames
    ≡ next_of c.go_on.result c.go_on.new.self c.put_over_two.new.self.items frames = search rules in
    by_made (row c.args.op) at before frames answer makes ∙ there
