use Rattle.std.proofs.Common.{◌≡◌, ◌∙◌, Some, refl, rules}
use Rattle.cel_operators.specs.Operators.{row}
use Rattle.cel_operators.specs.declared.operator.Operator.TheVariants as operator
use Rattle.cel_operators.specs.declared.operands.Want.TheVariants.{Characters}
use Rattle.cel_code.specs.Machine.{made}
use Rattle.cel_machine.specs.Follow.{below_top, next_of, size_made}
use Rattle.cel_machine.proofs.Meters.{by_made_of_one}
use Rattle.cel_machine.proofs.step.measure.Goals as goal

pub returns-clause-acts : goal.returns-clause-acts
returns-clause-acts c = λ frames.
    let at = c.args.position.now.at in
    let before = c.args.stack.now.items in
    let answer = size_made c.in-Some.size in
    let there : made (Some answer) at (below_top before) frames
    ≡ next_of c.go_on.result c.go_on.new.self c.put_over_top.new.self.items frames = search rules in
    by_made_of_one (row operator.SizeText) Characters at before frames answer refl c.in-Some.ensures.size ∙ there
