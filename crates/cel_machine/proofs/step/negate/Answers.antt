use Rattle.std.proofs.Common.{◌≡◌, Some, Ok, not, refl, ap, ◌∙◌, rules}
use Rattle.cel_value.specs.declared.value.Value as value
use Rattle.cel_operators.specs.Operators.{row, at_one}
use Rattle.cel_operators.specs.declared.operator.Made.{Made}
use Rattle.cel_operators.specs.declared.operator.Operator.TheVariants as operator
use Rattle.cel_operators.specs.declared.operands.Want.TheVariants.{Truth}
use Rattle.cel_operators_applied.specs.Counted.{counted}
use Rattle.cel_code.specs.Machine.{made}
use Rattle.cel_machine.specs.Follow.{top_of, below_top, next_of}
use Rattle.cel_machine.proofs.Meters.{by_made_of_one}
use Rattle.cel_machine.proofs.step.negate.Goals as goal

pub returns-clause-acts : goal.returns-clause-acts
unfolding value.out-Value denote.Hole.Carrier.out
returns-clause-acts c = λ frames.
    let at = c.args.position.now.at in
    let before = c.args.stack.now.items in
    let answer : Made = record { outcome = Ok (value.Bool (not c.in-Some.holds)); charge = 1 } in
    let makes : counted (at_one (row operator.Not) (top_of before)) ≡ Some answer =
    ap (λ o. counted (at_one (row operator.Not) o)) c.in-Some.ensures in
    let there : made (Some answer) at (below_top before) frames
    ≡ next_of c.go_on.result c.go_on.new.self c.put_truth.new.self.items frames = search rules in
    by_made_of_one (row operator.Not) Truth at before frames answer refl makes ∙ there
