use Rattle.std.proofs.Common.{Some}
use Rattle.cel_code.specs.Machine.{operate_with}
use Rattle.cel_operators.specs.declared.text_operator.TextOperator.TheVariants.{Select, Has, Matches}
use Rattle.cel_machine.specs.Follow.{LeadsTo}
use Rattle.cel_machine.proofs.Meters.{led, told_of}
use Rattle.cel_machine.proofs.with_text.operate_with.Goals as goal

pub returns-in-Select-clause-acts : goal.returns-in-Select-clause-acts
returns-in-Select-clause-acts c =
    told_of c.select.result c.told.result
    (λ m.
    LeadsTo (operate_with c.args.op (Some c.args.text.now) c.args.position.now.at c.args.stack.now.items) m c.select.new.position
    c.select.new.stack.items)
    c.told.ensures.moved
    (led c.select.result c.args.op Select c.args.text.now c.args.position.now.at c.select.new.position c.args.stack.now.items
    c.select.new.stack.items
    c.in-Select.is c.select.ensures.acts)

pub returns-in-Has-clause-acts : goal.returns-in-Has-clause-acts
returns-in-Has-clause-acts c =
    told_of c.has.result c.told-in-Has.result
    (λ m.
    LeadsTo (operate_with c.args.op (Some c.args.text.now) c.args.position.now.at c.args.stack.now.items) m c.has.new.position
    c.has.new.stack.items)
    c.told-in-Has.ensures.moved
    (led c.has.result c.args.op Has c.args.text.now c.args.position.now.at c.has.new.position c.args.stack.now.items
    c.has.new.stack.items
    c.in-Has.is c.has.ensures.acts)

pub returns-in-Matches-clause-acts : goal.returns-in-Matches-clause-acts
returns-in-Matches-clause-acts c =
    led c.search.result c.args.op Matches c.args.text.now c.args.position.now.at c.search.new.position c.args.stack.now.items
    c.search.new.stack.items
    c.in-Matches.is c.search.ensures.acts
