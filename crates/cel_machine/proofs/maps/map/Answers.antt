use Rattle.cel_machine.proofs.Gathering.{none_mapped, some_mapped}
use Rattle.cel_machine.proofs.maps.map.Goals as goal

pub returns-in_default-clause-acts : goal.returns-in_default-clause-acts
returns-in_default-clause-acts c = λ frames.
    none_mapped c.args.count c.args.position.now.at c.args.stack.now.items c.entries_off.new.stack.items c.in_ok-entries.field-0 frames
    c.in_default.is c.in_ok-entries.ensures.taken

pub returns-clause-acts : goal.returns-clause-acts
returns-clause-acts c =
    some_mapped c.args.count c.args.position.now.at c.finish.new.position c.args.stack.now.items c.entries_off.new.stack.items
    c.finish.new.stack.items c.in_ok-entries.field-0
    c.in-Some.entries c.map_of.result c.finish.result c.in-Some.is c.in_ok-entries.ensures.taken c.map_of.ensures c.finish.ensures.acts
