use Rattle.std.proofs.Common.{arith}
use Rattle.std.proofs.lemmas.Grind.{common_steps}
use Rattle.cel_parse.proofs.Expanded.{call_gives, method_gives, list_gives, map_gives}
use Rattle.cel_parse.proofs.expansion.+expansion.Goals as goal

pub expand-returns-in-Call : goal.expand-returns-in-Call
expand-returns-in-Call t c =
    call_gives c.args.source.now c.in-Call.place c.args.tree.now c.in-Call.arguments c.as_slice.result.now c.as_slice.ensures c.call.result
    c.in-Call.is c.call.ensures

pub expand-returns-in_ok-operand-in-Method : goal.expand-returns-in_ok-operand-in-Method
expand-returns-in_ok-operand-in-Method t c =
    method_gives c.args.source.now c.in-Method.place c.args.tree.now c.in-Method.arguments c.as_slice-in-Method.result.now
    c.as_slice-in-Method.ensures c.method.result c.in-Method.operand c.get-in-Method.result.now c.in_ok-operand-in-Method.operand
    c.in-Method.is c.get-in-Method.ensures c.in_ok-operand-in-Method.ensures c.method.ensures

pub expand-returns-in-List : goal.expand-returns-in-List
expand-returns-in-List t c =
    list_gives c.args.source.now c.in-List.place c.args.tree.now c.in-List.items c.as_slice-in-List.result.now c.as_slice-in-List.ensures
    c.listed.result c.in-List.is
    (c.listed.ensures _ c.each-items.ensures)

pub expand-returns-in-Map : goal.expand-returns-in-Map
expand-returns-in-Map t c =
    map_gives c.args.source.now c.in-Map.place c.args.tree.now c.in-Map.entries c.as_slice-in-Map.result.now c.as_slice-in-Map.ensures
    c.mapped.result c.in-Map.is
    (c.mapped.ensures _ c.each_entry-entries.ensures)

pub each_entry-returns-in_err-key : goal.each_entry-returns-in_err-key
each_entry-returns-in_err-key t c = grind (arith, common_steps)
