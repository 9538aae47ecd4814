use Rattle.std.proofs.Common.{arith}
use Rattle.cel_lex.proofs.LiteralParts.{closing_within, closing_cut}
use Rattle.cel_lex.proofs.literal.literal.Goals as goal

pub overflow_add-place : goal.overflow_add-place
overflow_add-place c =
    let within =
    closing_within c.args.style c.as_bytes.result.now c.args.text.now c.args.place c.in-Some.count c.as_bytes.ensures.value
    c.in-Some.ensures in
    omega arith

pub range-requires-clause-end_boundary : goal.range-requires-clause-end_boundary
range-requires-clause-end_boundary c =
    closing_cut c.args.style c.as_bytes.result.now c.args.text.now c.args.place c.in-Some.count c.as_bytes.ensures.value c.in-Some.ensures
    c.requires.ascii
