use Rattle.std.proofs.Common.{sym, ◌∙◌, arith}
use Rattle.cel_lex.proofs.EscapeParts.{bad_within}
use Rattle.cel_lex.proofs.literal.content_piece.Goals as goal

pub overflow_add-before : goal.overflow_add-before
overflow_add-before c =
    let within = bad_within 0 c.args.body.now c.in-Err.place (sym c.in_ok-text.ensures ∙ c.in-Err.is) in
    omega arith
