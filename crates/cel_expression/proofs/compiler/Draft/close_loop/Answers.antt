use Rattle.std.proofs.Common.{ap, ◌∙◌}
use Rattle.cel_code.specs.LoopNumbers.{loop_number}
use Rattle.cel_code.specs.declared.instr.Instr.TheVariants as instr
use Rattle.cel_expression.specs.Drafts.{drafted}
use Rattle.cel_expression.specs.Placed.{with_instr, patched}
use Rattle.cel_expression.proofs.Written.{grows_code}
use Rattle.cel_expression.proofs.compiler.Draft.close_loop.Goals as goal

pub returns-clause-code : goal.returns-clause-code
returns-clause-code c =
    let exit = c.len-exit.result in
    let ended = with_instr (drafted c.args.self.now) instr.Next in
    let number = c.loop_number-number.result in
    c.patch.ensures.code
    ∙ ap (λ code. patched code c.args.start (instr.Loop number exit)) c.in_ok-put.ensures.code
    ∙ ap (λ n. patched ended c.args.start (instr.Loop n exit)) c.loop_number-number.ensures
    ∙ ap (λ n. patched ended c.args.start (instr.Loop (loop_number c.args.mode) n)) (c.len-exit.ensures ∙ c.in_ok-put.ensures.grows.size)

pub returns-clause-grows : goal.returns-clause-grows
returns-clause-grows c = grows_code _ _ _ 1 0 _ _ c.in_ok-put.ensures.grows c.patch.ensures.grows
