use Rattle.std.proofs.Common.{ap, ◌∙◌}
use Rattle.cel_code.specs.declared.instr.Instr.TheVariants as instr
use Rattle.cel_expression.specs.Drafts.{drafted}
use Rattle.cel_expression.specs.Placed.{with_instr}
use Rattle.cel_expression.proofs.Written.{grows_code}
use Rattle.cel_expression.proofs.compiler.Draft.open_loop.Goals as goal

pub returns-clause-code : goal.returns-clause-code
returns-clause-code c =
    c.in_ok-put-2.ensures.code
    ∙ ap (λ code. with_instr code instr.Item) c.in_ok-put.ensures.code
    ∙ ap (λ n. with_instr (with_instr (drafted c.args.self.now) (instr.Loop n 0)) instr.Item) c.loop_number-number.ensures

pub returns-clause-grows : goal.returns-clause-grows
returns-clause-grows c = grows_code _ _ _ 1 1 _ _ c.in_ok-put.ensures.grows c.in_ok-put-2.ensures.grows
