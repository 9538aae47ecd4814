use Rattle.std.proofs.Common.{sym, ap, ◌∙◌, true≢false}
use Rattle.cel_verify.specs.Paths.{is_loop}
use Rattle.cel_verify.proofs.rules.typed.Goals as goal

pub unreachable-requires : goal.unreachable-requires
unreachable-requires c = true≢false (sym (ap is_loop c.in-Loop.is) ∙ c.requires.plain)
