use Rattle.std.proofs.Common.{Some, ap, sym, ◌∙◌}
use Rattle.cel_value.proofs.Taken.{join-taken}
use Rattle.cel_value.proofs.common_types.join_or_share.Goals as goal

pub returns-then-assignable : goal.returns-then-assignable
returns-then-assignable c =
    let taken = join-taken c.args.left.now c.args.right.now (sym c.assignable.ensures.exact ∙ c.if-assignable.true) in
    ap Some c.in_ok-copy.ensures ∙ sym taken
