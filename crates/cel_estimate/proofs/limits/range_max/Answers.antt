use Rattle.std.proofs.Common.{◌∙◌}
use Rattle.cel_operators.specs.Wants.{limit_of}
use Rattle.cel_operators.specs.declared.operands.Want.TheVariants.{Ranged}
use Rattle.cel_estimate.proofs.Ranges.{most_of}
use Rattle.cel_estimate.proofs.limits.range_max.Goals as goal

pub returns : goal.returns
returns c = c.unwrap_or.ensures ∙ most_of (limit_of Ranged c.args.range.now) _ c.most_items.ensures
