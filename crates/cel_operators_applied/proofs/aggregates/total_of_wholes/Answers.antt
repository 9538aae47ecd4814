use Rattle.std.proofs.Common.{sym, ◌∙◌, arith, to_z}
use Rattle.std.specs.Int.{w128}
use Rattle.std.proofs.lemmas.Int.{ints}
use Rattle.cel_operators_applied.proofs.Folds.{sum_more}
use Rattle.cel_operators_applied.proofs.aggregates.total_of_wholes.Goals as goal

pub loop-item-preserved : goal.loop-item-preserved
loop-item-preserved c = record {
  rest = sum_more c.args.items.now c.loop-item.item-index c.item-item.result c.in_ok-n.n (to_z w128 c.loop-item.total-bits) _
      c.loop-item-test.true c.item-item.is
      (sym c.whole_in.ensures ∙ c.in_ok-n.was) (omega (arith, ints)) ∙ c.loop-item.invariant.rest;
  above = omega (arith, ints);
  below = omega (arith, ints);
}
