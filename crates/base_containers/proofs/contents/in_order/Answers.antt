use Rattle.std.proofs.Common.{◌++◌, ap, sym, ◌∙◌}
use Rattle.base_containers.proofs.InOrder.{lent_in_order}
use Rattle.base_containers.proofs.contents.in_order.Goals as goal

pub loop-member-init : goal.loop-member-init
loop-member-init c = record {
  exact = sym (ap (λ ms. ms ++ c.into_iter-member-iterator.result) c.in_ok-found.ensures.items
      ∙ c.into_iter-member-iterator.ensures.into_iter_gives.0);
  ordered = lent_in_order c.args.members.entries c.len.ensures.ordered;
}
