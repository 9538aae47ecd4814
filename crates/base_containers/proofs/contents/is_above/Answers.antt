use Rattle.std.proofs.Common.{nat_cmp, is_lt, ap, sym, ◌∙◌}
use Rattle.std.specs.Cmp.Lexicographic.{slice_cmp}
use Rattle.base_containers.specs.Gathered.{Member}
use Rattle.base_containers.proofs.InOrder.{above_last}
use Rattle.base_containers.proofs.contents.is_above.Goals as goal

pub returns-in-len1-up : goal.returns-in-len1-up
returns-in-len1-up c =
    let name = c.args.name.now in
    c.is_lt.ensures ∙ ap is_lt c.order.ensures ∙ ap (λ (m : Member). is_lt (slice_cmp nat_cmp m.0.now name)) c.last-item.is
    ∙ sym (above_last name c.args.found.now c.last-item.result c.in-len1-up.len_at_least)
