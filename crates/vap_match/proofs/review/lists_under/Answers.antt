use Rattle.std.proofs.Common.{◌≡◌, ◌++◌, append-nil, sym, ap, ◌∙◌, subst, arith}
use Rattle.std.proofs.lemmas.Grind.{common_steps}
use Rattle.std.proofs.lemmas.List.{drop_all}
use Rattle.base_containers.specs.Gathered.{members_of}
use Rattle.base_containers.specs.Keys.{IsInKeyOrder}
use Rattle.vap_match.specs.RequestReading.{lists_under}
use Rattle.vap_match.proofs.EntryOrder.{lists_in_order}
use Rattle.vap_match.proofs.review.lists_under.Goals as goal

pub loop-member-preserved : goal.loop-member-preserved
loop-member-preserved c = grind (arith, common_steps)

pub from_vec-requires : goal.from_vec-requires
from_vec-requires c =
    let l = c.loop-member in
    let members = c.args.members.now in
    let over = ap (λ ms. l.lists.items ++ lists_under (members_of ms)) (drop_all l.member-index members c.loop-member-test.false) in
    let all : l.lists.items ≡ lists_under (members_of members) = sym (append-nil l.lists.items) ∙ sym over ∙ l.invariant in
    subst (λ es. IsInKeyOrder es) (sym all) (lists_in_order members c.requires)
