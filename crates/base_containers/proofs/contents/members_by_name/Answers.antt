use Rattle.std.proofs.Common.{Some, option_map, sym, ap, ◌∙◌, subst, refl}
use Rattle.json.specs.Find.{NextMember}
use Rattle.serde_json.specs.Data.{put}
use Rattle.base_containers.specs.Parts.{data_of}
use Rattle.base_containers.specs.Gathered.{members_of}
use Rattle.base_containers.proofs.Gathers.{MembersHere, MembersLeft, members_here, members_turn, members_end, members_put}
use Rattle.base_containers.proofs.contents.members_by_name.Goals as goal

pub returns-in_default-clause-exact : goal.returns-in_default-clause-exact
returns-in_default-clause-exact c =
    let tokens = c.args.element.now in
    subst (λ r. MembersHere r (data_of tokens)) c.in_default.is (members_here tokens c.requires c.members.result c.members.ensures)

pub loop-name-init : goal.loop-name-init
loop-name-init c =
    let tokens = c.args.element.now in
    let h = subst (λ r. MembersHere r (data_of tokens)) c.in-Some.is (members_here tokens c.requires c.members.result c.members.ensures) in
    (h.1, subst (λ es. MembersLeft c.in-Some.members (members_of es) h.1) (sym c.new-found.ensures.empty) (h.0, h.2, h.3), h.4)

pub new-requires : goal.new-requires
new-requires c =
    let l = c.loop-name in
    let n = c.in-Some-next in
    let next = subst (λ r. NextMember l.members (option_map (λ m. (m.0.now, m.1)) r) c.next.new.self) n.is c.next.ensures.value in
    (members_turn l.members n.member c.next.new.self n.name.now (members_of l.found.entries) l.invariant.0 l.invariant.1 next).0

pub loop-name-preserved : goal.loop-name-preserved
loop-name-preserved c =
    let l = c.loop-name in
    let n = c.in-Some-next in
    let next = subst (λ r. NextMember l.members (option_map (λ m. (m.0.now, m.1)) r) c.next.new.self) n.is c.next.ensures.value in
    let turn = members_turn l.members n.member c.next.new.self n.name.now (members_of l.found.entries) l.invariant.0 l.invariant.1 next in
    let put_there = ap members_of c.in_ok-insert.ensures.entries ∙ members_put _ (λ a b. refl) l.found.entries n.name c.new.result
    ∙ ap (λ d. put n.name.now d (members_of l.found.entries)) c.new.ensures in
    (l.invariant.0, subst (λ ms. MembersLeft c.next.new.self ms l.invariant.0) (sym put_there) turn.1, l.invariant.2)

pub returns-clause-exact : goal.returns-clause-exact
returns-clause-exact c =
    let l = c.loop-name in
    let next =
    subst (λ r. NextMember l.members (option_map (λ m. (m.0.now, m.1)) r) c.next.new.self) c.in_default-next.is c.next.ensures.value in
    ap (λ es. Some (members_of es)) c.in_ok-in_order.ensures.exact
    ∙ ap (λ ms. Some ms) (members_end l.members c.next.new.self (members_of l.found.entries) l.invariant.0 l.invariant.1 next)
    ∙ l.invariant.2
