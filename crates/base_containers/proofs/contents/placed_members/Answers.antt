use Rattle.std.proofs.Common.{◌≡◌, ◌≤◌, ℕ, zero, suc, List, [], ◌∷◌, length, true, Some, option_map, Bor, sym, ap, ◌∙◌, subst, refl}
use Rattle.std.proofs.Common.{arith}
use Rattle.std.specs.List.{AllByRecursion, AllWithin, insert}
use Rattle.std.specs.List.Sorted.{IsStrictlySortedBy}
use Rattle.std.specs.Ordering.{nat_cmp, ordering_reverse}
use Rattle.std.specs.Cmp.Lexicographic.{slice_cmp}
use Rattle.std.specs.declared.cmp.Ordering.TheVariants.{Less, Greater}
use Rattle.std.proofs.lemmas.Cmp.{nat_list_cmp_total}
use Rattle.json.specs.Find.{NextMember}
use Rattle.serde_json.specs.Data.{Data, member, put}
use Rattle.base_containers.specs.Parts.{data_of}
use Rattle.base_containers.specs.Gathered.{Member, members_of, names_of, is_above, AreInOrder}
use Rattle.base_containers.proofs.Gathers.{MembersHere, MembersLeft, members_here, members_turn, members_end}
use Rattle.base_containers.proofs.InOrder.{all_below, put_last, in_order_push, none_in_order}
use Rattle.base_containers.proofs.Order.{Below, all_below as all_above}
use Rattle.base_containers.proofs.contents.placed_members.Goals as goal

-- a member that goes where the names before are below its own, and those from there on above
abbrev Goes : List ℕ → List Member → ℕ → Type 0
Goes name found place =
    (place ≤ length found) × AllWithin (λ m. slice_cmp nat_cmp m.0.now name ≡ Less) found 0 place
    × AllWithin (λ m. slice_cmp nat_cmp m.0.now name ≡ Greater) found place (length found)

reversed : (a b : List ℕ) → slice_cmp nat_cmp a b ≡ Greater → Below b a
reversed a b h = nat_list_cmp_total.antisymm b a ∙ ap ordering_reverse h

behind : (name : List ℕ) (m : Member) (found : List Member) (place : ℕ) → Goes name (m ∷ found) (suc place) → Goes name found place
behind name m found place g = (
  omega (arith, g.0),
  λ i x low lt. g.1 (suc i) x (omega arith) (omega (arith, lt)),
  λ i x low lt. g.2 (suc i) x (omega (arith, low)) (omega (arith, lt)),
)

inserted : (name : List ℕ) (k : Bor (List ℕ)) (d : Data) (found : List Member) (place : ℕ) → k.now ≡ name → Goes name found place
    → put name d (members_of found) ≡ members_of (insert found place (k, d))
inserted name k d [] zero is g = ap (λ n. member n d (members_of [])) (sym is)
inserted name k d [] (suc place) is g = absurd (omega (arith, g.0))
inserted name k d (m ∷ found) zero is g =
    let below : slice_cmp nat_cmp name m.0.now ≡ Less = reversed m.0.now name (g.2 0 m (omega arith) (omega arith)) in
    rw below (ap (λ n. member n d (member m.0.now m.1 (members_of found))) (sym is))
inserted name k d (m ∷ found) (suc place) is g =
    let above : slice_cmp nat_cmp name m.0.now ≡ Greater =
    nat_list_cmp_total.antisymm name m.0.now ∙ ap ordering_reverse (g.1 0 m (omega arith) (omega arith)) in
    rw above (ap (member m.0.now m.1) (inserted name k d found place is (behind name m found place g)))

all_with : (P : List ℕ → Type 0) (x : Member) (place : ℕ) (found : List Member) → P x.0.now → AllByRecursion P (names_of found)
    → AllByRecursion P (names_of (insert found place x))
all_with P x zero found p h = (p, h)
all_with P x (suc place) [] p h = (p, tt)
all_with P x (suc place) (m ∷ found) p h = (h.0, all_with P x place found p h.1)

inserted_in_order : (x : Member) (found : List Member) (place : ℕ) → AreInOrder found → Goes x.0.now found place
    → AreInOrder (insert found place x)
unfolding IsStrictlySortedBy
inserted_in_order x [] zero s g = (tt, tt)
inserted_in_order x [] (suc place) s g = absurd (omega (arith, g.0))
inserted_in_order x (m ∷ found) zero s g =
    let below = reversed m.0.now x.0.now (g.2 0 m (omega arith) (omega arith)) in
    ((below, all_above x.0.now m.0.now (names_of found) below s.0), s)
inserted_in_order x (m ∷ found) (suc place) s g = (
  all_with (Below m.0.now) x place found (g.1 0 m (omega arith) (omega arith)) s.0,
  inserted_in_order x found place s.1 (behind x.0.now m found place g),
)

pub loop-name-init : goal.loop-name-init
loop-name-init c =
    let tokens = c.args.element.now in
    let none = sym c.in_ok-found.ensures.items in
    let h = subst (λ r. MembersHere r (data_of tokens)) c.in-Some.is (members_here tokens c.requires c.members.result c.members.ensures) in
    record {
      left = (h.1, subst (λ ms. MembersLeft c.in-Some.members (members_of ms) h.1) none (h.0, h.2, h.3), h.4);
      ordered = subst AreInOrder none none_in_order;
    }

pub new-requires : goal.new-requires
new-requires c =
    let l = c.loop-name in
    let n = c.in-Some-next in
    let next = subst (λ r. NextMember l.members (option_map (λ m. (m.0.now, m.1)) r) c.next.new.self) n.is c.next.ensures.value in
    (members_turn l.members n.member c.next.new.self n.name.now (members_of l.found.items) l.invariant.left.0 l.invariant.left.1 next).0

pub loop-name-preserved-in-Continue-branch-2 : goal.loop-name-preserved-in-Continue-branch-2
loop-name-preserved-in-Continue-branch-2 c =
    let l = c.loop-name in
    let n = c.in-Some-next in
    let name = n.name.now in
    let found = l.found.items in
    let next = subst (λ r. NextMember l.members (option_map (λ m. (m.0.now, m.1)) r) c.next.new.self) n.is c.next.ensures.value in
    let turn = members_turn l.members n.member c.next.new.self name (members_of found) l.invariant.left.0 l.invariant.left.1 next in
    let is : is_above name found ≡ true =
    ap (is_above name) (sym c.as_slice.ensures.value) ∙ sym c.is_above.ensures ∙ c.if-is_above.true in
    let below = all_below name found l.invariant.ordered is in
    let pushed = c.in_ok-push.ensures.items in
    let put_there = ap members_of pushed ∙ sym (put_last name n.name c.new.result found refl below)
    ∙ ap (λ d. put name d (members_of found)) c.new.ensures in record {
      left = (
        l.invariant.left.0,
        subst (λ ms. MembersLeft c.next.new.self ms l.invariant.left.0) (sym put_there) turn.1,
        l.invariant.left.2,
      );
      ordered = subst AreInOrder (sym pushed) (in_order_push found (n.name, c.new.result) l.invariant.ordered below);
    }

pub loop-name-preserved : goal.loop-name-preserved
loop-name-preserved c =
    let l = c.loop-name in
    let n = c.in-Some-next in
    let name = n.name.now in
    let found = l.found.items in
    let place = c.in-Some-free_place.place in
    let next = subst (λ r. NextMember l.members (option_map (λ m. (m.0.now, m.1)) r) c.next.new.self) n.is c.next.ensures.value in
    let turn = members_turn l.members n.member c.next.new.self name (members_of found) l.invariant.left.0 l.invariant.left.1 next in
    let goes : Goes name found place =
    subst (λ ms. Goes name ms place) c.as_slice-else-is_above.ensures.value
    (c.in-Some-free_place.ensures.within, c.in-Some-free_place.ensures.above, c.in-Some-free_place.ensures.below) in
    let put_in = c.in_ok-insert.ensures.items in
    let put_there = ap members_of put_in ∙ sym (inserted name n.name c.new.result found place refl goes)
    ∙ ap (λ d. put name d (members_of found)) c.new.ensures in record {
      left = (
        l.invariant.left.0,
        subst (λ ms. MembersLeft c.next.new.self ms l.invariant.left.0) (sym put_there) turn.1,
        l.invariant.left.2,
      );
      ordered = subst AreInOrder (sym put_in) (inserted_in_order (n.name, c.new.result) found place l.invariant.ordered goes);
    }

pub returns-clause-exact : goal.returns-clause-exact
returns-clause-exact c =
    let l = c.loop-name in
    let next =
    subst (λ r. NextMember l.members (option_map (λ m. (m.0.now, m.1)) r) c.next.new.self) c.in_default-next.is c.next.ensures.value in
    ap (λ ms. Some ms) (members_end l.members c.next.new.self (members_of l.found.items) l.invariant.left.0 l.invariant.left.1 next)
    ∙ l.invariant.left.2
