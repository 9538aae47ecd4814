use Rattle.std.proofs.Common.{◌≡◌, ◌+◌, ◌<◌, true, sym, ◌∙◌, ap, subst, arith, length, List}
use Rattle.vap_watch.specs.declared.entry.Entry.{Entry}
use Rattle.vap_watch.specs.Entries.{entry, nth, head_of, IsTold, Under}
use Rattle.vap_watch.proofs.Chains.{under_longer, under_now, told_now, longer_by}
use Rattle.vap_watch.proofs.board.Draft.keep.Goals as goal

-- the next list begins with each told one
pub conclude-requires-clause-under : goal.conclude-requires-clause-under
conclude-requires-clause-under g c =
    let s = c.self.inside in
    let old = (nth s.seen.log s.at).list in
    let next = (nth s.seen.log s.next).list in
    rw (c.requires, ← c.self.view_is) (under_longer s.seen.log old next c.self.invariant.7 c.self.invariant.8)

-- it is told now
pub invariant_of-result : goal.invariant_of-result
invariant_of-result g c =
    let s = c.self.inside in
    let list = g.L.Listed.list c.args.value.now in
    let all = c.conclude.ensures.1 in
    let old = (nth s.seen.log s.at).list in
    let next = (nth s.seen.log s.next).list in
    let is : list ≡ next = c.requires ∙ sym (ap (λ d. d.next) c.self.view_is) in
    let here : s.next < length s.seen.log = omega (arith, c.self.invariant.1) in
    let longer : Under s.seen.log next = under_longer s.seen.log old next c.self.invariant.7 c.self.invariant.8 in
    let under = subst (λ l. Under s.seen.log l) (sym is) longer in
    let told = told_now s.seen.log list s.next c.self.invariant.1 is in (
      c.self.invariant.0 ∙ ap head_of (sym c.conclude.ensures.0),
      omega (arith, c.self.invariant.1, longer_by s.seen.log (entry list true), ap length all),
      (s.pen.nib.key + 1, omega (arith, c.self.invariant.5)),
      subst (λ (l : List (Entry g.row.X.Denot)). IsTold l s.next) (sym all) told,
      subst (λ (l : List (Entry g.row.X.Denot)). Under l (nth l s.next).list) (sym all) (under_now s.seen.log list s.next here is under),
    )
