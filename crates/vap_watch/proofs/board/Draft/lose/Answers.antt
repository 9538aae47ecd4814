use Rattle.std.proofs.Common.{◌≡◌, ◌+◌, ◌<◌, ◌∷◌, [], true, sym, ◌∙◌, ap, subst, arith, length, List}
use Rattle.vap_watch.specs.declared.entry.Entry.{Entry}
use Rattle.vap_watch.specs.Entries.{entry, nth, head_of, IsTold, Under}
use Rattle.vap_watch.proofs.Chains.{under_now, told_still, longer_by}
use Rattle.vap_watch.proofs.board.Draft.lose.Goals as goal

-- the old list is told once more
pub invariant_of-result : goal.invariant_of-result
invariant_of-result g c =
    let s = c.self.inside in
    let list = g.L.Listed.list c.args.value.now in
    let all = c.conclude.ensures.1 in
    let is : list ≡ (nth s.seen.log s.at).list = c.requires ∙ sym (ap (λ d. d.old) c.self.view_is) in
    let here : s.at < length s.seen.log = omega (arith, c.self.invariant.6.inside) in
    let under = subst (λ l. Under s.seen.log l) (sym is) c.self.invariant.7 in
    let told = told_still s.seen.log (entry list true ∷ []) s.at c.self.invariant.6 in (
      c.self.invariant.0 ∙ ap head_of (sym c.conclude.ensures.0),
      omega (arith, c.self.invariant.1, longer_by s.seen.log (entry list true), ap length all),
      (s.pen.nib.key + 1, omega (arith, c.self.invariant.5)),
      subst (λ (l : List (Entry g.row.X.Denot)). IsTold l s.at) (sym all) told,
      subst (λ (l : List (Entry g.row.X.Denot)). Under l (nth l s.at).list) (sym all) (under_now s.seen.log list s.at here is under),
    )
