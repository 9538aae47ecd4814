use Rattle.std.proofs.Common.{◌≡◌, ℕ, ◌++◌, ◌∷◌, [], sym, ◌∙◌, ap, subst, arith, length, false, List}
use Rattle.vap_watch.specs.declared.entry.Entry.{Entry}
use Rattle.vap_watch.specs.Begins.{StartsWith}
use Rattle.vap_watch.specs.Entries.{nth, entry, head_of, IsTold, Under}
use Rattle.vap_watch.proofs.Chains.{drafted, under_longer, longer_by}
use Rattle.vap_watch.proofs.board.Board.draft.Goals as goal

-- the list begins with each told one, as the published one does
pub attempt-requires-clause-under : goal.attempt-requires-clause-under
attempt-requires-clause-under g c =
    let s = c.self.inside in
    let begins : StartsWith (g.L.Listed.list c.args.value.now) (nth s.seen.log s.at).list =
    subst (λ p. StartsWith (g.L.Listed.list c.args.value.now) p.list) (sym c.self.view_is) c.requires in
    subst (λ (l : List (Entry g.row.X.Denot)). Under l (g.L.Listed.list c.args.value.now)) (ap (λ x. x.log) (sym c.again-seen.ensures))
    (under_longer s.seen.log (nth s.seen.log s.at).list (g.L.Listed.list c.args.value.now) c.self.invariant.4 begins)

pub invariant_of-result : goal.invariant_of-result
invariant_of-result g c =
    let s = c.self.inside in
    let list = g.L.Listed.list c.args.value.now in
    let seen = ap (λ x. x.log) c.again-seen.ensures in
    let put = c.in-Some.ensures.put in
    let all : c.attempt.new.seen.log ≡ s.seen.log ++ entry list false ∷ [] =
    put.1 ∙ ap (λ (l : List (Entry g.row.X.Denot)). l ++ entry list false ∷ []) seen in
    let begins : StartsWith list (nth s.seen.log s.at).list = subst (λ p. StartsWith list p.list) (sym c.self.view_is) c.requires in
    let longer = s.seen.log ++ entry list false ∷ [] in
    let book = put.0 ∙ ap (λ x. x.book) c.again-seen.ensures in
    let kept = drafted s.seen.log list s.at c.self.invariant.3 c.self.invariant.4 begins in (
      c.self.invariant.0 ∙ ap head_of (sym book),
      omega (arith, c.self.invariant.1, ap length all, longer_by s.seen.log (entry list false)),
      omega (arith, c.if-self-ge-MOST.false),
      c.in-Some.ensures.pen.0 ∙ ap (λ x. x.book) c.again-seen.ensures ∙ sym book,
      c.in-Some.ensures.pen.1,
      c.in-Some.ensures.pen.2,
      subst (λ (l : List (Entry g.row.X.Denot)). IsTold l s.at) (sym all) kept.0,
      subst (λ (l : List (Entry g.row.X.Denot)). Under l (nth l s.at).list) (sym all) kept.1,
      subst (λ (l : List (Entry g.row.X.Denot)). StartsWith (nth l s.count).list (nth l s.at).list) (sym all)
          (subst (λ (k : ℕ). StartsWith (nth longer k).list (nth longer s.at).list) (sym c.self.invariant.1) kept.2),
    )
