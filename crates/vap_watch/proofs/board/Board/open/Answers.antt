use Rattle.std.proofs.Common.{◌≡◌, sym, ◌∙◌, ap, subst, refl, length, true, false, List, [], ◌∷◌}
use Rattle.vap_watch.specs.declared.entry.Entry.{Entry}
use Rattle.vap_watch.specs.Entries.{entry, nth, IsTold, Under}
use Rattle.vap_watch.proofs.Chains.{under_first, told_at_first}
use Rattle.vap_watch.proofs.board.Board.open.Goals as goal

pub invariant_of-result : goal.invariant_of-result
invariant_of-result g c =
    let first : c.open-seen.result.0.log ≡ entry [] false ∷ entry [] true ∷ [] = c.open-seen.ensures.1 in (
      c.tracked.ensures.0 ∙ rw (c.open-seen.ensures.4, c.open-seen.ensures.2) refl,
      sym (ap length first),
      (2, refl),
      subst (λ (l : List (Entry g.row.X.Denot)). IsTold l 0) (sym first) told_at_first,
      subst (λ (l : List (Entry g.row.X.Denot)). Under l (nth l 0).list) (sym first) under_first,
    )
