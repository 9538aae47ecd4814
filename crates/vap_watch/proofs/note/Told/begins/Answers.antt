use Rattle.std.proofs.Common.{◌≤◌, ap, subst, arith, List}
use Rattle.std.proofs.lemmas.Bool.Decides.{nat_tests}
use mathlib.Core.List.{IsPrefix}
use Rattle.vap_watch.specs.declared.entry.Entry.{Entry}
use Rattle.vap_watch.proofs.Chains.{told_first}
use Rattle.vap_watch.proofs.note.Told.begins.Goals as goal

-- both are beginnings of what the board has
pub returns : goal.returns
returns g c = λ e.
    let both = c.learn.new.self.log in
    let mine = c.self.inside in
    let other = c.note.inside in
    let one : IsPrefix mine.seen.log both =
    subst (λ (l : List (Entry g.row.X.Denot)). IsPrefix l both) (ap (λ s. s.log) c.again-both.ensures) c.learn.ensures.2 in
    let le : mine.at ≤ other.at = grind (arith, nat_tests) in
    let chain = c.learn.ensures.4.1.chain in
    rw (← c.self.view_is, ← c.note.view_is)
    (told_first mine.seen.log other.seen.log both mine.at other.at one c.learn.ensures.3 chain c.self.invariant c.note.invariant le)
