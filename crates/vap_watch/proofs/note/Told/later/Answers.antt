use Rattle.std.proofs.Common.{◌<◌, ◌≤◌, ap, subst, arith, length, List}
use Rattle.std.proofs.lemmas.Bool.Decides.{nat_tests}
use mathlib.Core.List.{IsPrefix}
use Rattle.vap_watch.specs.declared.entry.Entry.{Entry}
use Rattle.vap_watch.proofs.Chains.{told_first}
use Rattle.vap_watch.proofs.note.Told.later.Goals as goal

-- the other begins with this
pub returns-then-self-other-clause-this : goal.returns-then-self-other-clause-this
returns-then-self-other-clause-this g c =
    let both = c.learn.new.self.log in
    let mine = c.self.inside in
    let other = c.other.inside in
    let one : IsPrefix mine.seen.log both =
    subst (λ (l : List (Entry g.row.X.Denot)). IsPrefix l both) (ap (λ s. s.log) c.again-both.ensures) c.learn.ensures.2 in
    let le : mine.at ≤ other.at = grind (arith, nat_tests, c.if-self-other.true) in
    let here : other.at < length other.seen.log = omega (arith, c.other.invariant.inside) in
    let chain = c.learn.ensures.4.1.chain in
    rw (← c.self.view_is, ← c.other.view_is)
    (told_first mine.seen.log other.seen.log both mine.at other.at one c.learn.ensures.3 chain c.self.invariant here le)

-- this begins with the other
pub returns-else-self-other-clause-that : goal.returns-else-self-other-clause-that
returns-else-self-other-clause-that g c =
    let both = c.learn.new.self.log in
    let mine = c.self.inside in
    let other = c.other.inside in
    let one : IsPrefix mine.seen.log both =
    subst (λ (l : List (Entry g.row.X.Denot)). IsPrefix l both) (ap (λ s. s.log) c.again-both.ensures) c.learn.ensures.2 in
    let le : other.at ≤ mine.at = grind (arith, nat_tests, c.if-self-other.false) in
    let here : mine.at < length mine.seen.log = omega (arith, c.self.invariant.inside) in
    let chain = c.learn.ensures.4.1.chain in
    rw (← c.self.view_is, ← c.other.view_is)
    (told_first other.seen.log mine.seen.log both other.at mine.at c.learn.ensures.3 one chain c.other.invariant here le)
