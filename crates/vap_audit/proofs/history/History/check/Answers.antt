use Rattle.std.proofs.Common.{◌≡◌, ℕ, List}
use Rattle.vap_watch.specs.Logs.{DiffersAt}
use Rattle.vap_audit.proofs.history.History.check.Goals as goal

differs_same : {X : Type 0} (a b p q : List X) (at : ℕ) → a ≡ b → p ≡ q → DiffersAt a p at → DiffersAt b q at
differs_same a b p q at e f h = rw (← e, ← f) h

pub returns-in-Some : goal.returns-in-Some
returns-in-Some c = record {
  entry = c.at-entry.result.now;
  there = c.at-entry.ensures;
  differs = differs_same c.log-log.result.now c.args.snapshot.now c.get.result.now c.at-entry.result.now.log c.in-Some.at
      c.log-log.ensures c.get.ensures c.in-Some.ensures.some;
  first = c.loop-number.invariant.1;
}
