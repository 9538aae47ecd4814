use Rattle.std.proofs.Common.{◌≡◌, length}
use Rattle.vap_watch.proofs.pool.ones.Given as goal

abbrev pub invariant-loop : goal.invariant-loop
invariant-loop l = length l.words.items ≡ l.counter
