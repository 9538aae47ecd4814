use Rattle.std.proofs.Common.{◌≡◌, take}
use Rattle.vap_audit.specs.Entries.{numbers_from}
use Rattle.vap_audit.proofs.history.History.entries_of.Given as goal

abbrev pub invariant-loop-number : goal.invariant-loop-number
invariant-loop-number l = l.numbers.items ≡ numbers_from 0 l.worker (take l.number l.self)
