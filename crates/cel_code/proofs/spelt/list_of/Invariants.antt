use Rattle.std.proofs.Common.{◌≡◌, ◌-◌, None}
use Rattle.cel_code.specs.Reading.{items_at}
use Rattle.cel_code.proofs.Loops.{still}
use Rattle.cel_code.proofs.spelt.list_of.Given as goal

abbrev pub invariant-loop : goal.invariant-loop
invariant-loop g l = still g.T.Spelt.reader l.items.items (l.count - l.counter) l.rest
    ≡ items_at g.T.Spelt.reader None l.count l.initial.rest
