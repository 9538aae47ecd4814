use Rattle.std.proofs.Common.{◌≡◌, length, IsSome}
use Rattle.std.specs.List.{All}
use Rattle.vap_watch.specs.Seen.{shown_in}
use Rattle.vap_watch.proofs.publisher.Publisher.entrances.Given as goal

-- the publisher is as it was, and all places are its board's
abbrev pub invariant-loop : goal.invariant-loop
invariant-loop l = (l.self ≡ l.initial.self) × (length l.entrances.items ≡ l.counter)
    × All (λ o. IsSome o × ((shown_in o).board ≡ l.initial.self.board)) l.entrances.items
