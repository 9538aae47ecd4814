use Rattle.std.proofs.Common.{◌≡◌, ◌+◌, ◌≤◌, length}
use Rattle.std.specs.Prelude.{sum_by}
use Rattle.vap_plane.proofs.closing.merged.Given as goal

abbrev pub invariant-loop-worker : goal.invariant-loop-worker
invariant-loop-worker g l =
    (l.all.parts ≡ 1 + length l.yielded) × (l.all.amount ≡ l.initial.all.amount + sum_by (λ w. w.count) l.yielded)
    × (l.all.parts ≤ g.L.Ledger.parts)
