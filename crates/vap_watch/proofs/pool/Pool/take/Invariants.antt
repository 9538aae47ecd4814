use Rattle.std.proofs.Common.{◌≡◌, []}
use Rattle.std.specs.Arc.{arc_value}
use Rattle.vap_watch.proofs.pool.Pool.take.Given as goal

abbrev pub invariant-loop-index : goal.invariant-loop-index
invariant-loop-index l = (l.seat.table_id ≡ (arc_value l.table).shared.table_id) × (l.seat.me ≡ ((arc_value l.table).shared.key, []))
