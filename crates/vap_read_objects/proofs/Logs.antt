-- What logs leave.
use Rattle.std.proofs.Common.{◌≡◌, ◌+◌, List, [], ◌∷◌, ◌++◌, length, refl, arith}
use Rattle.vap_read.specs.declared.event.Event.{Event}
use Rattle.vap_read_objects.specs.After.{after, after_all, cluster_of, nothing}
use Rattle.vap_read_objects.specs.Cluster.{Cluster}

-- each event counts once
counted : (log : List Event) (c : Cluster) → (after_all log c).events ≡ c.events + length log
counted [] c = omega arith
counted (e ∷ log) c = omega (arith, counted log (after e c))

-- the count of events is the length of the log
pub as_many : (log : List Event) → (cluster_of log).events ≡ length log
as_many log = omega (arith, counted log nothing)

-- one more event is one step more
after_last : (log : List Event) (e : Event) (c : Cluster) → after_all (log ++ e ∷ []) c ≡ after e (after_all log c)
after_last [] e c = refl
after_last (f ∷ log) e c = after_last log e (after f c)

pub one_more : (log : List Event) (e : Event) → cluster_of (log ++ e ∷ []) ≡ after e (cluster_of log)
one_more log e = after_last log e nothing
