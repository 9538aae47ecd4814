-- What tables of places are made of may go to another thread, or be looked at by several, if what they hold may.
use denote.RattleType.{RattleType}
use denote.Param.Send.{IsSend, IsSync, part_keyless, sendable}
use denote.Struct.Struct.{Struct}
use denote.Struct.Owning.{shape}
use Rattle.std.proofs.Crossing.{crosses, frees}
use Rattle.std_alloc.proofs.SendSync.{seen}
use Rattle.std_heap.specs.contracts.Global as heap
use Rattle.std_heap.specs.contracts.GlobalAllocator.TheImpl.{ghosts}
use Rattle.atomic_table.proofs.Rights.{right_send}
use Rattle.atomic_table.proofs.Sent.{owns_keyless, seat_keyless, shares_keyless}
use Rattle.atomic_table.specs.contracts.send_lease.SendLease as lease
use Rattle.atomic_table.specs.contracts.shared.Seat as seat
use Rattle.atomic_table.specs.contracts.shared.Shared as shared
use Rattle.atomic_table.specs.declared.shared.TableRule as rule
use Rattle.left_right.specs.contracts.part.Part as part

-- a part of a value
pub part_send : (T : RattleType) → IsSync T → IsSend (part.the_row T)
part_send T y = search (y, seen, sendable, crosses) depth 60 fits 200000

-- a seat, which steps at a table
pub seat_send : (S V : RattleType) → IsSend S → IsSend (seat.the_row S V)
seat_send S V s = search (s, seat_keyless, sendable, crosses) depth 60 fits 200000

-- the memory of a table
pub lease_send : (T : RattleType) → IsSend (lease.the_row T heap.the_row ghosts)
lease_send T = right_send T heap.the_row ghosts frees

pub lease_sync : (T : RattleType) → IsSync (lease.the_row T heap.the_row ghosts)
lease_sync T = record { shared = λ d b o κ q. part_keyless (lease.the_row T heap.the_row ghosts) (lease_send T) q d b o }

-- the table itself
module _ (S V K P : RattleType) (g : rule.Ghosts P.Denot S.Denot V.Denot K.Denot) where
  pub shared_send : IsSend S → IsSend (shared.the_row S V K P g)
  shared_send s = search (s, owns_keyless, sendable, crosses) depth 60 fits 200000

  pub shared_sync : IsSend S → IsSync (shared.the_row S V K P g)
  shared_sync s =
      let fields : IsSync (Struct (shape (shared.the_type S V K P g))) = search sendable depth 20 in
      record {
        shared = λ d b o κ. (
          fields.shared (d.words, (d.slots, (tt, tt))) b o κ,
          shares_keyless S s V.coded.code d.table_id (g.holds d.key) d.words d.slots κ,
        );
      }
