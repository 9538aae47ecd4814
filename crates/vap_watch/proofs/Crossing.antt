-- Snapshots and readers may go to another thread, type by type: each search ends at what was shown before it.
use denote.Param.Send.{IsSend, IsSync, sendable}
use Rattle.std.proofs.Crossing.{crosses}
use Rattle.vap_watch.proofs.BoardCrossing.{note_send, note_sync, told_send}
use Rattle.vap_read.proofs.Crossing.{event_send, event_sync}
use Rattle.vap_policy_set.proofs.Crossing.{choice_send, choice_sync, set_send, set_sync}
use Rattle.vap_watch.specs.contracts.log.Logged as logged
use Rattle.vap_watch.specs.contracts.log.Log as log
use Rattle.vap_watch.specs.contracts.snapshot.Snapshot as snapshot
use Rattle.vap_watch.specs.contracts.posted.Posted as posted
use Rattle.vap_watch.specs.contracts.entrance.Entrance as entrance
use Rattle.vap_watch.specs.contracts.pool.Lent as lent
use Rattle.vap_watch.specs.contracts.reader.Reader as reader
use Rattle.vap_watch.proofs.Sent.{part_send, seat_send, lease_send, lease_sync, shared_send, shared_sync}

pub logged_send : IsSend logged.the_field.row
logged_send = search (event_send, event_sync, choice_send, choice_sync, sendable, crosses) depth 60 fits 200000

pub logged_sync : IsSync logged.the_field.row
logged_sync = search (event_send, event_sync, choice_send, choice_sync, sendable, crosses) depth 60 fits 200000

pub log_send : IsSend log.the_field.row
log_send = search (logged_send, logged_sync, sendable, crosses) depth 60 fits 200000

pub log_sync : IsSync log.the_field.row
log_sync = search (logged_send, logged_sync, sendable, crosses) depth 60 fits 200000

pub snapshot_send : IsSend snapshot.the_field.row
snapshot_send = search (log_send, log_sync, set_send, set_sync, sendable, crosses) depth 60 fits 200000

pub snapshot_sync : IsSync snapshot.the_field.row
snapshot_sync = search (log_send, log_sync, set_send, set_sync, sendable, crosses) depth 60 fits 200000

pub posted_send : IsSend posted.the_field.row
posted_send = search (snapshot_send, note_send, sendable, crosses) depth 60 fits 200000

pub posted_sync : IsSync posted.the_field.row
posted_sync = search (snapshot_sync, note_sync, sendable, crosses) depth 60 fits 200000

pub entrance_send : IsSend entrance.the_field.row
entrance_send =
    search (posted_sync, part_send, seat_send, shared_send, shared_sync, lease_send, lease_sync, sendable, crosses) depth 60 fits 200000

pub lent_send : IsSend lent.the_field.row
lent_send =
    search (entrance_send, seat_send, shared_send, shared_sync, lease_send, lease_sync, sendable, crosses) depth 60 fits 200000

pub reader_send : IsSend reader.the_field.row
reader_send = search (lent_send, posted_send, told_send, sendable, crosses) depth 60 fits 200000
