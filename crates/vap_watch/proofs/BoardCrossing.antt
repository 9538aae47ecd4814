-- Notes may go to another thread, whatever lists are of: they have no bytes but a number.
use denote.RattleType.{RattleType}
use denote.Param.Send.{IsSend, IsSync, sendable}
use Rattle.std.proofs.Crossing.{crosses}
use Rattle.logbook.proofs.Fields.{seen_keyless}
use Rattle.vap_watch.specs.contracts.note.Note as note
use Rattle.vap_watch.specs.contracts.note.Told as told

module _ (X : RattleType) where
  pub note_send : IsSend (note.the_field X).row
  note_send = search (seen_keyless, sendable, crosses) depth 60 fits 200000

  pub note_sync : IsSync (note.the_field X).row
  note_sync = search (seen_keyless, sendable, crosses) depth 60 fits 200000

  pub told_send : IsSend (told.the_field X).row
  told_send = search (seen_keyless, sendable, crosses) depth 60 fits 200000

  pub told_sync : IsSync (told.the_field X).row
  told_sync = search (seen_keyless, sendable, crosses) depth 60 fits 200000
