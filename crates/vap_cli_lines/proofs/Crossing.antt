-- Lines may be read and judged by other threads.
use denote.RattleType.{RattleType}
use denote.Ref.{NamedLft}
use denote.Param.Send.{IsSend, IsSync, sendable, recorded_sync, shr_sync, struct_sync}
use denote.Struct.Declared.{shape}
use Rattle.std.proofs.Crossing.{crosses}
use Rattle.cel_value.proofs.Crossing.{type_sync}
use Rattle.cel_operators.proofs.Crossing.{matchers_send}
use Rattle.vap_read.proofs.Crossing.{event_send}
use Rattle.vap_read.specs.contracts.event_reader.EventReader as event_reader
use Rattle.vap_policy_verdict.proofs.Crossing.{verdict_send}
use Rattle.vap_watch.proofs.Crossing.{log_send, log_sync, snapshot_sync}
use Rattle.vap_audit.proofs.Crossing.{request_send}
use Rattle.vap_cli_lines.specs.contracts.answer.ReviewAnswer as review_answer
use Rattle.vap_cli_lines.specs.contracts.judging.ReadLine as read_line
use Rattle.vap_cli_lines.specs.contracts.judging.Workspace as workspace
use Rattle.vap_cli_lines.specs.contracts.line_queue.Early as early
use Rattle.vap_cli_lines.specs.contracts.queued_line.QueuedLine as queued
use Rattle.vap_cli_lines.specs.contracts.workspaces.Workspaces as workspaces

pub answer_send : IsSend review_answer.the_field.row
answer_send = search (verdict_send, sendable, crosses) depth 60 fits 200000

pub read_line_send : IsSend read_line.the_field.row
read_line_send = search (event_send, request_send, answer_send, sendable, crosses) depth 60 fits 200000

pub queued_send : IsSend queued.the_field.row
queued_send = search (read_line_send, log_send, log_sync, sendable, crosses) depth 60 fits 200000

pub workspace_send : IsSend workspace.the_field.row
workspace_send = search (matchers_send, sendable, crosses) depth 60 fits 200000

pub workspaces_sync : IsSync workspaces.the_field.row
workspaces_sync = search (workspace_send, sendable, crosses) depth 60 fits 200000

pub workspaces_row_sync : IsSync workspaces.the_row
workspaces_row_sync = recorded_sync workspaces.the_field.row _ _ workspaces.the_type.to_one workspaces_sync

event_reader_sync : IsSync event_reader.the_field.row
event_reader_sync = search (type_sync, sendable, crosses) depth 60 fits 200000

module _ (a : NamedLft) (H : RattleType) where
  early_sync : IsSync H → IsSync (early.the_field a H).row
  early_sync one =
      struct_sync (shape (early.the_type a H)) (
        search (one, shr_sync),
        (
          search (event_reader_sync, sendable, shr_sync, crosses),
          (
            search (snapshot_sync, sendable, shr_sync, crosses),
            (search (workspaces_row_sync, shr_sync), (search sendable depth 20, tt)),
          ),
        ),
      )

  pub early_row_sync : IsSync H → IsSync (early.the_row a H)
  early_row_sync one = recorded_sync (early.the_field a H).row _ _ (early.the_type a H).to_one (early_sync one)
