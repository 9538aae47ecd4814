-- What workers are given may go to another thread, and what they share may be looked at by several.
use denote.RattleType.{RattleType}
use denote.Ref.{NamedLft}
use denote.Param.Send.{IsSend, IsSync, sendable, recorded_sync, shr_sync, struct_sync}
use denote.Struct.Declared.{shape}
use Rattle.std.proofs.Crossing.{crosses}
use Rattle.core.proofs.ledger.Sent.{book_send, share_send}
use Rattle.std.specs.declared.sync.ledger.Ledger as ledger
use Rattle.vap_policy.proofs.Crossing.{workspace_send}
use Rattle.vap_policy_verdict.proofs.Crossing.{verdict_send}
use Rattle.vap_watch.proofs.BoardCrossing.{told_sync}
use Rattle.vap_watch.proofs.Crossing.{reader_send}
use Rattle.vap_audit.proofs.Crossing.{request_send, request_sync, history_send}
use Rattle.vap_plane.specs.declared.closing.Plan as plan
use Rattle.vap_plane.specs.declared.jobs.Batch as batch
use Rattle.vap_plane.specs.contracts.closing.SharedHistory as shared_history
use Rattle.vap_plane.specs.contracts.jobs.Job as job
use Rattle.vap_plane.specs.contracts.kept.Kept as kept
use Rattle.vap_plane.specs.contracts.messages.Answers as answers
use Rattle.vap_plane.specs.contracts.messages.Failure as failure
use Rattle.vap_plane.specs.contracts.messages.Reply as reply
use Rattle.vap_plane.specs.contracts.post.Post as post
use Rattle.vap_plane.specs.contracts.running.Service as service
use Rattle.vap_plane.specs.contracts.worker.Worker as worker

module _ (L : RattleType) (g : ledger.Ghosts L.Denot) where
  pub worker_send : IsSend (worker.the_field L g).row
  worker_send = search (share_send, reader_send, workspace_send, sendable, crosses) depth 60 fits 200000

  pub kept_send : IsSend (kept.the_field L g).row
  kept_send = search (book_send, history_send, sendable, crosses) depth 60 fits 200000

module _ (L : RattleType) (p : plan.Ghosts L.Denot) (g : ledger.Ghosts L.Denot) where
  pub shared_sync : IsSync (shared_history.the_field L p g).row
  shared_sync = search (kept_send, sendable, crosses) depth 60 fits 200000

failure_send : IsSend failure.the_field.row
failure_send = search (sendable, crosses) depth 60 fits 200000

module _ (B : RattleType) (g : batch.Ghosts B.Denot) where
  pub job_send : IsSend (job.the_field B g).row
  job_send = search (request_send, sendable, crosses) depth 60 fits 200000

  pub answers_send : IsSend (answers.the_field B g).row
  answers_send = search (verdict_send, sendable, crosses) depth 60 fits 200000

module _ (B : RattleType) (g : batch.Ghosts B.Denot) where
  pub reply_send : IsSend (reply.the_field B g).row
  reply_send = search (answers_send, failure_send, sendable, crosses) depth 60 fits 200000

module _ (B : RattleType) (g : batch.Ghosts B.Denot) where
  pub post_sync : IsSync (post.the_field B g).row
  post_sync = search (job_send, reply_send, sendable, crosses) depth 60 fits 200000

module _ (L : RattleType) (p : plan.Ghosts L.Denot) (g : ledger.Ghosts L.Denot) where
  shared_row_sync : IsSync (shared_history.the_row L p g)
  shared_row_sync = recorded_sync (shared_history.the_field L p g).row _ _ (shared_history.the_type L p g).to_one (shared_sync L p g)

module _ (B : RattleType) (g : batch.Ghosts B.Denot) where
  post_row_sync : IsSync (post.the_row B g)
  post_row_sync = recorded_sync (post.the_field B g).row _ _ (post.the_type B g).to_one (post_sync B g)

module _ (r t p s g : NamedLft) (L B R G : RattleType) (a : plan.Ghosts L.Denot) (b : batch.Ghosts B.Denot)
    (l : ledger.Ghosts L.Denot) where
  pub service_sync : IsSync R → IsSync G → IsSync (service.the_field r t p s g L B R G a b l).row
  service_sync one other =
      let posted = post_row_sync B b in
      let history = shared_row_sync L a l in
      struct_sync (shape (service.the_type r t p s g L B R G a b l)) (
        search (one, shr_sync),
        (
          search sendable depth 20,
          (
            search (told_sync, sendable, shr_sync, crosses),
            (search (posted, shr_sync), (search (history, shr_sync), (search (other, shr_sync), tt))),
          ),
        ),
      )

  pub service_row_sync : IsSync R → IsSync G → IsSync (service.the_row r t p s g L B R G a b l)
  service_row_sync one other =
      recorded_sync (service.the_field r t p s g L B R G a b l).row _ _ (service.the_type r t p s g L B R G a b l).to_one
      (service_sync one other)
