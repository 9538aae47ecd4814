-- Verdicts may go to another thread, and be looked at by several.
use denote.Param.Send.{IsSend, IsSync, sendable}
use Rattle.base_containers.proofs.Crossing.{crosses}
use Rattle.vap_policy_verdict.specs.contracts.verdict.Verdict as verdict

pub verdict_send : IsSend verdict.the_field.row
verdict_send = search (sendable, crosses) depth 60 fits 200000

pub verdict_sync : IsSync verdict.the_field.row
verdict_sync = search (sendable, crosses) depth 60 fits 200000
