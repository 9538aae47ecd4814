-- What judging keeps may go to another thread.
use denote.Param.Send.{IsSend, sendable}
use Rattle.std.proofs.Crossing.{crosses}
use Rattle.cel_operators.proofs.Crossing.{matchers_send}
use Rattle.vap_policy.specs.contracts.workspace.Workspace as workspace

pub workspace_send : IsSend workspace.the_field.row
workspace_send = search (matchers_send, sendable, crosses) depth 60 fits 200000
