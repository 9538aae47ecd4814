use denote.Param.{param}
use denote.Param.Send.{IsSync, sendable}
use denote.Ref.{NamedLft}
use Rattle.std.proofs.Crossing.{crosses}
use Rattle.vap_cli_lines.specs.contracts.line_queue.Early as early
use Rattle.vap_cli_lines.proofs.Crossing.{early_row_sync, queued_send}
use Rattle.vap_cli_lines.proofs.line_queue.+read_each.Goals as goal

-- the names of what the search need not look at are hidden
pub read_both-join_mut-requires-send-F : goal.read_both-join_mut-requires-send-F
read_both-join_mut-requires-send-F g t c κs within =
    let rt : IsSync (param 0 g.row.H) = c.requires.shared in
    let read : (a : NamedLft) → IsSync (early.the_row a (param 0 g.row.H)) = λ a. early_row_sync a (param 0 g.row.H) rt in
    let c : Unit {0} = tt in
    let within : Unit {0} = tt in
    search (read, queued_send, sendable, crosses) depth 60 fits 200000
