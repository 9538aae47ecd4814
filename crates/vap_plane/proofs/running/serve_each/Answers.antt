use Rattle.std.proofs.Common.{◌≡◌, ◌∙◌, sym, ap}
use denote.Param.{param}
use denote.Param.Send.{IsSync, sendable}
use denote.Ref.{NamedLft}
use Rattle.vap_plane.specs.contracts.running.Service as service
use Rattle.std.proofs.Crossing.{crosses}
use Rattle.vap_plane.proofs.Crossing.{worker_send, service_row_sync}
use Rattle.vap_plane.proofs.running.serve_each.Goals as goal

pub for_each_mut-requires-send-T : goal.for_each_mut-requires-send-T
for_each_mut-requires-send-T g c κs within = search (worker_send, sendable, crosses) depth 60 fits 200000

-- the names of what the search need not look at are hidden
pub for_each_mut-requires-sync-F : goal.for_each_mut-requires-sync-F
for_each_mut-requires-sync-F g c κs within =
    let rt : IsSync (param 2 g.row.R) = c.type_bounds.sync-R in
    let gate : IsSync (param 3 g.row.G) = c.type_bounds.sync-G in
    let served : (r t p s e : NamedLft) → IsSync
    (service.the_row r t p s e (param 0 g.row.L) (param 1 g.row.B) (param 2 g.row.R) (param 3 g.row.G) g.L.Plan g.B.Batch g.L.Ledger) =
    λ r t p s e.
    service_row_sync r t p s e (param 0 g.row.L) (param 1 g.row.B) (param 2 g.row.R) (param 3 g.row.G) g.L.Plan g.B.Batch g.L.Ledger rt
    gate in
    let c : Unit {0} = tt in
    let within : Unit {0} = tt in
    search (served, sendable) depth 12 fits 20000

-- what a worker's call left at its place is of the board that it was of
pub returns-clause-same : goal.returns-clause-same
returns-clause-same g c = λ k w lt.
    let change = (c.for_each_mut.ensures k w lt).1 in
    ap (λ x. x.reader.board) (sym change.left) ∙ (change.call ∙ ap (λ x. x.reader.board) change.argument_is)
