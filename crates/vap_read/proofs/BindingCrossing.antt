-- Bindings may go to another thread.
use denote.Param.Send.{IsSend, IsSync, sendable}
use Rattle.base_containers.proofs.Crossing.{crosses}
use Rattle.vap_read.specs.contracts.binding.Binding as binding

pub binding_send : IsSend binding.the_field.row
binding_send = search (sendable, crosses) depth 60 fits 200000

pub binding_sync : IsSync binding.the_field.row
binding_sync = search (sendable, crosses) depth 60 fits 200000
