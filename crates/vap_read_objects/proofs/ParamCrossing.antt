-- Params may go to another thread.
use denote.Param.Send.{IsSend, IsSync, sendable}
use Rattle.base_containers.proofs.Crossing.{crosses}
use Rattle.cel_value.proofs.Crossing.{type_send, type_sync, value_send, value_sync}
use Rattle.vap_read.proofs.Crossing.{key_send, key_sync, object_send, object_sync}
use Rattle.vap_read_objects.specs.contracts.kind_params.KindParams as kind_params

pub params_send : IsSend kind_params.the_field.row
params_send =
    search (type_send, value_send, value_sync, key_send, key_sync, object_send, object_sync, sendable, crosses) depth 60 fits 200000

pub params_sync : IsSync kind_params.the_field.row
params_sync =
    search (type_sync, value_send, value_sync, key_send, key_sync, object_send, object_sync, sendable, crosses) depth 60 fits 200000
