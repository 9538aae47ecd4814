-- Kinds may go to another thread.
use denote.Param.Send.{IsSend, IsSync, sendable}
use Rattle.base_containers.proofs.Crossing.{crosses}
use Rattle.cel_value.proofs.Crossing.{type_send, type_sync}
use Rattle.vap_read_objects.specs.contracts.kind.Kind as kind
use Rattle.vap_read_objects.specs.contracts.read_definition.ReadDefinition as read_definition
use Rattle.vap_read.proofs.Crossing.{object_send, object_sync}

pub kind_send : IsSend kind.the_field.row
kind_send = search (type_send, type_sync, sendable, crosses) depth 60 fits 200000

pub kind_sync : IsSync kind.the_field.row
kind_sync = search (type_send, type_sync, sendable, crosses) depth 60 fits 200000

pub read_send : IsSend read_definition.the_field.row
read_send = search (object_send, object_sync, kind_send, sendable, crosses) depth 60 fits 200000

pub read_sync : IsSync read_definition.the_field.row
read_sync = search (object_send, object_sync, kind_sync, sendable, crosses) depth 60 fits 200000
