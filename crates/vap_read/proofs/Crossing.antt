-- Events may go to another thread, type by type: each search ends at what was shown before it.
use denote.Param.Send.{IsSend, IsSync, sendable}
use Rattle.base_containers.proofs.Crossing.{crosses}
use Rattle.std.proofs.MapsCrossing.{crosses as map_crosses}
use Rattle.serde_json.proofs.value.Value.TheLaws.TheKnot.{crosses as json_crosses}
use Rattle.vap_read.proofs.BindingCrossing.{binding_send, binding_sync}
use Rattle.vap_read.proofs.PolicyCrossing.{policy_send, policy_sync}
use Rattle.vap_read.specs.contracts.key.Key as key
use Rattle.vap_read.specs.contracts.document.Document as document
use Rattle.vap_read.specs.contracts.object.Content as content
use Rattle.vap_read.specs.contracts.object.Object as object
use Rattle.vap_read.specs.contracts.object_map.ObjectMap as object_map
use Rattle.vap_read.specs.contracts.event.Event as event

pub key_send : IsSend key.the_field.row
key_send = search (sendable, crosses) depth 60 fits 200000

pub key_sync : IsSync key.the_field.row
key_sync = search (sendable, crosses) depth 60 fits 200000

pub document_send : IsSend document.the_field.row
document_send = search (json_crosses, map_crosses, sendable, crosses) depth 60 fits 200000

pub document_sync : IsSync document.the_field.row
document_sync = search (json_crosses, map_crosses, sendable, crosses) depth 60 fits 200000

pub content_send : IsSend content.the_field.row
content_send = search (policy_send, policy_sync, binding_send, binding_sync, sendable, crosses) depth 60 fits 200000

pub content_sync : IsSync content.the_field.row
content_sync = search (policy_send, policy_sync, binding_send, binding_sync, sendable, crosses) depth 60 fits 200000

pub object_send : IsSend object.the_field.row
object_send = search (key_send, key_sync, content_send, content_sync, document_send, document_sync, sendable, crosses) depth 60 fits 200000

pub object_sync : IsSync object.the_field.row
object_sync = search (key_send, key_sync, content_send, content_sync, document_send, document_sync, sendable, crosses) depth 60 fits 200000

pub map_send : IsSend object_map.the_field.row
map_send = search (key_send, key_sync, object_send, object_sync, map_crosses, sendable, crosses) depth 60 fits 200000

pub map_sync : IsSync object_map.the_field.row
map_sync = search (key_send, key_sync, object_send, object_sync, map_crosses, sendable, crosses) depth 60 fits 200000

pub event_send : IsSend event.the_field.row
event_send = search (key_send, key_sync, object_send, object_sync, map_send, map_sync, sendable, crosses) depth 60 fits 200000

pub event_sync : IsSync event.the_field.row
event_sync = search (key_send, key_sync, object_send, object_sync, map_send, map_sync, sendable, crosses) depth 60 fits 200000
