-- Policies at kinds may go to another thread, type by type: each search ends at what was shown before it.
use denote.Param.Send.{IsSend, IsSync, sendable}
use Rattle.base_containers.proofs.Crossing.{crosses}
use Rattle.cel_value.proofs.Crossing.{type_send, type_sync}
use Rattle.cel_expression.proofs.Crossing.{compiled_send, compiled_sync}
use Rattle.vap_policy_programs.specs.contracts.names.ParamsType as params_type
use Rattle.vap_policy_programs.specs.contracts.programs.Programs as programs
use Rattle.vap_policy_programs.specs.contracts.programs.Pair as pair

pub programs_send : IsSend programs.the_field.row
programs_send = search (compiled_send, compiled_sync, sendable, crosses) depth 60 fits 200000

pub programs_sync : IsSync programs.the_field.row
programs_sync = search (compiled_send, compiled_sync, sendable, crosses) depth 60 fits 200000

pub pair_send : IsSend pair.the_field.row
pair_send = search (programs_send, programs_sync, sendable, crosses) depth 60 fits 200000

pub pair_sync : IsSync pair.the_field.row
pair_sync = search (programs_send, programs_sync, sendable, crosses) depth 60 fits 200000

pub params_type_send : IsSend params_type.the_field.row
params_type_send = search (type_send, type_sync, sendable, crosses) depth 60 fits 200000

pub params_type_sync : IsSync params_type.the_field.row
params_type_sync = search (type_send, type_sync, sendable, crosses) depth 60 fits 200000
