-- Sets may go to another thread, type by type: each search ends at what was shown before it.
use denote.Param.Send.{IsSend, IsSync, sendable}
use Rattle.base_containers.proofs.Crossing.{crosses}
use Rattle.std.proofs.MapsCrossing.{crosses as map_crosses}
use Rattle.cel_operators.proofs.Crossing.{patterns_send, patterns_sync}
use Rattle.cel_value.proofs.Crossing.{type_send, type_sync, value_send, value_sync}
use Rattle.vap_read.proofs.BindingCrossing.{binding_send, binding_sync}
use Rattle.vap_read_objects.proofs.KindCrossing.{kind_send, kind_sync, read_send, read_sync}
use Rattle.vap_read_objects.proofs.ParamCrossing.{params_send, params_sync}
use Rattle.vap_read.proofs.PolicyCrossing.{policy_send, policy_sync, spec_send, spec_sync}
use Rattle.vap_policy_programs.proofs.Crossing.{pair_send, pair_sync, params_type_send, params_type_sync}
use Rattle.vap_read.proofs.Crossing.{key_send, key_sync, map_send, map_sync, object_send, object_sync}
use Rattle.vap_policy_programs.proofs.TypeCrossing.{fixed_send, fixed_sync}
use Rattle.vap_policy_set.specs.contracts.choice.Choice as choice
use Rattle.vap_policy_set.specs.contracts.read_policy.ReadPolicy as read_policy
use Rattle.vap_policy_set.specs.contracts.made.Inputs as inputs
use Rattle.vap_policy_set.specs.contracts.made.MadePair as made
use Rattle.vap_policy_set.specs.contracts.bound.KindPair as kind_pair
use Rattle.vap_policy_set.specs.contracts.bound.BoundPolicy as bound
use Rattle.vap_policy_set.specs.contracts.index.Entry as entry
use Rattle.vap_policy_set.specs.contracts.index.Index as index
use Rattle.vap_policy_set.specs.contracts.definitions.Definitions as definitions
use Rattle.vap_policy_set.specs.contracts.rules.Rules as set_rules
use Rattle.vap_policy_set.specs.contracts.set.PolicySet as policy_set

pub choice_send : IsSend choice.the_field.row
choice_send = search (sendable, crosses) depth 60 fits 200000

pub choice_sync : IsSync choice.the_field.row
choice_sync = search (sendable, crosses) depth 60 fits 200000

pub inputs_send : IsSend inputs.the_field.row
inputs_send =
    search (type_send, type_sync, params_type_send, params_type_sync, spec_send, spec_sync, sendable, crosses) depth 60 fits 200000

pub inputs_sync : IsSync inputs.the_field.row
inputs_sync =
    search (type_send, type_sync, params_type_send, params_type_sync, spec_send, spec_sync, sendable, crosses) depth 60 fits 200000

pub made_send : IsSend made.the_field.row
made_send = search (inputs_send, inputs_sync, pair_send, pair_sync, sendable, crosses) depth 60 fits 200000

pub made_sync : IsSync made.the_field.row
made_sync = search (inputs_send, inputs_sync, pair_send, pair_sync, sendable, crosses) depth 60 fits 200000

pub kind_pair_send : IsSend kind_pair.the_field.row
kind_pair_send = search (made_send, made_sync, sendable, crosses) depth 60 fits 200000

pub kind_pair_sync : IsSync kind_pair.the_field.row
kind_pair_sync = search (made_send, made_sync, sendable, crosses) depth 60 fits 200000

pub read_policy_send : IsSend read_policy.the_field.row
read_policy_send = search (policy_send, policy_sync, sendable, crosses) depth 60 fits 200000

pub read_policy_sync : IsSync read_policy.the_field.row
read_policy_sync = search (policy_send, policy_sync, sendable, crosses) depth 60 fits 200000

pub bound_send : IsSend bound.the_field.row
bound_send =
    search (
      policy_send,
      read_policy_send,
      read_policy_sync,
      binding_send,
      kind_pair_send,
      made_send,
      made_sync,
      sendable,
      crosses,
    ) depth 60 fits 200000

pub bound_sync : IsSync bound.the_field.row
bound_sync =
    search (
      policy_sync,
      read_policy_send,
      read_policy_sync,
      binding_sync,
      kind_pair_sync,
      made_send,
      made_sync,
      sendable,
      crosses,
    ) depth 60 fits 200000

pub entry_send : IsSend entry.the_field.row
entry_send = search (bound_send, bound_sync, sendable, crosses) depth 60 fits 200000

pub entry_sync : IsSync entry.the_field.row
entry_sync = search (bound_send, bound_sync, sendable, crosses) depth 60 fits 200000

pub index_send : IsSend index.the_field.row
index_send = search (bound_send, bound_sync, entry_send, entry_sync, sendable, crosses) depth 60 fits 200000

pub index_sync : IsSync index.the_field.row
index_sync = search (bound_send, bound_sync, entry_send, entry_sync, sendable, crosses) depth 60 fits 200000

pub definitions_send : IsSend definitions.the_field.row
definitions_send = search (kind_send, read_send, read_sync, map_send, sendable, crosses) depth 60 fits 200000

pub definitions_sync : IsSync definitions.the_field.row
definitions_sync = search (kind_sync, read_send, read_sync, map_sync, sendable, crosses) depth 60 fits 200000

pub rules_send : IsSend set_rules.the_field.row
rules_send =
    search (
      choice_send,
      choice_sync,
      definitions_send,
      definitions_sync,
      patterns_send,
      patterns_sync,
      fixed_send,
      fixed_sync,
      index_send,
      sendable,
      crosses,
    ) depth 60 fits 200000

pub rules_sync : IsSync set_rules.the_field.row
rules_sync =
    search (
      choice_send,
      choice_sync,
      definitions_send,
      definitions_sync,
      patterns_send,
      patterns_sync,
      fixed_send,
      fixed_sync,
      index_sync,
      sendable,
      crosses,
    ) depth 60 fits 200000

pub set_send : IsSend policy_set.the_field.row
set_send = search (rules_send, rules_sync, params_send, params_sync, map_send, map_sync, sendable, crosses) depth 60 fits 200000

pub set_sync : IsSync policy_set.the_field.row
set_sync = search (rules_send, rules_sync, params_send, params_sync, map_send, map_sync, sendable, crosses) depth 60 fits 200000
