-- At which kinds a policy is looked at, and of which types its names are there.
use Rattle.std.specs.Prelude.{Bool, true, ◌&&◌, List, [], ◌∷◌}
use Rattle.std.specs.Prelude.{Option, Some, None, unwrap_or, option_and_then}
use Rattle.std.specs.List.{list_any}
use Rattle.cel_value.specs.declared.cel_type.CelType as type
use Rattle.cel_value.specs.declared.cel_type.CelType.{CelType}
use Rattle.vap_read_objects.specs.FixedKinds.{namespace_type}
use Rattle.vap_read_objects.specs.declared.kind.Kind.{Kind}
use Rattle.vap_match.specs.Cover.{before_slash, is_word_or_any}
use Rattle.vap_match.specs.declared.rules.Rule.{Rule}
use Rattle.vap_read_objects.specs.Naming.{kind_of_params}
use Rattle.vap_read.specs.declared.policy.ParamKind.{ParamKind}
use Rattle.vap_policy_programs.specs.declared.names.KindTypes.{KindTypes}
use Rattle.vap_policy_programs.specs.declared.names.ParamsType.{ParamsType}
use Rattle.vap_policy_programs.specs.declared.names.ParamsType.TheVariants.{Absent, Unknown, Known}
use Rattle.vap_policy_programs.specs.RequestType.{request_type}

-- what is known by its type
abbrev pub params_by : Option CelType → ParamsType
params_by None = Unknown
params_by (Some t) = Known t

-- what the params of a policy are; a kind whose schema is refused counts as one that is not known
abbrev pub params_type : List Kind → Option ParamKind → ParamsType
params_type kinds None = Absent
params_type kinds (Some p) = params_by (option_and_then (λ k. k.object_type) (kind_of_params kinds p))

-- the types of the other names, if the objects are of this type
abbrev pub types_at : CelType → KindTypes
types_at t = record { object = t; request = request_type; namespace = namespace_type }

-- the type of objects of a kind that is not known, or that is refused
abbrev pub type_or_opaque : Option CelType → CelType
type_or_opaque t = unwrap_or t type.Opaque

-- a rule names a kind's group, version and resource, with or without a subresource
abbrev pub rule_names : Kind → Rule → Bool
rule_names k rule =
    list_any (is_word_or_any k.group) rule.api_groups
    && list_any (is_word_or_any k.version) rule.api_versions
    && list_any (λ pattern. is_word_or_any k.plural (before_slash pattern)) rule.resources

-- one of these rules names it; without any rules all kinds are named, as all requests are covered
abbrev pub is_named_by : List Rule → Kind → Bool
is_named_by [] k = true
is_named_by (rule ∷ rules) k = list_any (rule_names k) (rule ∷ rules)
