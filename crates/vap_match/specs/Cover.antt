-- Which requests rules cover (Kubernetes, "Validating Admission Policy": "Matching requests: matchConstraints").
use Rattle.std.specs.Prelude.{ℕ, nat_eq, Bool, true, ◌&&◌, ◌||◌, not, if◌then◌else◌, codes, List, [], ◌∷◌}
use Rattle.std.specs.List.{list_any}
use Rattle.std.specs.Str.{bytes_eq}
use Rattle.vap_match.specs.declared.request.Admission.{Admission}
use Rattle.vap_match.specs.Namespaces.{is_cluster}
use Rattle.vap_match.specs.declared.rules.Operation.{Operation}
use Rattle.vap_match.specs.declared.rules.Operation.TheVariants as operation
use Rattle.vap_match.specs.declared.rules.Scope.{Scope}
use Rattle.vap_match.specs.declared.rules.Scope.TheVariants as scope
use Rattle.vap_match.specs.declared.rules.Rule.{Rule}
use Rattle.vap_match.specs.declared.rules.Rules.{Rules}

-- the word of an operation
abbrev pub operation_name : Operation → List ℕ
operation_name operation.Create = codes "CREATE"
operation_name operation.Update = codes "UPDATE"
operation_name operation.Delete = codes "DELETE"
operation_name operation.Connect = codes "CONNECT"
operation_name operation.Any = codes "*"

-- whether a word is this one, or the one for all
abbrev pub is_word_or_any : List ℕ → List ℕ → Bool
is_word_or_any wanted word = bytes_eq word wanted || bytes_eq word (codes "*")

-- the resource of a pattern: what is before its first slash
abbrev pub before_slash : List ℕ → List ℕ
before_slash [] = []
before_slash (b ∷ bs) = if nat_eq b 47 then [] else b ∷ before_slash bs

-- the subresource of a pattern: what is after its first slash, or none
abbrev pub behind_slash : List ℕ → List ℕ
behind_slash [] = []
behind_slash (b ∷ bs) = if nat_eq b 47 then bs else behind_slash bs

-- a pattern covers a resource and its subresource by its two parts: `pods` is `pods` alone, `pods/log` that subresource, `pods/*`
-- is `pods` and all its subresources, `*` every resource and no subresource, `*/scale` that of every resource, `*/*` everything
abbrev pub covers_resource : List ℕ → List ℕ → List ℕ → Bool
covers_resource resource sub pattern = is_word_or_any resource (before_slash pattern) && is_word_or_any sub (behind_slash pattern)

-- whether a scope has requests on what is in no namespace, or the others
abbrev pub is_within : Scope → Bool → Bool
is_within scope.Any cluster = true
is_within scope.Cluster cluster = cluster
is_within scope.Namespaced cluster = not cluster

-- whether a name is one of these; with none, all are
abbrev pub is_named : List (List ℕ) → List ℕ → Bool
is_named [] name = true
is_named (n ∷ ns) name = list_any (bytes_eq name) (n ∷ ns)

-- a rule covers a request if it has each part of the request
abbrev pub rule_covers : Admission → Rule → Bool
rule_covers r rule =
    list_any (λ o. is_word_or_any r.operation (operation_name o)) rule.operations
    && list_any (is_word_or_any r.resource.group) rule.api_groups
    && list_any (is_word_or_any r.resource.version) rule.api_versions
    && list_any (covers_resource r.resource.resource r.sub_resource) rule.resources
    && is_within rule.scope (is_cluster r)
    && is_named rule.resource_names r.name

-- whether one of these rules covers a request; without any, all are covered
abbrev pub is_covered : List Rule → Admission → Bool
is_covered [] r = true
is_covered (rule ∷ rules) r = list_any (rule_covers r) (rule ∷ rules)

-- one of the rules covers the request, or there are none, and none of those that exclude covers it
abbrev pub covers : Rules → Admission → Bool
covers rules r = is_covered rules.resource_rules r && not (list_any (rule_covers r) rules.exclude_resource_rules)
