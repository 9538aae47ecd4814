-- A policy that matches a request names the kind of the request.
use Rattle.std.proofs.Common.{◌≡◌, ℕ, Bool, true, false, cond, ◌&&◌, ◌||◌, not, List, [], ◌∷◌, Option, Some, None, refl, ap, ◌∙◌}
use Rattle.std.specs.List.{list_any}
use Rattle.std.specs.Str.{bytes_eq}
use Rattle.std.proofs.lemmas.Bool.{and_parts, and_from}
use Rattle.std.proofs.lemmas.List.Elements.{All-weaker}
use Rattle.std.specs.Prelude.{is_some}
use Rattle.vap_read_objects.specs.Kinds.{kind_named}
use Rattle.vap_read_objects.specs.declared.kind.Kind.{Kind}
use Rattle.vap_match.specs.Choose.{matches, selects_namespace, selects_object}
use Rattle.vap_match.specs.Cover.{before_slash, behind_slash, covers_resource, is_covered, is_named, is_within, is_word_or_any}
use Rattle.vap_match.specs.Cover.{operation_name, rule_covers}
use Rattle.vap_match.specs.Namespaces.{is_cluster}
use Rattle.vap_match.specs.declared.rules.Rule.{Rule}
use Rattle.vap_match.specs.declared.rules.Rules.{Rules}
use Rattle.vap_read_objects.specs.OfKind.{labels_in}
use Rattle.vap_read.specs.declared.policy.PolicySpec.{PolicySpec}
use Rattle.vap_match.specs.declared.request.Admission.{Admission}
use Rattle.vap_match.specs.declared.request.Resource.{Resource}
use Rattle.vap_match.specs.Select.{Labels}
use Rattle.vap_read_objects.proofs.Names.{same_text}
use Rattle.vap_policy_set.proofs.Named.{set_whole}
use Rattle.vap_policy_set.specs.Kinds.{is_named_by, rule_names}
use Rattle.vap_policy_set.specs.Sets.{Holdings, IsOfObjects, is_looked_at, kinds_of, namespace_in, policies_of}
use Rattle.vap_policy_set.specs.Whole.{IsWholeAt, Names}
use Rattle.vap_policy.proofs.Named.{kind_first}
use Rattle.vap_policy.specs.PassedOver.{IsNotPassedOver, NoneIsPassedOver}
use Rattle.vap_policy.specs.Places.{if_its_own, is_resource_of, kind_at}

any_weaker : {X : Type 0} (p q : X → Bool) (xs : List X) → ((x : X) → p x ≡ true → q x ≡ true) → list_any p xs ≡ true
    → list_any q xs ≡ true
any_weaker p q [] weaker h = absurd cc
any_weaker p q (x ∷ xs) weaker h = at (p x) (q x) (weaker x) (any_weaker p q xs weaker) h
  where
    at : (b c : Bool) → (b ≡ true → c ≡ true) → (list_any p xs ≡ true → list_any q xs ≡ true) → (b || list_any p xs) ≡ true
        → (c || list_any q xs) ≡ true
    at true true weaker rest h = refl
    at true false weaker rest h = absurd (let e = weaker refl in cc)
    at false true weaker rest h = refl
    at false false weaker rest h = rest h

-- a pattern that covers a resource and its subresource has the resource
resource_named : (resource sub pattern : List ℕ) → covers_resource resource sub pattern ≡ true
    → is_word_or_any resource (before_slash pattern) ≡ true
resource_named resource sub pattern h =
    (and_parts (is_word_or_any resource (before_slash pattern)) (is_word_or_any sub (behind_slash pattern)) h).0

-- what a rule must have to cover a request, the parts that name a kind among them
record Covered (r : Admission) (rule : Rule) : Type 0 where
  groups : list_any (is_word_or_any r.resource.group) rule.api_groups ≡ true
  versions : list_any (is_word_or_any r.resource.version) rule.api_versions ≡ true
  resources : list_any (covers_resource r.resource.resource r.sub_resource) rule.resources ≡ true

covered : (r : Admission) (rule : Rule) → rule_covers r rule ≡ true → Covered r rule
covered r rule h =
    let operations : Bool = list_any (λ o. is_word_or_any r.operation (operation_name o)) rule.operations in
    let groups : Bool = list_any (is_word_or_any r.resource.group) rule.api_groups in
    let versions : Bool = list_any (is_word_or_any r.resource.version) rule.api_versions in
    let resources : Bool = list_any (covers_resource r.resource.resource r.sub_resource) rule.resources in
    let within : Bool = is_within rule.scope (is_cluster r) in
    let five = and_parts (operations && groups && versions && resources && within) (is_named rule.resource_names r.name) h in
    let four = and_parts (operations && groups && versions && resources) within five.0 in
    let three = and_parts (operations && groups && versions) resources four.0 in
    let two = and_parts (operations && groups) versions three.0 in
    record { groups = (and_parts operations groups two.0).1; versions = two.1; resources = three.1 }

-- a kind whose resource is that of a request
record Own (k : Kind) (r : Resource) : Type 0 where
  typed : is_some k.object_type ≡ true
  group : k.group ≡ r.group
  version : k.version ≡ r.version
  plural : k.plural ≡ r.resource

own : (k : Kind) (r : Resource) → is_resource_of k r ≡ true → Own k r
own k r h =
    let group : Bool = bytes_eq k.group r.group in
    let version : Bool = bytes_eq k.version r.version in
    let three = and_parts (is_some k.object_type && group && version) (bytes_eq k.plural r.resource) h in
    let two = and_parts (is_some k.object_type && group) version three.0 in
    let one = and_parts (is_some k.object_type) group two.0 in
    record {
      typed = one.0;
      group = same_text k.group r.group one.1;
      version = same_text k.version r.version two.1;
      plural = same_text k.plural r.resource three.1;
    }

-- a rule that covers a request names the kind of its resource
covering_names : (r : Admission) (k : Kind) (rule : Rule) → Own k r.resource → rule_covers r rule ≡ true → rule_names k rule ≡ true
covering_names r k rule its h =
    let c = covered r rule h in
    let plural : list_any (λ pattern. is_word_or_any r.resource.resource (before_slash pattern)) rule.resources ≡ true =
    any_weaker (covers_resource r.resource.resource r.sub_resource)
    (λ pattern. is_word_or_any r.resource.resource (before_slash pattern)) rule.resources
    (λ pattern. resource_named r.resource.resource r.sub_resource pattern) c.resources in
    and_from (list_any (is_word_or_any k.group) rule.api_groups && list_any (is_word_or_any k.version) rule.api_versions)
    (list_any (λ pattern. is_word_or_any k.plural (before_slash pattern)) rule.resources)
    (
    and_from (list_any (is_word_or_any k.group) rule.api_groups) (list_any (is_word_or_any k.version) rule.api_versions)
    (ap (λ (x : List ℕ). list_any (is_word_or_any x) rule.api_groups) its.group ∙ c.groups)
    (ap (λ (x : List ℕ). list_any (is_word_or_any x) rule.api_versions) its.version ∙ c.versions)
    )
    (ap (λ (x : List ℕ). list_any (λ pattern. is_word_or_any x (before_slash pattern)) rule.resources) its.plural ∙ plural)

named_by : (rules : List Rule) (r : Admission) (k : Kind) → Own k r.resource → is_covered rules r ≡ true → is_named_by rules k ≡ true
named_by [] r k its h = refl
named_by (rule ∷ rules) r k its h =
    any_weaker (rule_covers r) (rule_names k) (rule ∷ rules) (λ x. covering_names r k x its) h

-- rules that match a request name the kind of its resource, which is known
matching_names : (p : PolicySpec) (r : Admission) (held : Labels) (k : Kind) → matches p.match_constraints r held ≡ true
    → is_resource_of k r.resource ≡ true → is_looked_at p k ≡ true
matching_names p r held k h is =
    let its = own k r.resource is in
    let rules : Rules = p.match_constraints in
    let excluded : Bool = not (list_any (rule_covers r) rules.exclude_resource_rules) in
    let two = and_parts (is_covered rules.resource_rules r && excluded && selects_namespace rules r held) (selects_object rules r) h in
    let one = and_parts (is_covered rules.resource_rules r && excluded) (selects_namespace rules r held) two.0 in
    and_from (is_some k.object_type) (is_named_by rules.resource_rules k) its.typed
    (named_by rules.resource_rules r k its (and_parts (is_covered rules.resource_rules r) excluded one.0).0)

matching_own : (p : PolicySpec) (r : Admission) (held : Labels) (k : Option Kind) → matches p.match_constraints r held ≡ true
    → Names p (if_its_own r.resource k)
matching_own p r held None h = tt
matching_own p r held (Some k) h = at (is_resource_of k r.resource) refl
  where
    at : (b : Bool) → is_resource_of k r.resource ≡ b → Names p (cond b (Some k) None)
    at true is = matching_names p r held k h is
    at false is = tt

-- so none is passed over
pub none_passed_over : (h : Holdings) → IsOfObjects h → (r : Admission) → NoneIsPassedOver h r
none_passed_over h source r =
    All-weaker (IsWholeAt h (kind_at (kinds_of h) r)) (IsNotPassedOver h r)
    (λ p whole matched.
    whole
    (matching_own p.policy.spec r (labels_in (namespace_in r.namespace h))
    (kind_named r.kind.group r.kind.version r.kind.kind (kinds_of h)) matched))
    (policies_of h) (set_whole h source (kind_at (kinds_of h) r) (kind_first (kinds_of h) r))
