-- What a policy of a set is at a kind may be run there.
use Rattle.std.proofs.Common.{◌≡◌, ℕ, Bool, true, false, cond, ◌&&◌, List, [], ◌∷◌, Option, Some, None, refl, sym}
use Rattle.std.proofs.Common.{ap, ◌∙◌, subst}
use Rattle.std.proofs.Common.{map, filter, option_map}
use Rattle.std.specs.List.{AllByRecursion, find}
use Rattle.std.specs.Str.{bytes_eq}
use Rattle.std.proofs.lemmas.List.Elements.{All-from_recursion}
use Rattle.base_containers.specs.declared.text.Keyed.{Keyed}
use Rattle.vap_read.specs.declared.binding.Binding.{Binding}
use Rattle.vap_read_objects.specs.declared.kind.Kind.{Kind}
use Rattle.vap_read_objects.specs.Cluster.{Cluster}
use Rattle.vap_read_objects.specs.Listed.{bindings_in, definitions_in, policies_in}
use Rattle.vap_read.specs.declared.policy.Policy.{Policy}
use Rattle.vap_read.specs.declared.policy.PolicySpec.{PolicySpec}
use Rattle.vap_policy_programs.specs.Ready.{PairsAreReady, PairsAreWithin}
use Rattle.vap_policy_set.specs.Kinds.{params_type, type_or_opaque, types_at}
use Rattle.vap_policy_set.specs.Made.{pair_made}
use Rattle.vap_policy_set.specs.Parts.{part_of}
use Rattle.vap_policy_set.specs.Sets.{Holdings, IsOfObjects, bound_of, holdings_of, is_looked_at, is_pair_of, kind_pair, kinds_of, pairs_of}
use Rattle.vap_policy_set.specs.Sets.{policies_by}
use Rattle.vap_policy_set.specs.Ready.{IsFirst, IsOneOf, IsReadyBy, IsReadyAt, HasItsParams, AreReady}
use Rattle.vap_policy_set.specs.declared.bound.KindPair.{KindPair}
use Rattle.vap_policy_set.specs.declared.choice.Choice.{Choice}
use Rattle.vap_policy_set.proofs.Firsts.{kinds_first, one_kind}
use Rattle.vap_read_objects.proofs.Names.{same_text}
use Rattle.vap_policy_set.proofs.ParamTable.{each_held}

-- a pair is the one of a policy at one of these kinds
pub record IsOfKind (refused : List (List ℕ)) (kinds : List Kind) (p : PolicySpec) (e : KindPair) : Type 0 where
  pub kind : Kind
  pub first : IsFirst kinds kind
  pub is : e ≡ kind_pair refused kinds p kind

-- each pair is of one of these kinds
pub all_of_kinds : (refused : List (List ℕ)) (kinds : List Kind) (p : PolicySpec) (ks : List Kind) → AllByRecursion (IsFirst kinds) ks
    → AllByRecursion (IsOfKind refused kinds p) (map (kind_pair refused kinds p) (filter (is_looked_at p) ks))
all_of_kinds refused kinds p [] firsts = tt
all_of_kinds refused kinds p (k ∷ ks) firsts = at (is_looked_at p k) (all_of_kinds refused kinds p ks firsts.1)
  where
    at : (b : Bool) → AllByRecursion (IsOfKind refused kinds p) (map (kind_pair refused kinds p) (filter (is_looked_at p) ks))
        → AllByRecursion (IsOfKind refused kinds p)
        (map (kind_pair refused kinds p) (cond b (k ∷ filter (is_looked_at p) ks) (filter (is_looked_at p) ks)))
    at true rest = (record { kind = k; first = firsts.0; is = refl }, rest)
    at false rest = rest

-- three tests that hold together
pub all_three : (a b c : Bool) → (a && b && c) ≡ true → (a ≡ true) × (b ≡ true) × (c ≡ true)
all_three true true true h = (refl, refl, refl)
all_three true true false h = absurd cc
all_three true false c h = absurd cc
all_three false b c h = absurd cc

-- the pair under the name of a kind is what the policy is there
own_pair : (refused : List (List ℕ)) (kinds : List Kind) (p : PolicySpec) (k : Kind) (e : KindPair) → IsFirst kinds k
    → IsOfKind refused kinds p e → is_pair_of k e ≡ true → e ≡ kind_pair refused kinds p k
own_pair refused kinds p k e first of h =
    let same = all_three (bytes_eq k.group e.group) (bytes_eq k.version e.version) (bytes_eq k.kind e.kind) h in
    let group = same_text k.group e.group same.0 ∙ ap (λ (x : KindPair). x.group) of.is in
    let version = same_text k.version e.version same.1 ∙ ap (λ (x : KindPair). x.version) of.is in
    let name = same_text k.kind e.kind same.2 ∙ ap (λ (x : KindPair). x.kind) of.is in
    of.is ∙ ap (kind_pair refused kinds p) (sym (one_kind kinds k of.kind first of.first group version name))

found_ready : PairsAreReady → PairsAreWithin → (refused : List (List ℕ)) (kinds : List Kind) (p : PolicySpec) (k : Kind)
    (es : List KindPair) → IsFirst kinds k → AllByRecursion (IsOfKind refused kinds p) es
    → IsReadyBy (types_at (type_or_opaque k.object_type)) (params_type kinds p.param_kind)
    (option_map (λ e. pair_made e.made) (find (is_pair_of k) es))
found_ready ready within refused kinds p k [] first all = tt
found_ready ready within refused kinds p k (e ∷ es) first all =
    at (is_pair_of k e) refl (found_ready ready within refused kinds p k es first all.1)
  where
    Ready : Option KindPair → Type 0
    Ready found =
        IsReadyBy (types_at (type_or_opaque k.object_type)) (params_type kinds p.param_kind) (option_map (λ x. pair_made x.made) found)

    at : (b : Bool) → is_pair_of k e ≡ b → Ready (find (is_pair_of k) es) → Ready (cond b (Some e) (find (is_pair_of k) es))
    at true h rest = subst (λ (x : KindPair). Ready (Some x)) (sym (own_pair refused kinds p k e first all.0 h)) (
      ready refused (types_at (type_or_opaque k.object_type)) (params_type kinds p.param_kind) p,
      within refused (types_at (type_or_opaque k.object_type)) (params_type kinds p.param_kind) p,
    )
    at false h rest = rest

one_ready : PairsAreReady → PairsAreWithin → (h : Holdings) (bindings : List (Keyed Binding)) (p : Keyed Policy) (k : Option Kind)
    → HasItsParams h p.value.spec.param_kind → AllByRecursion (IsFirst (kinds_of h)) (kinds_of h) → IsOneOf (kinds_of h) k
    → IsReadyAt h k (bound_of h.choice (kinds_of h) bindings p)
one_ready ready within h bindings p None params firsts first = record {
  params = params;
  runs = let refused = part_of h.choice p.value.spec in (
    ready refused (types_at (type_or_opaque None)) (params_type (kinds_of h) p.value.spec.param_kind) p.value.spec,
    within refused (types_at (type_or_opaque None)) (params_type (kinds_of h) p.value.spec.param_kind) p.value.spec,
  );
}
one_ready ready within h bindings p (Some k) params firsts first = record {
  params = params;
  runs = let refused = part_of h.choice p.value.spec in
      found_ready ready within refused (kinds_of h) p.value.spec k (pairs_of refused (kinds_of h) p.value.spec) first
      (all_of_kinds refused (kinds_of h) p.value.spec (kinds_of h) firsts);
}

each_ready : PairsAreReady → PairsAreWithin → (h : Holdings) (bindings : List (Keyed Binding)) (ps : List (Keyed Policy))
    (k : Option Kind) → AllByRecursion (λ (p : Keyed Policy). HasItsParams h p.value.spec.param_kind) ps
    → AllByRecursion (IsFirst (kinds_of h)) (kinds_of h) → IsOneOf (kinds_of h) k
    → AllByRecursion (IsReadyAt h k) (map (bound_of h.choice (kinds_of h) bindings) ps)
each_ready ready within h bindings [] k params firsts first = tt
each_ready ready within h bindings (p ∷ ps) k params firsts first =
    (one_ready ready within h bindings p k params.0 firsts first, each_ready ready within h bindings ps k params.1 firsts first)

built_ready : PairsAreReady → PairsAreWithin → (c : Cluster) (choice : Choice) → AreReady (holdings_of c choice)
unfolding holdings_of
built_ready ready within c choice k first =
    All-from_recursion (IsReadyAt (holdings_of c choice) k) (policies_by choice c)
    (
    each_ready ready within (holdings_of c choice) (bindings_in c.objects) (policies_in c.objects) k (each_held c choice)
    (kinds_first (definitions_in c.objects)) first
    )

-- each policy of a set is ready at each kind
pub set_ready : PairsAreReady → PairsAreWithin → (h : Holdings) → IsOfObjects h → AreReady h
set_ready ready within h source = subst AreReady (sym source.is) (built_ready ready within source.objects h.choice)

-- ---- how many there are

-- policies are bound by what is the same
pub bound_same : {a choice : Choice} {k kinds : List Kind} {b bindings : List (Keyed Binding)} {p policies : List (Keyed Policy)}
    → a ≡ choice → k ≡ kinds → b ≡ bindings → p ≡ policies
    → map (bound_of a k b) p ≡ map (bound_of choice kinds bindings) policies
bound_same {a} {choice} {k} {kinds} {b} {bindings} {p} {policies} one two three four =
    ap (λ (x : Choice). map (bound_of x k b) p) one
    ∙ ap (λ (x : List Kind). map (bound_of choice x b) p) two
    ∙ ap (λ (x : List (Keyed Binding)). map (bound_of choice kinds x) p) three
    ∙ ap (λ (x : List (Keyed Policy)). map (bound_of choice kinds bindings) x) four
