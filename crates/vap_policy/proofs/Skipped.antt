-- Policies that do not match a request, or may not cover it, are skipped.
use Rattle.std.proofs.Common.{◌≡◌, ◌<◌, ◌+◌, ℕ, Bool, true, false, cond, ◌&&◌, List, [], ◌∷◌, length, drop, get_or, filter}
use Rattle.std.proofs.Common.{Option, ◌==◌, arith, eqb-true, refl, sym, ap, ◌∙◌, subst, flat_map}
use Rattle.std.specs.List.{AllByRecursion}
use Rattle.std.proofs.lemmas.Bool.{and_parts}
use Rattle.std.proofs.lemmas.List.Elements.{recursion_from_All}
use Rattle.vap_match.specs.Choose.{matches, selects_namespace, selects_object}
use Rattle.vap_match.specs.Cover.{covers}
use Rattle.vap_match.specs.declared.request.Admission.{Admission}
use Rattle.vap_match.specs.declared.rules.Rules.{Rules}
use Rattle.vap_match.specs.Select.{Labels}
use Rattle.vap_read.specs.declared.object.Object.{Object}
use Rattle.vap_read_objects.specs.OfKind.{labels_in}
use Rattle.vap_policy_set.specs.PolicyCovering.{may_cover}
use Rattle.vap_policy_set.specs.Index.{AreEnough}
use Rattle.vap_policy_set.specs.Sets.{Holdings, namespace_in}
use Rattle.vap_policy_set.specs.declared.bound.BoundPolicy.{BoundPolicy}
use Rattle.vap_policy_set.proofs.Covered.{covered_may}
use Rattle.vap_policy.specs.Judging.{Case, of_policies, of_policy}
use Rattle.vap_policy.specs.Matched.{matched_by}
use Rattle.vap_policy_evaluation.proofs.Steps.{next_is}

-- a policy that matches a request may cover it
matched_may : (r : Admission) (held : Labels) (p : BoundPolicy) → matches p.policy.spec.match_constraints r held ≡ true
    → may_cover r.resource.group r.resource.resource p ≡ true
matched_may r held p h =
    let rules : Rules = p.policy.spec.match_constraints in
    let two = and_parts (covers rules r && selects_namespace rules r held) (selects_object rules r) h in
    covered_may rules r (and_parts (covers rules r) (selects_namespace rules r held) two.0).0

-- what passes a test passes it among those that are kept, if each that passes is kept
filter_kept : {X : Type 0} (keep test : X → Bool) (xs : List X) → AllByRecursion (λ x. test x ≡ true → keep x ≡ true) xs
    → filter test (filter keep xs) ≡ filter test xs
filter_kept keep test [] all = refl
filter_kept keep test (x ∷ xs) all = at (keep x) (test x) refl all.0 (filter_kept keep test xs all.1)
  where
    at : (k t : Bool) → test x ≡ t → (t ≡ true → k ≡ true) → filter test (filter keep xs) ≡ filter test xs
        → filter test (cond k (x ∷ filter keep xs) (filter keep xs)) ≡ cond t (x ∷ filter test xs) (filter test xs)
    at true t is kept rest = ap (λ b. cond b (x ∷ filter test (filter keep xs)) (filter test (filter keep xs))) is
        ∙ ap (λ ys. cond t (x ∷ ys) ys) rest
    at false true is kept rest = absurd (let no = kept refl in cc)
    at false false is kept rest = rest

-- enough policies have all that match
enough_matched : (r : Admission) (held : Labels) (all some : List BoundPolicy)
    → AreEnough r.resource.group r.resource.resource all some → matched_by r held some ≡ matched_by r held all
enough_matched r held all some few =
    ap (matched_by r held) few.are
    ∙ filter_kept few.keep (λ (p : BoundPolicy). matches p.policy.spec.match_constraints r held) all
    (
    recursion_from_All (λ p. matches p.policy.spec.match_constraints r held ≡ true → few.keep p ≡ true) all
    (λ i d lt h. few.enough i d lt (matched_may r held (get_or all i d) h))
    )

-- so they have if they are lent for the resource of the request
pub enough_at : (r : Admission) (held : Labels) (g s : List ℕ) (all some : List BoundPolicy) → g ≡ r.resource.group
    → s ≡ r.resource.resource → AreEnough g s all some → matched_by r held some ≡ matched_by r held all
enough_at r held g s all some one two few =
    enough_matched r held all some
    (
    subst (λ x. AreEnough x r.resource.resource all some) one
    (subst (λ x. AreEnough g x all some) two few)
    )

-- all that match are behind a policy that does not
pub one_skipped : (r : Admission) (held : Labels) (ps : List BoundPolicy) (i : ℕ) (p : BoundPolicy) → i < length ps → p ≡ get_or ps i p
    → matches p.policy.spec.match_constraints r held ≡ false → matched_by r held (drop (i + 1) ps) ≡ matched_by r held (drop i ps)
one_skipped r held ps i p lt is fails =
    at (matches p.policy.spec.match_constraints r held) fails ∙ ap (matched_by r held) (sym (next_is ps i p lt is))
  where
    at : (b : Bool) → b ≡ false → matched_by r held (drop (i + 1) ps)
        ≡ cond b (p ∷ matched_by r held (drop (i + 1) ps)) (matched_by r held (drop (i + 1) ps))
    at true e = absurd cc
    at false e = refl

-- policies among which all are that match have the evaluations of all
pub matched_asked : (c : Case) (all some : List BoundPolicy)
    → matched_by c.request (labels_in (namespace_in c.request.namespace c.set)) some
    ≡ matched_by c.request (labels_in (namespace_in c.request.namespace c.set)) all → of_policies c some ≡ of_policies c all
matched_asked c all some same = ap (flat_map (of_policy c)) same

-- no policies are left
pub none_left : (none : Bool) (ps : List BoundPolicy) → none ≡ (length ps == 0) → none ≡ true → ps ≡ []
none_left none [] e is = refl
none_left none (p ∷ ps) e is = let some = eqb-true (length (p ∷ ps)) 0 (sym e ∙ is) in absurd (omega arith)

-- the labels of the Namespace that is found under the name of a request's
pub labels_are : (h : Holdings) (r asked : Admission) (name : List ℕ) (namespace : Option Object) (labels : Labels)
    → name ≡ asked.namespace → asked ≡ r → namespace ≡ namespace_in name h → labels ≡ labels_in namespace
    → labels ≡ labels_in (namespace_in r.namespace h)
labels_are h r asked name namespace labels named same found is =
    is ∙ ap labels_in (found ∙ ap (λ n. namespace_in n h) (named ∙ ap (λ (a : Admission). a.namespace) same))
