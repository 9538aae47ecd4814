-- One item more of what a loop runs.
use Rattle.std.proofs.Common.{◌≡◌, ◌<◌, ◌+◌, ℕ, suc, List, ◌∷◌, ◌++◌, length, get_or, drop, sum_by, sym, ap, ◌∙◌, append_assoc, arith}
use Rattle.std.proofs.lemmas.List.{drop_more}
use Rattle.std.proofs.lemmas.List.Sums.{sum_by-cons}
use Rattle.std.specs.List.{flat_map}
use Rattle.cel_operators.specs.Outcomes.{Outcome}
use Rattle.vap_read.specs.declared.policy.FailurePolicy.{FailurePolicy}
use Rattle.vap_policy_programs.specs.declared.programs.Check.{Check}
use Rattle.vap_policy_evaluation.specs.declared.found.Failure.{Failure}
use Rattle.vap_policy_evaluation.specs.Validations.{failure_at, failures_from}

-- what is left of a list begins with the item at this place
pub next_is : {X : Type 0} (xs : List X) (i : ℕ) (x : X) → i < length xs → x ≡ get_or xs i x → drop i xs ≡ x ∷ drop (i + 1) xs
next_is xs i x lt is = drop_more xs i x lt ∙ ap (λ z. z ∷ drop (i + 1) xs) (sym is)

pub next_cost : {X : Type 0} (f : X → ℕ) (x : X) (rest xs : List X) (charged cost all : ℕ) → xs ≡ x ∷ rest → cost ≡ f x
    → charged + sum_by f xs ≡ all → charged + cost + sum_by f rest ≡ all
next_cost f x rest xs charged cost all d k v = let h = rw d at v in omega (arith, sum_by-cons f x rest, h, k)

pub next_found : {X A : Type 0} (f : X → List A) (x : X) (rest xs : List X) (old new all : List A) → xs ≡ x ∷ rest
    → new ≡ old ++ f x → old ++ flat_map f xs ≡ all → new ++ flat_map f rest ≡ all
next_found f x rest xs old new all d e v =
    ap (λ z. z ++ flat_map f rest) e ∙ append_assoc old (f x) (flat_map f rest) ∙ ap (λ z. old ++ flat_map f z) (sym d) ∙ v

pub next_failures : (policy : FailurePolicy) (slots : List Outcome) (i j : ℕ) (x : Check) (rest xs : List Check)
    (old new all : List Failure) → xs ≡ x ∷ rest → j ≡ suc i → new ≡ old ++ failure_at policy slots i x
    → old ++ failures_from policy slots i xs ≡ all → new ++ failures_from policy slots j rest ≡ all
next_failures policy slots i j x rest xs old new all d n e v =
    ap (λ z. z ++ failures_from policy slots j rest) e
    ∙ ap (λ k. (old ++ failure_at policy slots i x) ++ failures_from policy slots k rest) n
    ∙ append_assoc old (failure_at policy slots i x) (failures_from policy slots (suc i) rest)
    ∙ ap (λ z. old ++ failures_from policy slots i z) (sym d)
    ∙ v
