-- One more value fits after the others.
use Rattle.std.proofs.Common.{◌≡◌, ℕ, ◌+◌, true, List, [], ◌∷◌, ◌++◌, Some, refl, subst, append_assoc, arith}
use Rattle.std.proofs.lemmas.Bool.{and_parts, and_from}
use Rattle.cel_value.specs.declared.cel_type.CelType.{CelType}
use Rattle.cel_operators.specs.Outcomes.{Outcome, outcome_fits, slots_fit}
use Rattle.cel_expression.specs.Source.{Source}
use Rattle.cel_expression.specs.Expressions.{type_at}
use Rattle.vap_policy_evaluation.specs.Runs.{given, charge}
use Rattle.vap_policy_evaluation.specs.Variables.{values_from, values_charge}
use Rattle.vap_policy_evaluation.specs.CanRun.{CanRun}

pub fits_more : (ts : List CelType) (xs : List Outcome) (t : CelType) (x : Outcome) → slots_fit ts xs ≡ true
    → outcome_fits t (Some x) ≡ true
    → slots_fit (ts ++ t ∷ []) (xs ++ x ∷ []) ≡ true
fits_more [] [] t x h o = and_from (outcome_fits t (Some x)) true o refl
fits_more [] (y ∷ ys) t x h o = absurd cc
fits_more (a ∷ bs) [] t x h o = absurd cc
fits_more (a ∷ bs) (y ∷ ys) t x h o =
    let p = and_parts (outcome_fits a (Some y)) (slots_fit bs ys) h in
    and_from (outcome_fits a (Some y)) _ p.0 (fits_more bs ys t x p.1 o)

can_run_next : (s : Source) (ss : List Source) (lent made : List Outcome) (x : Outcome) (last : List CelType)
    → CanRun (s ∷ ss) (lent ++ made) last → outcome_fits (type_at s) (Some x) ≡ true → CanRun ss (lent ++ (made ++ x ∷ [])) last
can_run_next s ss lent made x last r o = record {
  types = r.types ++ type_at s ∷ [];
  fit = subst (λ z. slots_fit (r.types ++ type_at s ∷ []) z ≡ true) (append_assoc lent made (x ∷ []))
      (fits_more r.types (lent ++ made) (type_at s) x r.fit o);
  follow = r.follow.1;
}

pub next_values : (s : Source) (rest vs : List Source) (slots made new all : List Outcome) → vs ≡ s ∷ rest
    → new ≡ made ++ given s (slots ++ made) ∷ []
    → values_from made vs slots ≡ all → values_from new rest slots ≡ all
next_values s rest vs slots made new all d e v = rw e (rw d at v)

pub next_charge : (s : Source) (rest vs : List Source) (slots made new : List Outcome) (charged cost all : ℕ) → vs ≡ s ∷ rest
    → new ≡ made ++ given s (slots ++ made) ∷ [] → cost ≡ charge s (slots ++ made)
    → charged + values_charge made vs slots ≡ all → charged + cost + values_charge new rest slots ≡ all
next_charge s rest vs slots made new charged cost all d e k v = let h = rw d at v in rw e (omega arith)

pub next_can : (s : Source) (rest vs : List Source) (lent made new : List Outcome) (last : List CelType) → vs ≡ s ∷ rest
    → new ≡ made ++ given s (lent ++ made) ∷ [] → outcome_fits (type_at s) (Some (given s (lent ++ made))) ≡ true
    → CanRun vs (lent ++ made) last → CanRun rest (lent ++ new) last
next_can s rest vs lent made new last d e o r = rw e (can_run_next s rest lent made (given s (lent ++ made)) last (rw d at r) o)
