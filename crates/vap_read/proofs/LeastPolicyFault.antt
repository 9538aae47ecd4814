-- The fault that is reported is the least.
use Rattle.std.proofs.Common.{◌≡◌, ◌<◌, ◌≤◌, ℕ, Bool, true, false, cond, List, [], ◌∷◌, Option, Some, None}
use Rattle.std.proofs.Common.{refl, ap, sym, subst, true≢false, arith}
use Rattle.std.specs.Prelude.{unwrap_or, option_map, is_some, IfSome}
use Rattle.std.specs.List.{find, AllByRecursion}
use Rattle.vap_match.specs.declared.match_fault.MatchFault.TheVariants.{BadOperator, BadScope, EmptyRule}
use Rattle.vap_read.specs.PolicyFaults.{number_of, faults, least_of, least_of_rules, IsLeast}
use Rattle.vap_read.specs.declared.policy_fault.PolicyFault.{PolicyFault}
use Rattle.vap_read.specs.declared.policy_fault.PolicyFault.TheVariants.{MissingField, DenyWithWarn, TooMany, BadMessage}
use Rattle.vap_read.specs.declared.policy_fault.PolicyFault.TheVariants.{BadParamRef, DuplicateName, Rules}

-- each number is above the one before it
abbrev Rises : ℕ → List PolicyFault → Type 0
Rises n [] = Unit {0}
Rises n (f ∷ fs) = (n < number_of f) × Rises (number_of f) fs

-- no fault of a lesser number than this is there
abbrev NoneBelow : (PolicyFault → Bool) → ℕ → List PolicyFault → Type 0
NoneBelow has m fs = AllByRecursion (λ g. number_of g < m → has g ≡ false) fs

-- what comes after a number has none below it
behind : (has : PolicyFault → Bool) (m n : ℕ) (fs : List PolicyFault) → m ≤ n → Rises n fs → NoneBelow has m fs
behind has m n [] le h = tt
behind has m n (f ∷ fs) le h =
    ((λ lt. absurd (omega (arith, lt, le, h.0))), behind has m (number_of f) fs (omega (arith, le, h.0)) h.1)

-- the first fault that is there, with what is known of it
abbrev IsFirst : (PolicyFault → Bool) → ℕ → List PolicyFault → PolicyFault → Type 0
IsFirst has n fs f = (has f ≡ true) × (n < number_of f) × NoneBelow has (number_of f) fs

first : (has : PolicyFault → Bool) (n : ℕ) (fs : List PolicyFault) (f : PolicyFault) → Rises n fs → find has fs ≡ Some f
    → IsFirst has n fs f
first has n [] f h e = absurd (true≢false (sym (ap is_some e)))
first has n (x ∷ xs) f h e = at (has x) refl e (λ found. first has (number_of x) xs f h.1 found)
  where
    at : (b : Bool) → has x ≡ b → cond b (Some x) (find has xs) ≡ Some f
        → (find has xs ≡ Some f → IsFirst has (number_of x) xs f) → IsFirst has n (x ∷ xs) f
    at true is found rest =
        subst (λ g. IsFirst has n (x ∷ xs) g) (ap (λ o. unwrap_or o x) found)
        (is, h.0, ((λ lt. absurd (omega (arith, lt))), behind has (number_of x) (number_of x) xs (omega arith) h.1))
    at false is found rest =
        let known = rest found in
        (known.0, omega (arith, h.0, known.1), ((λ _. is), known.2))

rising : Rises 0 faults
rising = search arith

-- each fault is one of those that are looked at
each : (has : PolicyFault → Bool) (m : ℕ) → NoneBelow has m faults → (g : PolicyFault) → number_of g < m → has g ≡ false
each has m none MissingField = none.0
each has m none DenyWithWarn = none.1.0
each has m none TooMany = none.1.1.0
each has m none BadMessage = none.1.1.1.0
each has m none BadParamRef = none.1.1.1.1.0
each has m none DuplicateName = none.1.1.1.1.1.0
each has m none (Rules BadOperator) = none.1.1.1.1.1.1.0
each has m none (Rules BadScope) = none.1.1.1.1.1.1.1.0
each has m none (Rules EmptyRule) = none.1.1.1.1.1.1.1.1.0

pub least_found : (has : PolicyFault → Bool) (f : PolicyFault) → least_of has ≡ Some f → IsLeast has f
least_found has f e =
    let is_first = first has 0 faults f rising e in
    (is_first.0, each has (number_of f) is_first.2)

pub least_if_found : (has : PolicyFault → Bool) (found : Option PolicyFault) → found ≡ least_of has → IfSome found (λ f. IsLeast has f)
least_if_found has None e = tt
least_if_found has (Some f) e = least_found has f (sym e)

-- the least fault if there are no others than those of rules
pub rules_at_last : (has : PolicyFault → Bool) → has MissingField ≡ false → has DenyWithWarn ≡ false → has TooMany ≡ false
    → has BadMessage ≡ false → has BadParamRef ≡ false → has DuplicateName ≡ false → least_of_rules has ≡ least_of has
rules_at_last has a b c d e f = rw (a, b, c, d, e, f) (tail (has (Rules BadOperator)) (has (Rules BadScope)) (has (Rules EmptyRule)))
  where
    tail : (r s t : Bool)
        → option_map Rules (cond r (Some BadOperator) (cond s (Some BadScope) (cond t (Some EmptyRule) None)))
        ≡ cond r (Some (Rules BadOperator)) (cond s (Some (Rules BadScope)) (cond t (Some (Rules EmptyRule)) None))
    tail true s t = refl
    tail false true t = refl
    tail false false true = refl
    tail false false false = refl
