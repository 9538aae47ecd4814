-- What is found by evaluations, one after the other.
use Rattle.std.proofs.Common.{◌≡◌, ◌<◌, ◌+◌, ℕ, Bool, true, false, cond, List, [], ◌∷◌, ◌++◌, length, drop, get_or, filter, flat_map}
use Rattle.std.proofs.Common.{refl, sym, ap, ◌∙◌, append_assoc, append-nil, add_assoc, add-zero, sum_by}
use Rattle.std.proofs.lemmas.List.Concat.{flat_map-append}
use Rattle.std.proofs.lemmas.List.Sums.{sum_by-append}
use Rattle.vap_policy_verdict.specs.declared.finding.Finding.{Finding}
use Rattle.vap_policy_verdict.specs.declared.finding.Note.{Note}
use Rattle.vap_policy.specs.Evaluations.{Evaluation, Findings, failures_in, notes_in, charge_in, found_by, joined}
use Rattle.vap_policy_evaluation.proofs.Steps.{next_is}

abbrev findings : List Finding → List Note → ℕ → Findings
findings fs ns n = record { failures = fs; notes = ns; charged = n }

findings_alike : (fs gs : List Finding) (ns ms : List Note) (a b : ℕ) → fs ≡ gs → ns ≡ ms → a ≡ b → findings fs ns a ≡ findings gs ms b
findings_alike fs gs ns ms a b one two three =
    ap (λ (x : List Finding). findings x ns a) one ∙ ap (λ (x : List Note). findings gs x a) two ∙ ap (λ (n : ℕ). findings gs ms n) three

-- no evaluation finds nothing
pub joined_none : (f : Findings) → joined f (found_by []) ≡ f
joined_none f =
    findings_alike (f.failures ++ []) f.failures (f.notes ++ []) f.notes (f.charged + 0) f.charged
    (append-nil f.failures) (append-nil f.notes) (add-zero f.charged)

pub joined_more : (f : Findings) (es gs : List Evaluation)
    → joined (joined f (found_by es)) (found_by gs) ≡ joined f (found_by (es ++ gs))
joined_more f es gs =
    findings_alike
    ((f.failures ++ flat_map failures_in es) ++ flat_map failures_in gs) (f.failures ++ flat_map failures_in (es ++ gs))
    ((f.notes ++ flat_map notes_in es) ++ flat_map notes_in gs) (f.notes ++ flat_map notes_in (es ++ gs))
    ((f.charged + sum_by charge_in es) + sum_by charge_in gs) (f.charged + sum_by charge_in (es ++ gs))
    (
    append_assoc f.failures (flat_map failures_in es) (flat_map failures_in gs)
    ∙ ap (λ (x : List Finding). f.failures ++ x) (sym (flat_map-append failures_in es gs))
    )
    (
    append_assoc f.notes (flat_map notes_in es) (flat_map notes_in gs)
    ∙ ap (λ (x : List Note). f.notes ++ x) (sym (flat_map-append notes_in es gs))
    )
    (
    add_assoc f.charged (sum_by charge_in es) (sum_by charge_in gs)
    ∙ ap (λ n. f.charged + n) (sym (sum_by-append charge_in es gs))
    )

-- the evaluations of those that pass a test: of one that does, before the rest
pub next_of : {X : Type 0} (f : X → List Evaluation) (p : X → Bool) (xs : List X) (i : ℕ) (x : X) → i < length xs → x ≡ get_or xs i x
    → p x ≡ true → f x ++ flat_map f (filter p (drop (i + 1) xs)) ≡ flat_map f (filter p (drop i xs))
next_of {X} f p xs i x lt is passes = at (p x) passes ∙ ap (λ ys. flat_map f (filter p ys)) (sym (next_is xs i x lt is))
  where
    at : (b : Bool) → b ≡ true → f x ++ flat_map f (filter p (drop (i + 1) xs))
        ≡ flat_map f (cond b (x ∷ filter p (drop (i + 1) xs)) (filter p (drop (i + 1) xs)))
    at true e = refl
    at false e = absurd cc

-- of one that does not, nothing
pub none_of : {X : Type 0} (f : X → List Evaluation) (p : X → Bool) (xs : List X) (i : ℕ) (x : X) → i < length xs → x ≡ get_or xs i x
    → p x ≡ false → flat_map f (filter p (drop (i + 1) xs)) ≡ flat_map f (filter p (drop i xs))
none_of {X} f p xs i x lt is fails = at (p x) fails ∙ ap (λ ys. flat_map f (filter p ys)) (sym (next_is xs i x lt is))
  where
    at : (b : Bool) → b ≡ false → flat_map f (filter p (drop (i + 1) xs))
        ≡ flat_map f (cond b (x ∷ filter p (drop (i + 1) xs)) (filter p (drop (i + 1) xs)))
    at true e = absurd cc
    at false e = refl
