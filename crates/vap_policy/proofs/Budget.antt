-- Evaluations within a budget, one after the other.
use Rattle.std.proofs.Common.{◌≡◌, ℕ, List, [], ◌∷◌, ◌++◌, refl, sym, ap, ◌∙◌, subst}
use Rattle.vap_policy.specs.Adds.{Progress, behind, left_behind}
use Rattle.vap_policy.specs.Evaluations.{Evaluation, Findings, budgeted, fitting, found_by, joined, left_after}
use Rattle.vap_policy.specs.RequestPatterns.{OneMayMatch}
use Rattle.vap_policy.proofs.Joined.{joined_more, joined_none}
use Rattle.vap_policy.proofs.Looked.{after, in_front}

-- evaluations after others have what those leave
budgeted_append : (left : ℕ) (es fs : List Evaluation) → budgeted left (es ++ fs) ≡ budgeted left es ++ budgeted (left_behind left es) fs
budgeted_append left [] fs = refl
budgeted_append left (e ∷ es) fs = ap (λ (xs : List Evaluation). fitting left e ∷ xs) (budgeted_append (left_after left e) es fs)

left_append : (left : ℕ) (es fs : List Evaluation) → left_behind left (es ++ fs) ≡ left_behind (left_behind left es) fs
left_append left [] fs = refl
left_append left (e ∷ es) fs = left_append (left_after left e) es fs

abbrev progress : Findings → ℕ → Progress
progress f n = record { found = f; left = n }

progress_alike : (f g : Findings) (m n : ℕ) → f ≡ g → m ≡ n → progress f m ≡ progress g n
progress_alike f g m n one two = ap (λ (x : Findings). progress x m) one ∙ ap (λ (x : ℕ). progress g x) two

-- after no evaluation there is no progress
pub behind_none : (p : Progress) → behind p [] ≡ p
behind_none p = progress_alike (joined p.found (found_by [])) p.found p.left p.left (joined_none p.found) refl

behind_more : (p : Progress) (es fs : List Evaluation) → behind (behind p es) fs ≡ behind p (es ++ fs)
behind_more p es fs =
    progress_alike
    (joined (joined p.found (found_by (budgeted p.left es))) (found_by (budgeted (left_behind p.left es) fs)))
    (joined p.found (found_by (budgeted p.left (es ++ fs))))
    (left_behind (left_behind p.left es) fs) (left_behind p.left (es ++ fs))
    (
    joined_more p.found (budgeted p.left es) (budgeted (left_behind p.left es) fs)
    ∙ ap (λ (xs : List Evaluation). joined p.found (found_by xs)) (sym (budgeted_append p.left es fs))
    )
    (sym (left_append p.left es fs))

-- the progress so far, with that of the rest, is that of all, also after the next evaluations
pub next_progress : (old new all : Progress) (es rest more : List Evaluation) → new ≡ behind old es → es ++ rest ≡ more
    → behind old more ≡ all → behind new rest ≡ all
next_progress old new all es rest more step cut before =
    ap (λ p. behind p rest) step ∙ behind_more old es rest ∙ ap (behind old) cut ∙ before

-- if one of the evaluations after others looks for a pattern, so does one of all
pub rest_looks : (old new : Progress) (es rest more : List Evaluation) → new ≡ behind old es → es ++ rest ≡ more
    → OneMayMatch (budgeted new.left rest) → OneMayMatch (budgeted old.left more)
rest_looks old new es rest more step cut one =
    subst (λ xs. OneMayMatch (budgeted old.left xs)) cut
    (
    subst OneMayMatch (sym (budgeted_append old.left es rest))
    (
    after (budgeted old.left es) (budgeted (left_behind old.left es) rest)
    (subst (λ (p : Progress). OneMayMatch (budgeted p.left rest)) step one)
    )
    )

-- if one of the first evaluations does, so does one of all
pub first_looks : (left : ℕ) (es rest more : List Evaluation) → es ++ rest ≡ more → OneMayMatch (budgeted left es)
    → OneMayMatch (budgeted left more)
first_looks left es rest more cut one =
    subst (λ xs. OneMayMatch (budgeted left xs)) cut
    (
    subst OneMayMatch (sym (budgeted_append left es rest))
    (in_front (budgeted left es) (budgeted (left_behind left es) rest) one)
    )
