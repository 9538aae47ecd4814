-- What a step of judging adds to what is found.
use Rattle.std.specs.Prelude.{◌≡◌, ◌≤◌, ◌+◌, ℕ, List, [], ◌∷◌}
use Rattle.vap_policy.specs.Evaluations.{Evaluation, Findings, budget, budgeted, found_by, joined, left_after}
use Rattle.vap_policy.specs.Judging.{Case}
use Rattle.vap_policy.specs.RequestPatterns.{OneMayMatch}
use Rattle.vap_policy.specs.Shown.{case_of, findings_of}
use Rattle.vap_policy.specs.declared.evaluations.Judging.{Judging}

-- the case of what is judged
abbrev pub case_in : Judging → Case
case_in j = case_of j.case.now

-- what is found so far, and what is left of the budget
pub record Progress : Type 0 where
  pub found : Findings
  pub left : ℕ

abbrev pub progress_of : Judging → Progress
progress_of j = record { found = findings_of j.findings; left = j.left }

-- what is left of the budget after evaluations
abbrev pub left_behind : ℕ → List Evaluation → ℕ
left_behind left [] = left
left_behind left (e ∷ es) = left_behind (left_after left e) es

-- the progress after evaluations
abbrev pub behind : Progress → List Evaluation → Progress
behind p es = record { found = joined p.found (found_by (budgeted p.left es)); left = left_behind p.left es }

-- what is charged is within what is spent of the budget
abbrev pub IsWithin : Judging → Type 0
IsWithin j = j.findings.charged + j.left ≤ budget

-- evaluations are added at the same case, within the budget
pub record Adds (old new : Judging) (es : List Evaluation) : Type 0 where
  pub case : new.case ≡ old.case
  pub progress : progress_of new ≡ behind (progress_of old) es
  pub within : IsWithin new

-- one of these evaluations runs and looks for a pattern
abbrev pub Looks : Judging → List Evaluation → Type 0
Looks j es = OneMayMatch (budgeted j.left es)
