-- What results from numbered answers.
use Rattle.std.specs.Prelude.{◌≡◌, ◌≢◌, ◌⊎◌, ◌==◌, ◌<◌, ◌≤◌, ℕ, List, [], ◌∷◌, ◌++◌, length, map, slice_get, if◌then◌else◌}
use Rattle.std.specs.Prelude.{Option, Some, None}
use Rattle.base_containers.specs.Failures.{IfFault}
use Rattle.base_containers.specs.declared.failed.Failed.{Failed}
use Rattle.vap_policy_verdict.specs.declared.verdict.Verdict.{Verdict}
use Rattle.vap_plane_gathering.specs.declared.gathering.Came.{Came}
use Rattle.vap_plane_gathering.specs.declared.gathering.Came.TheVariants.{Never, Once, Again}
use Rattle.vap_plane_gathering.specs.declared.gathering.GatherFault.{GatherFault}
use Rattle.vap_plane_gathering.specs.declared.gathering.GatherFault.TheVariants.{Double, Stranger, Lost}

-- what has come under a number, if an answer comes once more
abbrev pub once_more : Verdict → Came → Came
once_more verdict Never = Once verdict
once_more verdict (Once other) = Again
once_more verdict Again = Again

-- what came under a number
abbrev pub came : ℕ → List (ℕ × Verdict) → Came
came number [] = Never
came number (answer ∷ answers) = if answer.0 == number then once_more answer.1 (came number answers) else came number answers

-- a number below the count comes once, any other never
pub record IsFine (count : ℕ) (answers : List (ℕ × Verdict)) (number : ℕ) : Type 0 where
  pub once : number < count → (verdict : Verdict) × (came number answers ≡ Once verdict)
  pub never : count ≤ number → came number answers ≡ Never

-- a number has this fault
abbrev pub HasFault : ℕ → List (ℕ × Verdict) → ℕ → GatherFault → Type 0
HasFault count answers number (Lost n) = (n ≡ number) × (number < count) × (came number answers ≡ Never)
HasFault count answers number (Double n) = (n ≡ number) × (number < count) × (came number answers ≡ Again)
HasFault count answers number (Stranger n) = (n ≡ number) × (count ≤ number) × (came number answers ≢ Never)

-- each number below the count comes once, no other comes, and these are the verdicts in their order
pub record IsListOf (count : ℕ) (answers : List (ℕ × Verdict)) (verdicts : List Verdict) : Type 0 where
  pub fine : (number : ℕ) → IsFine count answers number
  pub whole : length verdicts ≡ count
  pub each : (number : ℕ) (verdict : Verdict) → slice_get verdicts number ≡ Some verdict → came number answers ≡ Once verdict

-- the least number that has a fault has this one
pub record IsLeastFault (count : ℕ) (answers : List (ℕ × Verdict)) (fault : GatherFault) : Type 0 where
  pub number : ℕ
  pub has : HasFault count answers number fault
  pub least : (other : ℕ) → other < number → IsFine count answers other

-- why numbered answers do not form a list: the least fault, or out of memory
abbrev pub IsWhy : ℕ → List (ℕ × Verdict) → Failed GatherFault → Type 0
IsWhy count answers error = IfFault (IsLeastFault count answers) error

-- the lesser of two numbers, if there is a first
abbrev pub LeastOf : Option ℕ → ℕ → ℕ → Type 0
LeastOf None other least = least ≡ other
LeastOf (Some first) other least = ((least ≡ first) × (first ≤ other)) ⊎ ((least ≡ other) × (other < first))

-- the first place in which not exactly one came has this fault
abbrev pub Breaks : ℕ → Came → GatherFault → Type 0
Breaks number Never fault = fault ≡ Lost number
Breaks number Again fault = fault ≡ Double number
Breaks number (Once verdict) fault = ⊥

-- exactly one came in each place before the first in which not exactly one did
pub record IsBroken (slots : List Came) (fault : GatherFault) : Type 0 where
  pub before : List Verdict
  pub found : Came
  pub behind : List Came
  pub split : slots ≡ map Once before ++ found ∷ behind
  pub breaks : Breaks (length before) found fault

-- why places do not form a list: the first in which not exactly one came, or out of memory
abbrev pub IsGap : List Came → Failed GatherFault → Type 0
IsGap slots error = IfFault (IsBroken slots) error

-- the places have what came under each number below the count
pub record AreCame (count : ℕ) (answers : List (ℕ × Verdict)) (slots : List Came) : Type 0 where
  pub whole : length slots ≡ count
  pub each : (number : ℕ) → number < count → slice_get slots number ≡ Some (came number answers)

-- this is the least number from the count on that comes, or there is none
abbrev pub IsLeastStranger : ℕ → List (ℕ × Verdict) → Option ℕ → Type 0
IsLeastStranger count answers None = (number : ℕ) → count ≤ number → came number answers ≡ Never
IsLeastStranger count answers (Some least) = (count ≤ least) × (came least answers ≢ Never)
    × ((number : ℕ) → count ≤ number → number < least → came number answers ≡ Never)
