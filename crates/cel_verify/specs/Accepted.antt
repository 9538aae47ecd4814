-- Which images are accepted, and why one is not.
use Rattle.std.specs.Prelude.{◌≡◌, ◌≢◌, ℕ, ◌+◌, ◌-◌, ◌<◌, ◌≤◌, ◌⊎◌, Bool, ◌&&◌, ◌||◌, min, nat_le}
use Rattle.std.specs.Prelude.{nat_lt, List, [], ◌∷◌, length, slice_get, if◌then◌else◌, Option, Some, None}
use Rattle.cel_code.specs.declared.instr.Instr.{Instr}
use Rattle.cel_code.specs.declared.instr.Instr.TheVariants.{End}
use Rattle.cel_code.specs.declared.image.Image.{Image}
use Rattle.cel_code.specs.declared.image.Target.{Target}
use Rattle.cel_verify.specs.declared.fault.VerifyRule.{VerifyRule}
use Rattle.cel_verify.specs.declared.fault.VerifyRule.TheVariants.{BadTarget, TooDeep, OverBudget}
use Rattle.cel_verify.specs.declared.fault.VerifyFault.{VerifyFault}
use Rattle.base_containers.specs.declared.failed.Failed.{Failed}
use Rattle.base_containers.specs.declared.failed.Failed.TheVariants.{OutOfMemory, Fault}
use Rattle.cel_verify.specs.Sound.{EndsOnce, IsSound, IsFirstFault}
use Rattle.cel_verify.specs.Paths.{IsRouteCharge, IsRouteLength, IsPathCost, IsPathSteps}
use Rattle.cel_verify.specs.Depths.{greatest_depth, greatest_nesting}
use Rattle.cel_verify.specs.Walked.{ceiling, IsCapped}
use Rattle.cel_verify.specs.declared.bounds.Bounds.{Bounds}

-- the most instructions, constants, slots and targets
abbrev pub max_count : ℕ
max_count = 65536

-- the most that a route may charge
abbrev pub budget : ℕ
budget = 10000000

-- each list of the image is within the limit of counts
pub record IsCounted (image : Image) : Type 0 where
  pub code : length image.code ≤ max_count
  pub constants : length image.constants ≤ max_count
  pub slots : length image.slots ≤ max_count
  pub targets : length image.targets ≤ max_count

-- an END before the last instruction, and the first
pub record IsEarlyEnd (code : List Instr) (at : ℕ) : Type 0 where
  pub is : slice_get code at ≡ Some End
  pub early : at + 1 < length code
  pub first : (i : ℕ) → i < at → slice_get code i ≢ Some End

-- there is no END; it is missed at the last instruction, or at 0 if there is none
pub record IsMissingEnd (code : List Instr) (at : ℕ) : Type 0 where
  pub none : (i : ℕ) → slice_get code i ≢ Some End
  pub last : at ≡ length code - 1

-- an END out of its place, or none
abbrev pub IsWrongEnd : List Instr → ℕ → Type 0
IsWrongEnd code at = IsEarlyEnd code at ⊎ IsMissingEnd code at

-- the number of the first entry that is no instruction's, or not above that of the entry before it, given so
-- many instructions and this as the least number that may come
abbrev pub misplaced : ℕ → ℕ → List Target → Option ℕ
misplaced count least [] = None
misplaced count least (e ∷ es) = if nat_le least e.at && nat_lt e.at count then misplaced count (e.at + 1) es else Some e.at

-- the number of an image's first entry that is out of its place, if one is
abbrev pub misplaced_entry : Image → Option ℕ
misplaced_entry image = misplaced (length image.code) 0 image.targets

-- a cost is over what is declared, or that is over the budget
abbrev pub is_over : ℕ → Option ℕ → Bool
is_over cost None = nat_lt budget cost
is_over cost (Some most) = nat_lt most cost || nat_lt budget most

-- what an image declares is no less than any forward route charges, and no more than the budget
abbrev pub IsDeclared : Image → Option ℕ → Type 0
IsDeclared image None = Unit {0}
IsDeclared image (Some most) = ((charge : ℕ) → IsRouteCharge image charge → charge ≤ most) × (most ≤ budget)

-- an image that is accepted: no forward route charges more than the budget, nor than the image declares
pub record IsAccepted (image : Image) : Type 0 where
  pub counted : IsCounted image
  pub sound : IsSound image
  pub placed : misplaced_entry image ≡ None
  pub cheap : (charge : ℕ) → IsRouteCharge image charge → charge ≤ budget
  pub declared : IsDeclared image image.declared

-- the bounds of an image
pub record AreBounds (image : Image) (bounds : Bounds) : Type 0 where
  pub cost : IsPathCost image bounds.cost
  pub steps : IsPathSteps image bounds.steps
  pub depth : bounds.depth ≡ greatest_depth image
  pub nesting : bounds.nesting ≡ greatest_nesting image

-- the bounds of an image, each up to the greatest number of 64 bits
pub record AreCapped (image : Image) (bounds : Bounds) : Type 0 where
  pub cost : IsCapped (IsRouteCharge image) bounds.cost
  pub steps : IsCapped (IsRouteLength image) bounds.steps
  pub depth : bounds.depth ≡ min (greatest_depth image) ceiling
  pub nesting : bounds.nesting ≡ greatest_nesting image

-- a fault by its rule and its instruction
abbrev pub fault : VerifyRule → ℕ → VerifyFault
fault broken at = record { rule = broken; at = at }

-- why an image is not accepted: in this order, a list is too long, END is not last and alone, an instruction breaks its
-- rule, an entry is out of its place, a route charges too much, or more than the image declares, or this declares too much
pub data IsFault (image : Image) (f : VerifyFault) : Type 0 where
  TooMany : ¬ IsCounted image → f ≡ fault TooDeep 0 → IsFault image f
  EndsWrong : IsCounted image → IsWrongEnd image.code f.at → f.rule ≡ BadTarget → IsFault image f
  Breaks : IsCounted image → EndsOnce image.code → IsFirstFault image f.at f.rule → IsFault image f
  Misplaced : IsCounted image → IsSound image → misplaced_entry image ≡ Some f.at → f.rule ≡ BadTarget → IsFault image f
  TooDear : IsCounted image → IsSound image → misplaced_entry image ≡ None
      → (charge : ℕ) → IsRouteCharge image charge → budget < charge → f ≡ fault OverBudget (length image.code - 1) → IsFault image f
  DeclaresLess : IsCounted image → IsSound image → misplaced_entry image ≡ None
      → (most charge : ℕ) → image.declared ≡ Some most → IsRouteCharge image charge → most < charge
      → f ≡ fault OverBudget (length image.code - 1) → IsFault image f
  DeclaresMore : IsCounted image → IsSound image → misplaced_entry image ≡ None
      → (most : ℕ) → image.declared ≡ Some most → budget < most → f ≡ fault OverBudget (length image.code - 1) → IsFault image f

-- a refusal: for lack of memory, or for the image's fault, with which it is not accepted
abbrev pub IsRefused : Image → Failed VerifyFault → Type 0
IsRefused image OutOfMemory = Unit {0}
IsRefused image (Fault f) = IsFault image f × ¬ IsAccepted image
