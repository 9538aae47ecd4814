-- Which faults a review has.
use Rattle.std.specs.Prelude.{◌≡◌, ◌<◌, ℕ, Bool, true, false, not, [], ◌∷◌, Option}
use Rattle.std.specs.List.{find}
use Rattle.serde_json.specs.Data.{Data}
use Rattle.vap_match.specs.ReviewLimits.{is_short_review}
use Rattle.vap_match.specs.Reviews.{is_review}
use Rattle.vap_match.specs.declared.review_fault.ReviewFault.{ReviewFault}
use Rattle.vap_match.specs.declared.review_fault.ReviewFault.TheVariants.{BadReview, OverLimit}

-- which faults a review has
abbrev pub applies : ReviewFault → Data → Bool
applies BadReview d = not (is_review d)
applies OverLimit d = not (is_short_review d)

-- the fault of the least number that a review has
abbrev pub least_fault : Data → Option ReviewFault
least_fault d = find (λ f. applies f d) (BadReview ∷ OverLimit ∷ [])

-- the number of a fault
abbrev pub number_of : ReviewFault → ℕ
number_of BadReview = 1
number_of OverLimit = 2

-- a review has this fault, and none of a lesser number
abbrev pub IsLeast : Data → ReviewFault → Type 0
IsLeast d f = (applies f d ≡ true) × ((g : ReviewFault) → number_of g < number_of f → applies g d ≡ false)
