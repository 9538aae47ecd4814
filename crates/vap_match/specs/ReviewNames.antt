-- The names that are printed.
use Rattle.std.specs.Prelude.{ℕ, List, codes}
use Rattle.vap_match.specs.declared.review_fault.ReviewFault.{ReviewFault}
use Rattle.vap_match.specs.declared.review_fault.ReviewFault.TheVariants as review

-- the name of a fault of reviews
abbrev pub review_fault_name : ReviewFault → List ℕ
review_fault_name review.BadReview = codes "BadReview"
review_fault_name review.OverLimit = codes "OverLimit"
