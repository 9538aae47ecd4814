-- The most items of a range.
use Rattle.std.proofs.Common.{◌≡◌, ℕ, Option, Some, None, ap}
use Rattle.std.specs.Prelude.{option_map, unwrap_or}
use Rattle.cel_operators.specs.declared.limit.Span.{Span}
use Rattle.cel_estimate.specs.Estimate.{span_max}

-- the most of a span, or none
pub most_of : (o : Option Span) (most : Option ℕ) → most ≡ option_map (λ span. span.max) o → unwrap_or most 0 ≡ span_max o
most_of None most e = ap (λ m. unwrap_or m 0) e
most_of (Some span) most e = ap (λ m. unwrap_or m 0) e
