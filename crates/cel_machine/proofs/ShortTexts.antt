-- What a short text weighs.
use Rattle.std.proofs.Common.{◌≡◌, ℕ, ◌<◌, ◌≤◌, List, [], ◌∷◌, length, slice_index_or, arith, inl, inr}
use Rattle.std.proofs.lemmas.Bool.{cases_Bool, lt-ltb, or_left}
use Rattle.cel_value.specs.Value.{begins, code_points, text_weight_of}

-- a text has no more code points than bytes
pub code_points_most : (bytes : List ℕ) → code_points bytes ≤ length bytes
code_points_most [] = omega arith
code_points_most (b ∷ bytes) = elim (cases_Bool (begins b)) [
  | inl h ↦ rw h (omega (arith, code_points_most bytes))
  | inr h ↦ rw h (omega (arith, code_points_most bytes))
]

-- one of one to ten bytes, of which the first is a code point, weighs 2
pub weighs_two : (bytes : List ℕ) → 1 ≤ length bytes → slice_index_or bytes 0 0 < 128 → length bytes ≤ 10 → text_weight_of bytes ≡ 2
weighs_two [] some low short = absurd (omega (arith, some))
weighs_two (b ∷ bytes) some low short = rw (or_left _ _ (lt-ltb b 128 low)) (omega (arith, short, code_points_most bytes))

-- one of which the first byte is a code point weighs no less
pub weighs_no_less : (bytes : List ℕ) → 1 ≤ length bytes → slice_index_or bytes 0 0 < 128 → 2 ≤ text_weight_of bytes
weighs_no_less [] some low = absurd (omega (arith, some))
weighs_no_less (b ∷ bytes) some low = rw (or_left _ _ (lt-ltb b 128 low)) (omega arith)
