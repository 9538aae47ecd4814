-- What functions that read a part of a text answer, with the text that a reference points to; and what they are given.
use Rattle.std.specs.Prelude.{ℕ, ◌≡◌, true, ◌-◌, ◌^◌, min, List, Option}
use Rattle.std.specs.Borrow.{Bor}
use Rattle.std.specs.Option.{option_map}
use Rattle.std.specs.Str.{all_ascii_digits}

-- what was read, and the rest
abbrev pub read : Option (ℕ × Bor (List ℕ)) → Option (ℕ × List ℕ)
read r = option_map (λ p. (p.0, p.1.now)) r

-- a number, or the greatest of 64 bits if that is less
abbrev pub capped : ℕ → ℕ
capped n = min n (2 ^ 64 - 1)

-- the same of what was read, beside the rest
abbrev pub capped_part : Option (ℕ × List ℕ) → Option (ℕ × List ℕ)
capped_part r = option_map (λ p. (capped p.0, p.1)) r

-- all bytes are digits
abbrev pub AreDigits : List ℕ → Type 0
AreDigits ds = all_ascii_digits ds ≡ true
