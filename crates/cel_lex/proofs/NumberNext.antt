-- The number that is read next is the longest piece.
use Rattle.std.proofs.Common.{◌≡◌, ℕ, zero, suc, ◌+◌, ◌-◌, ◌<◌, ◌≤◌, Bool, true, false, cond, List}
use Rattle.std.proofs.Common.{[], ◌∷◌, length, take, drop, Option, Some, None, refl, ap, ◌∙◌, arith, length-drop}
use Rattle.std.proofs.lemmas.List.{take-take, drop-take}
use Rattle.std.specs.Prelude.{◌&&◌, nat_eq}
use Rattle.std.specs.Char.{is_digit as is_digit_of}
use Rattle.std.proofs.lemmas.List.Sums.{prefix_len-le-length}
use Rattle.cel_lex.specs.declared.piece.Piece.{Piece}
use Rattle.cel_lex.specs.Numbers.{value_of, signed, unsigned, is_suffix, suffixed, digits_in, digits_of, is_hexadecimal, number_of}
use Rattle.cel_lex.specs.Lexis.{piece_of, IsNext}
use Rattle.cel_lex.specs.Scan.{ends_at, digits_at, further, number_at}
use Rattle.cel_lex.proofs.Runs.{front_len}

-- the front of some bytes that reads as a piece, and no longer front does
pub record IsFront (reads : List ℕ → Option Piece) (bytes : List ℕ) (x : ℕ × Piece) : Type 0 where
  pub here : x.0 ≤ length bytes
  pub is : reads (take x.0 bytes) ≡ Some x.1
  pub longest : (m : ℕ) → x.0 < m → m ≤ length bytes → reads (take m bytes) ≡ None

-- what follows digits is no suffix
no_suffix : (value c : ℕ) (rest : List ℕ) (j : ℕ) → is_suffix c ≡ false → suffixed value (take (suc j) (c ∷ rest)) ≡ None
no_suffix value c rest zero e = ap (λ b. cond b (Some (unsigned value)) None) e
no_suffix value c [] (suc j) e = ap (λ b. cond b (Some (unsigned value)) None) e
no_suffix value c (d ∷ rest) (suc j) e = refl

-- two bytes after digits are no suffix
two_behind : (value c : ℕ) (rest : List ℕ) (j : ℕ) → suc (suc j) ≤ length (c ∷ rest)
    → suffixed value (take (suc (suc j)) (c ∷ rest)) ≡ None
two_behind value c [] j le = absurd (omega arith)
two_behind value c (d ∷ rest) j le = refl

-- bytes whose digits are followed by a tail
record HasTail (reads : List ℕ → Option Piece) (bytes : List ℕ) (k value : ℕ) (tail : List ℕ) : Type 0 where
  within : k + length tail ≡ length bytes
  front : (m j : ℕ) → m ≡ k + j → reads (take m bytes) ≡ suffixed value (take j tail)

no_tail : (reads : List ℕ → Option Piece) (bytes : List ℕ) (k value : ℕ) → HasTail reads bytes k value []
    → IsFront reads bytes (k, signed value)
no_tail reads bytes k value t = let w = t.within in record {
  here = omega arith;
  is = t.front k 0 (omega arith);
  longest = λ m lt le. absurd (omega arith);
}

suffix_tail : (reads : List ℕ → Option Piece) (bytes : List ℕ) (k value c : ℕ) (rest : List ℕ) → is_suffix c ≡ true
    → HasTail reads bytes k value (c ∷ rest) → IsFront reads bytes (k + 1, unsigned value)
suffix_tail reads bytes k value c rest e t = let w = t.within in record {
  here = omega arith;
  is = t.front (k + 1) 1 refl ∙ ap (λ b. cond b (Some (unsigned value)) None) e;
  longest = λ m lt le. t.front m (suc (suc (m - (k + 2)))) (omega arith) ∙ two_behind value c rest (m - (k + 2)) (omega arith);
}

other_tail : (reads : List ℕ → Option Piece) (bytes : List ℕ) (k value c : ℕ) (rest : List ℕ) → is_suffix c ≡ false
    → HasTail reads bytes k value (c ∷ rest) → IsFront reads bytes (k, signed value)
other_tail reads bytes k value c rest e t = let w = t.within in record {
  here = omega arith;
  is = t.front k 0 (omega arith);
  longest = λ m lt le. t.front m (suc (m - (k + 1))) (omega arith) ∙ no_suffix value c rest (m - (k + 1)) e;
}

tail_by : (reads : List ℕ → Option Piece) (bytes : List ℕ) (k value c : ℕ) (rest : List ℕ) (b : Bool) → is_suffix c ≡ b
    → HasTail reads bytes k value (c ∷ rest) → IsFront reads bytes (cond b (k + 1, unsigned value) (k, signed value))
tail_by reads bytes k value c rest true e t = suffix_tail reads bytes k value c rest e t
tail_by reads bytes k value c rest false e t = other_tail reads bytes k value c rest e t

tail_next : (reads : List ℕ → Option Piece) (bytes : List ℕ) (k value : ℕ) (tail : List ℕ) → HasTail reads bytes k value tail
    → IsFront reads bytes (ends_at k value tail)
tail_next reads bytes k value [] t = no_tail reads bytes k value t
tail_next reads bytes k value (c ∷ rest) t = tail_by reads bytes k value c rest (is_suffix c) refl t

-- what a front that has all of the digits is
digits_front : (base : ℕ) (bytes : List ℕ) (m j : ℕ) → m ≡ digits_in base bytes + j → digits_of base (take m bytes)
    ≡ suffixed (value_of base 0 (take (digits_in base bytes) bytes)) (take j (drop (digits_in base bytes) bytes))
digits_front base bytes m j e =
    let k = digits_in base bytes in
    let len : digits_in base (take m bytes) ≡ k = front_len (λ c. is_digit_of c base) bytes m (omega arith) in
    let digits : take k (take m bytes) ≡ take k bytes = take-take k m bytes (omega arith) in
    let tail : drop k (take m bytes) ≡ take j (drop k bytes) = ap (λ x. drop k (take x bytes)) e ∙ drop-take k j bytes in
    ap (λ x. suffixed (value_of base 0 (take x (take m bytes))) (drop x (take m bytes))) len
    ∙ ap (λ (x : List ℕ). suffixed (value_of base 0 x) (drop k (take m bytes))) digits
    ∙ ap (λ (x : List ℕ). suffixed (value_of base 0 (take k bytes)) x) tail

digits_next : (base : ℕ) (bytes : List ℕ) → IsFront (digits_of base) bytes (digits_at base bytes)
digits_next base bytes =
    let le = prefix_len-le-length (λ c. is_digit_of c base) bytes in
    let len = length-drop (digits_in base bytes) bytes in
    tail_next (digits_of base) bytes (digits_in base bytes) (value_of base 0 (take (digits_in base bytes) bytes))
    (drop (digits_in base bytes) bytes)
    (record { within = omega arith; front = digits_front base bytes })

-- if 0x and a digit come first, they do in a front that has them, and otherwise in none
no_hexadecimal : (bytes : List ℕ) (m : ℕ) → is_hexadecimal bytes ≡ false → is_hexadecimal (take m bytes) ≡ false
no_hexadecimal [] zero e = refl
no_hexadecimal [] (suc m) e = refl
no_hexadecimal (c ∷ rest) zero e = refl
no_hexadecimal (c ∷ []) (suc zero) e = refl
no_hexadecimal (c ∷ []) (suc (suc m)) e = refl
no_hexadecimal (c ∷ d ∷ rest) (suc zero) e = refl
no_hexadecimal (c ∷ d ∷ []) (suc (suc zero)) e = refl
no_hexadecimal (c ∷ d ∷ []) (suc (suc (suc m))) e = refl
no_hexadecimal (c ∷ d ∷ f ∷ rest) (suc (suc zero)) e = refl
no_hexadecimal (c ∷ d ∷ f ∷ rest) (suc (suc (suc m))) e = e

-- a front of a number that is not hexadecimal
plain_next : (bytes : List ℕ) → is_hexadecimal bytes ≡ false → IsFront number_of bytes (digits_at 10 bytes)
plain_next bytes e =
    let x = digits_next 10 bytes in
    record {
      here = x.here;
      is = same (digits_at 10 bytes).0 ∙ x.is;
      longest = λ m lt le. same m ∙ x.longest m lt le;
    }
  where
    same : (m : ℕ) → number_of (take m bytes) ≡ digits_of 10 (take m bytes)
    same m = ap (λ b. cond b (digits_of 16 (drop 2 (take m bytes))) (digits_of 10 (take m bytes))) (no_hexadecimal bytes m e)

first_digit : (f : ℕ) (rest : List ℕ) → is_digit_of f 16 ≡ true → 1 ≤ digits_in 16 (f ∷ rest)
first_digit f rest e = rw e (omega arith)

ends_behind : (k value : ℕ) (tail : List ℕ) → k ≤ (ends_at k value tail).0
ends_behind k value [] = omega arith
ends_behind k value (c ∷ rest) = by_test (is_suffix c)
  where
    by_test : (b : Bool) → k ≤ (cond {A = ℕ × Piece} b (k + 1, unsigned value) (k, signed value)).0
    by_test true = omega arith
    by_test false = omega arith

-- digits are read if one comes first
pub reads_some : (base : ℕ) (bytes : List ℕ) → digits_in base bytes ≤ (digits_at base bytes).0
reads_some base bytes =
    ends_behind (digits_in base bytes) (value_of base 0 (take (digits_in base bytes) bytes)) (drop (digits_in base bytes) bytes)

hexadecimal_next : (c d f : ℕ) (rest : List ℕ) → is_hexadecimal (c ∷ d ∷ f ∷ rest) ≡ true → is_digit_of f 16 ≡ true
    → IsFront number_of (c ∷ d ∷ f ∷ rest) (further 2 (digits_at 16 (f ∷ rest)))
hexadecimal_next c d f rest e digit =
    let x = digits_next 16 (f ∷ rest) in
    let some : 1 ≤ (digits_at 16 (f ∷ rest)).0 =
    let a = first_digit f rest digit in let b = reads_some 16 (f ∷ rest) in omega arith in
    let here = x.here in
    record {
      here = omega arith;
      is = same (2 + (digits_at 16 (f ∷ rest)).0) (digits_at 16 (f ∷ rest)).0 (omega arith) some ∙ x.is;
      longest = λ m lt le. same m (m - 2) (omega arith) (omega arith) ∙ x.longest (m - 2) (omega arith) (omega arith);
    }
  where
    same_by : (n : ℕ) → number_of (take (suc (suc (suc n))) (c ∷ d ∷ f ∷ rest)) ≡ digits_of 16 (take (suc n) (f ∷ rest))
    same_by n = ap (λ b. cond b (digits_of 16 (f ∷ take n rest)) (digits_of 10 (c ∷ d ∷ f ∷ take n rest))) e

    same : (m n : ℕ) → m ≡ suc (suc n) → 1 ≤ n
        → number_of (take m (c ∷ d ∷ f ∷ rest)) ≡ digits_of 16 (take n (f ∷ rest))
    same m zero e' some = absurd (omega arith)
    same m (suc n) e' some = ap (λ x. number_of (take x (c ∷ d ∷ f ∷ rest))) e' ∙ same_by n

third_of : (a b c : Bool) → (a && b && c) ≡ true → c ≡ true
third_of true true true e = refl
third_of true true false e = absurd cc
third_of true false c e = absurd cc
third_of false b c e = absurd cc

number_by : (bytes : List ℕ) (b : Bool) → is_hexadecimal bytes ≡ b
    → IsFront number_of bytes (cond b (further 2 (digits_at 16 (drop 2 bytes))) (digits_at 10 bytes))
number_by bytes false e = plain_next bytes e
number_by [] true e = absurd cc
number_by (c ∷ []) true e = absurd cc
number_by (c ∷ d ∷ []) true e = absurd cc
number_by (c ∷ d ∷ f ∷ rest) true e = hexadecimal_next c d f rest e (third_of (nat_eq c 48) (nat_eq d 120) (is_digit_of f 16) e)

number_front : (bytes : List ℕ) → IsFront number_of bytes (number_at bytes)
number_front bytes = number_by bytes (is_hexadecimal bytes) refl

-- a number that begins with a digit has a byte
number_some : (c : ℕ) (rest : List ℕ) → is_digit_of c 10 ≡ true → 1 ≤ (number_at (c ∷ rest)).0
number_some c rest e = by_test (is_hexadecimal (c ∷ rest))
  where
    by_test : (b : Bool)
        → 1 ≤ (cond {A = ℕ × Piece} b (further 2 (digits_at 16 (drop 2 (c ∷ rest)))) (digits_at 10 (c ∷ rest))).0
    by_test true = omega arith
    by_test false = let a = reads_some 10 (c ∷ rest) in let f : 1 ≤ digits_in 10 (c ∷ rest) = rw e (omega arith) in omega arith

-- bytes that read as a number
pub record IsNumeric (c : ℕ) (rest : List ℕ) : Type 0 where
  pub digit : is_digit_of c 10 ≡ true
  pub reads : (m : ℕ) → piece_of (c ∷ take m rest) ≡ number_of (c ∷ take m rest)

pub number_next : (c : ℕ) (rest : List ℕ) → IsNumeric c rest
    → IsNext (c ∷ rest) (number_at (c ∷ rest)).0 (number_at (c ∷ rest)).1
number_next c rest s =
    let x = number_front (c ∷ rest) in
    let some = number_some c rest s.digit in
    record {
      some = omega arith;
      here = x.here;
      piece = same (number_at (c ∷ rest)).0 some ∙ x.is;
      longest = λ m lt le. same m (omega arith) ∙ x.longest m lt le;
    }
  where
    same : (m : ℕ) → 1 ≤ m → piece_of (take m (c ∷ rest)) ≡ number_of (take m (c ∷ rest))
    same zero le = absurd (omega arith)
    same (suc m) le = s.reads m
