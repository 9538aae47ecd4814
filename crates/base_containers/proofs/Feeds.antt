-- The first line feed of bytes.
use Rattle.std.proofs.Common.{◌≡◌, ◌≢◌, ℕ, zero, suc, ◌+◌, ◌<◌, ◌≤◌, true, List, [], ◌∷◌, ◌++◌, length, take, drop, All, Option, Some, None}
use Rattle.std.proofs.Common.{refl, sym, ap, ◌∙◌, arith, rules}
use Rattle.std.specs.Prelude.{IfNone, IfSome, get_or}
use Rattle.std.proofs.lemmas.List.{get_or-take, length-take}
use Rattle.std.proofs.lemmas.Grind.{get_or_default_zero}
use Rattle.memchr.specs.Find.{IsFirstByte, Nowhere, Passes, is_byte}

is_feed : (x : ℕ) → x ≡ 10 → is_byte 10 x ≡ true
is_feed x e = rw e refl

-- up to a place there is none
plain : (bytes : List ℕ) (i : ℕ) → i ≤ length bytes → Nowhere (Passes (is_byte 10) bytes) 0 i → All (λ x. x ≢ 10) (take i bytes)
plain bytes i most nowhere = λ k d below e.
    let size = length-take i bytes in
    let before : k < i = omega (arith, size, below, most) in
    let inside : k < length bytes = omega (arith, before, most) in
    nowhere k (omega arith) before
    (is_feed _ (sym (get_or_default_zero bytes k d inside) ∙ sym (get_or-take i bytes k d before) ∙ e))

-- and in all of them
plain_all : (bytes : List ℕ) → Nowhere (Passes (is_byte 10) bytes) 0 (length bytes) → All (λ x. x ≢ 10) bytes
plain_all bytes nowhere = λ k d inside e.
    nowhere k (omega arith) inside (is_feed _ (sym (get_or_default_zero bytes k d inside) ∙ e))

-- the bytes before a line feed, and those behind it
parted : (bytes : List ℕ) (i : ℕ) → i < length bytes → get_or bytes i 0 ≡ 10 → bytes ≡ take i bytes ++ 10 ∷ drop (suc i) bytes
parted [] i inside is = absurd (omega (arith, inside))
parted (x ∷ xs) zero inside is = ap (λ y. y ∷ xs) is
parted (x ∷ xs) (suc i) inside is = ap (λ l. x ∷ l) (parted xs i (omega (arith, inside)) is)

feed_is : (x : ℕ) → is_byte 10 x ≡ true → x ≡ 10
feed_is x e = search rules

pub found : (bytes : List ℕ) (r : Option ℕ) → IsFirstByte (is_byte 10) bytes r
    → IfSome r (λ i. (i < length bytes) × (bytes ≡ take i bytes ++ 10 ∷ drop (i + 1) bytes) × All (λ x. x ≢ 10) (take i bytes))
found bytes None first = tt
found bytes (Some i) first =
    let next : suc i ≡ i + 1 = omega arith in (
      first.0.high,
      parted bytes i first.0.high (feed_is _ first.1) ∙ ap (λ n. take i bytes ++ 10 ∷ drop n bytes) next,
      plain bytes i (omega (arith, first.0.high)) first.0.before,
    )

pub none : (bytes : List ℕ) (r : Option ℕ) → IsFirstByte (is_byte 10) bytes r → IfNone r (All (λ x. x ≢ 10) bytes)
none bytes None nowhere = plain_all bytes nowhere
none bytes (Some i) first = tt
