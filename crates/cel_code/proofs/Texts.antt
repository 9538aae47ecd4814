-- Bytes that are a text, as a test.
use Rattle.std.proofs.Common.{◌≡◌, ℕ, Bool, true, false, List, refl}
use Rattle.std.specs.Str.{IsUtf8, is_utf8}
use Rattle.std.proofs.lemmas.Str.{IsUtf8-from_is_utf8, is_utf8-from_IsUtf8}

pub is_seen : (bytes : List ℕ) → IsUtf8 bytes → is_utf8 bytes ≡ true
is_seen bytes h = is_utf8-from_IsUtf8 bytes h

refuted : (b : Bool) → (b ≡ true → ⊥) → b ≡ false
refuted true h = absurd (h refl)
refuted false h = refl

pub is_none : (bytes : List ℕ) → ¬ (IsUtf8 bytes) → is_utf8 bytes ≡ false
is_none bytes h = refuted (is_utf8 bytes) (λ e. h (IsUtf8-from_is_utf8 bytes e))
