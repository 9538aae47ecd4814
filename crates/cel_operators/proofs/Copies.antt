-- Answers that are copied.
use Rattle.std.proofs.Common.{◌≡◌, ℕ, List, [], ◌∷◌, map, Bool, refl}
use Rattle.std.specs.Prelude.{String, string_bytes}
use Rattle.std.specs.BTreeMap.{BTreeMap}
use Rattle.std.specs.List.{AllZip}
use Rattle.cel_operators.specs.PatternAnswers.{told_by}

texts_same : {Y : Type 0} (xs ys : List (String Y)) → AllZip (λ s t. string_bytes t ≡ string_bytes s) xs ys
    → map string_bytes ys ≡ map string_bytes xs
texts_same [] [] h = refl
texts_same [] (y ∷ ys) h = absurd h
texts_same (x ∷ xs) [] h = absurd h
texts_same (x ∷ xs) (y ∷ ys) h = λ i. h.0 i ∷ texts_same xs ys h.1 i

answers_same : {Y : Type 0} (es fs : List (String Y × Bool))
    → AllZip (λ p q. (string_bytes q.0 ≡ string_bytes p.0) × (q.1 ≡ p.1)) es fs
    → map {B = List ℕ × Bool} (λ e. (string_bytes e.0, e.1)) fs ≡ map {B = List ℕ × Bool} (λ e. (string_bytes e.0, e.1)) es
answers_same [] [] h = refl
answers_same [] (y ∷ ys) h = absurd h
answers_same (x ∷ xs) [] h = absurd h
answers_same (x ∷ xs) (y ∷ ys) h = λ i. (h.0.0 i, h.0.1 i) ∷ answers_same xs ys h.1 i

-- they say the same
pub copied_told : {Y : Type 0} (old new : BTreeMap (String Y) Bool) (before after : List (String Y))
    → AllZip (λ p q. (string_bytes q.0 ≡ string_bytes p.0) × (q.1 ≡ p.1)) old.entries new.entries
    → AllZip (λ s t. string_bytes t ≡ string_bytes s) before after → told_by new after ≡ told_by old before
copied_told old new before after answers refused =
    λ i. record { answers = answers_same old.entries new.entries answers i; refused = texts_same before after refused i }
