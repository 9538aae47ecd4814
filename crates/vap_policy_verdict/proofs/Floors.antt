-- Where a text is cut: at the greatest place of a character's start.
use Rattle.std.proofs.Common.{◌≡◌, ℕ, zero, suc, ◌<◌, ◌≤◌, Bool, true, false, List, length, take, refl, sym, subst, ap, arith}
use Rattle.std.proofs.Common.{nat_lt, slice_index, if◌then◌else◌, take_all, length-take-le, ltb-true, ltb-false}
use Rattle.std.specs.Str.{IsCharBoundary}
use Rattle.std.specs.Fmt.{is_char_start}
use Rattle.std.specs.Fmt.Cut.{floor_char_boundary}
use Rattle.vap_policy_verdict.specs.Cut.{cut_text, IsLongestCut}

-- ---- the place that is found is the definition's

starts_at : (x : ℕ) → (128 ≤ x → 192 ≤ x) → is_char_start x ≡ true
starts_at x h = grind arith

begins_at : (x : ℕ) → is_char_start x ≡ true → 128 ≤ x → 192 ≤ x
begins_at x e p = grind arith

floor_step : (bs : List ℕ) (n r : ℕ) (t : Bool) → is_char_start (slice_index bs (suc n)) ≡ t → suc n < length bs → r ≤ suc n
    → IsCharBoundary bs r → ((i : ℕ) → r < i → i ≤ suc n → IsCharBoundary bs i → ⊥) → (r ≤ n → r ≡ floor_char_boundary bs n)
    → r ≡ (if t then suc n else floor_char_boundary bs n)
floor_step bs n r true s lt le b near below =
    let f : r < suc n → ⊥ = λ p. near (suc n) p (omega arith) (omega arith, λ q k. begins_at (slice_index bs (suc n)) s k) in
    omega arith
floor_step bs n r false s lt le b near below =
    let f : r ≡ suc n → ⊥ =
    λ e. (let m = subst (IsCharBoundary bs) e b in let g = starts_at (slice_index bs (suc n)) (m.1 lt) in absurd cc) in
    below (omega arith)

floor_is : (bs : List ℕ) (n r : ℕ) → n < length bs → r ≤ n → IsCharBoundary bs r
    → ((i : ℕ) → r < i → i ≤ n → IsCharBoundary bs i → ⊥) → r ≡ floor_char_boundary bs n
unfolding floor_char_boundary
floor_is bs zero r lt le b near = let z : r ≡ 0 = omega arith in z
floor_is bs (suc n) r lt le b near =
    floor_step bs n r (is_char_start (slice_index bs (suc n))) refl lt le b near
    (λ k. floor_is bs n r (omega arith) k b (λ i p q c. near i p (omega arith) c))

cut_step : (most r : ℕ) (text : List ℕ) (t : Bool) → nat_lt most (length text) ≡ t → r ≤ most → IsCharBoundary text r
    → ((i : ℕ) → r < i → i ≤ most → IsCharBoundary text i → ⊥)
    → take r text ≡ (if t then take (floor_char_boundary text most) text else text)
cut_step most r text true s le b near =
    ap (λ k. take k text) (floor_is text most r (ltb-true most (length text) s) le b near)
cut_step most r text false s le b near =
    let short : length text ≤ most = ltb-false most (length text) s in
    let all : r < length text → ⊥ = λ p. near (length text) p short (omega arith, λ q. absurd (omega (arith, q))) in
    take_all r text (omega arith)

-- the beginning up to the greatest place of a character's start is what the definition leaves
pub cut_is : (most r : ℕ) (text : List ℕ) → r ≤ most → IsCharBoundary text r
    → ((i : ℕ) → r < i → i ≤ most → IsCharBoundary text i → ⊥) → take r text ≡ cut_text most text
unfolding cut_text
cut_is most r text le b near = cut_step most r text (nat_lt most (length text)) refl le b near

-- and it is the longest
pub longest_at : (most r : ℕ) (text : List ℕ) → r ≤ most → IsCharBoundary text r
    → ((i : ℕ) → r < i → i ≤ most → IsCharBoundary text i → ⊥) → IsLongestCut most text (take r text)
longest_at most r text le b near =
    let same : length (take r text) ≡ r = length-take-le r text b.0 in
    record {
      beginning = ap (λ n. take n text) (sym same);
      within = omega (arith, same, le);
      whole = subst (IsCharBoundary text) (sym same) b;
      longest = λ place p q h. near place (omega (arith, same, p)) q h;
    }
