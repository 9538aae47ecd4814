-- Where a text is cut at its first slash.
use Rattle.std.proofs.Common.{◌≡◌, ◌<◌, ◌+◌, ℕ, suc, Bool, true, false, cond, not, ◌||◌, nat_eq, List, [], ◌∷◌, take, drop, length}
use Rattle.std.proofs.Common.{Option, Some, None}
use Rattle.std.proofs.Common.{◌≢◌, MatchOption, refl, ap, ◌∙◌, arith}
use Rattle.std.proofs.lemmas.Bool.{eqb-true}
use Rattle.std.proofs.lemmas.Str.Pattern.{IsSplitOnceResult, split_once_first}
use Rattle.std.specs.Borrow.{Bor}
use Rattle.std.specs.List.{list_any, position_or_len, before_first, after_first}
use Rattle.vap_read_objects.specs.Naming.{spelled}
use Rattle.vap_match.specs.Cover.{before_slash, behind_slash}

-- whether a byte is a slash
abbrev pub is_slash : ℕ → Bool
is_slash b = nat_eq b 47

before_one : (found : Bool) (n b : ℕ) (bs : List ℕ) → take (cond (not found) (1 + n) 0) (b ∷ bs) ≡ cond found [] (b ∷ take n bs)
before_one true n b bs = refl
before_one false n b bs = let e : 1 + n ≡ suc n = omega arith in ap (λ k. take k (b ∷ bs)) e

-- before the first slash
pub before_is : (bs : List ℕ) → before_first is_slash bs ≡ before_slash bs
before_is [] = refl
before_is (b ∷ bs) =
    before_one (is_slash b) (position_or_len is_slash bs) b bs ∙ ap (λ xs. cond (is_slash b) [] (b ∷ xs)) (before_is bs)

behind_one : (found : Bool) (n b : ℕ) (bs : List ℕ)
    → drop (cond (not found) (1 + n) 0 + 1) (b ∷ bs) ≡ cond found bs (drop (n + 1) bs)
behind_one true n b bs = refl
behind_one false n b bs = let e : 1 + n + 1 ≡ suc (n + 1) = omega arith in ap (λ k. drop k (b ∷ bs)) e

-- after it
pub behind_is : (bs : List ℕ) → after_first is_slash bs ≡ behind_slash bs
behind_is [] = refl
behind_is (b ∷ bs) =
    behind_one (is_slash b) (position_or_len is_slash bs) b bs ∙ ap (λ xs. cond (is_slash b) bs xs) (behind_is bs)

none_one : (found : Bool) (n m : ℕ) → cond (not found) (1 + n) 0 ≡ suc m → (found ≡ false) × (n ≡ m)
none_one true n m e = absurd (omega (arith, e))
none_one false n m e = (refl, omega (arith, e))

-- if there is none, all is before
pub all_before : (bs : List ℕ) → position_or_len is_slash bs ≡ length bs → before_slash bs ≡ bs
all_before [] e = refl
all_before (b ∷ bs) e =
    let both = none_one (is_slash b) (position_or_len is_slash bs) (length bs) e in
    rw both.0 (ap (λ xs. b ∷ xs) (all_before bs both.1))

-- and there is none
pub no_slash : (bs : List ℕ) → position_or_len is_slash bs ≡ length bs → list_any is_slash bs ≡ false
no_slash [] e = refl
no_slash (b ∷ bs) e =
    let both = none_one (is_slash b) (position_or_len is_slash bs) (length bs) e in
    rw both.0 (no_slash bs both.1)

some_one : (found : Bool) (bs : List ℕ) → cond (not found) (1 + position_or_len is_slash bs) 0 < suc (length bs)
    → (position_or_len is_slash bs < length bs → list_any is_slash bs ≡ true) → (found || list_any is_slash bs) ≡ true
some_one true bs h rest = refl
some_one false bs h rest = rest (omega (arith, h))

-- otherwise there is one
pub some_slash : (bs : List ℕ) → position_or_len is_slash bs < length bs → list_any is_slash bs ≡ true
some_slash [] h = absurd (omega (arith, h))
some_slash (b ∷ bs) h = some_one (is_slash b) bs h (some_slash bs)

-- one cut
pub cut_at : (bs : List ℕ) (r : Option (Bor (List ℕ) × Bor (List ℕ))) → IsSplitOnceResult 47 bs r
    → MatchOption r ((list_any is_slash bs ≡ false) × (before_slash bs ≡ bs))
    (λ x. (list_any is_slash bs ≡ true) × (x.0.now ≡ before_slash bs) × (x.1.now ≡ behind_slash bs))
cut_at bs None h = let whole = split_once_first 47 bs None h (omega arith) in (no_slash bs whole, all_before bs whole)
cut_at bs (Some x) h =
    let cut = split_once_first 47 bs (Some x) h (omega arith) in
    (some_slash bs cut.0, cut.1 ∙ before_is bs, cut.2 ∙ behind_is bs)

-- what begins with no slash is spelled as it is
pub spelled_same : (bs : List ℕ) → ((rest : List ℕ) → bs ≢ 47 ∷ rest) → spelled bs ≡ bs
spelled_same [] not = refl
spelled_same (b ∷ bs) not = at (is_slash b) refl
  where
    at : (c : Bool) → is_slash b ≡ c → cond c bs (b ∷ bs) ≡ b ∷ bs
    at true e = absurd (not bs (ap (λ x. x ∷ bs) (eqb-true b 47 e)))
    at false e = refl
