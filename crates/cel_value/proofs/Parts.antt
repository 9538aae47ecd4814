-- Parts of durations, one after the other.
use Rattle.std.proofs.Common.{◌≡◌, ℕ, zero, suc, ◌+◌, ◌-◌, ◌*◌, ◌^◌, ◌<◌, ◌≤◌, ◌⊎◌, nat_le, nat_eq, ◌&&◌, cond, ◌/◌, Bool, true}
use Rattle.std.proofs.Common.{false, None, Some, Option, List, [], ◌∷◌, length, drop, take, length-drop, refl, ap, arith, inl, inr}
use Rattle.std.proofs.lemmas.Bool.{cases_Bool, leb-true}
use Rattle.std.proofs.lemmas.List.Sums.{prefix_len-le-length}
use Rattle.std.specs.Char.{is_ascii_digit}
use Rattle.std.specs.Str.Parse.{digits_value}
use Rattle.std.specs.Option.{option_map, option_and_then}
use Rattle.cel_value.specs.Reading.{number_of, billionths, digits_in, fraction_spelled, letters_in, unit_of, of_unit, part_spelled}
use Rattle.cel_value.specs.Reading.{parts_spelled}
use Rattle.cel_value.specs.Views.{capped, capped_part}

pub option_cases : {A : Type 0} (o : Option A) → (o ≡ None) ⊎ ((x : A) × (o ≡ Some x))
option_cases None = inl refl
option_cases (Some x) = inr (x, refl)

drop_shorter : (k : ℕ) (bs : List ℕ) → length (drop k bs) ≤ length bs
drop_shorter k bs = omega (arith, length-drop k bs)

-- what follows a fraction is no longer than what began with it
fraction_no_longer : (bs : List ℕ) (f : ℕ × List ℕ) → fraction_spelled bs ≡ Some f → length f.1 ≤ length bs
fraction_no_longer [] f e = let same_rest : [] ≡ f.1 = cc in rw (← same_rest) (omega arith)
fraction_no_longer (c ∷ bs) f e = elim (cases_Bool (nat_eq c 46)) [
  | inr t ↦ let same_rest : c ∷ bs ≡ f.1 = (let h = rw t at e in cc) in rw (← same_rest) (omega arith)
  | inl t ↦ pointed (rw t at e)
]
  where
    numbered : (k : ℕ) (o : Option ℕ) → option_map (λ n. (n * 10 ^ (9 - k), drop k bs)) o ≡ Some f → length f.1 ≤ length (c ∷ bs)
    numbered k None h = absurd cc
    numbered k (Some n) h = let same_rest : drop k bs ≡ f.1 = cc in rw (← same_rest) (omega (arith, drop_shorter k bs))

    tested : (b : Bool) (k : ℕ) → cond b (option_map (λ n. (n * 10 ^ (9 - k), drop k bs)) (number_of (take k bs))) None ≡ Some f
        → length f.1 ≤ length (c ∷ bs)
    tested true k h = numbered k (number_of (take k bs)) h
    tested false k h = absurd cc

    pointed : billionths (digits_in bs) bs ≡ Some f → length f.1 ≤ length (c ∷ bs)
    pointed h = tested (nat_le 1 (digits_in bs) && nat_le (digits_in bs) 9) (digits_in bs) h

-- what follows a part is shorter than what began with it
pub part_shorter : (bs : List ℕ) (p : ℕ × List ℕ) → part_spelled bs ≡ Some p → length p.1 < length bs
part_shorter bs p e = tested (nat_le 1 (digits_in bs)) refl e
  where
    k : ℕ
    k = digits_in bs

    united : (w : ℕ) (f : ℕ × List ℕ) (o : Option ℕ)
        → option_map (λ u. (w * u + f.0 * u / 1_000_000_000, drop (letters_in f.1) f.1)) o ≡ Some p → length p.1 ≤ length f.1
    united w f None h = absurd cc
    united w f (Some u) h = let same_rest : drop (letters_in f.1) f.1 ≡ p.1 = cc in rw (← same_rest) (drop_shorter (letters_in f.1) f.1)

    fractioned : (w : ℕ) (l : List ℕ) (o : Option (ℕ × List ℕ)) → fraction_spelled l ≡ o → option_and_then (of_unit w) o ≡ Some p
        → length p.1 ≤ length l
    fractioned w l None g h = absurd cc
    fractioned w l (Some f) g h = omega (arith, united w f (unit_of (take (letters_in f.1) f.1)) h, fraction_no_longer l f g)

    whole : ℕ
    whole = digits_value 10 (take (digits_in bs) bs)

    behind : List ℕ
    behind = drop (digits_in bs) bs

    tested : (b : Bool) → nat_le 1 (digits_in bs) ≡ b → cond b (option_and_then (of_unit whole) (fraction_spelled behind)) None ≡ Some p
        → length p.1 < length bs
    tested false t h = absurd cc
    tested true t h =
        let less = fractioned whole behind (fraction_spelled behind) refl h in
        let one = leb-true 1 (digits_in bs) t in
        omega (arith, length-drop (digits_in bs) bs, prefix_len-le-length is_ascii_digit bs)

pub same : (k j : ℕ) (bs : List ℕ) → length bs ≤ k → length bs ≤ j → parts_spelled k bs ≡ parts_spelled j bs
unfolding parts_spelled
same zero zero [] h l = refl
same zero (suc j) [] h l = refl
same (suc k) zero [] h l = refl
same (suc k) (suc j) [] h l = refl
same zero j (c ∷ bs) h l = absurd (omega arith)
same (suc k) zero (c ∷ bs) h l = absurd (omega arith)
same (suc k) (suc j) (c ∷ bs) h l = elim (option_cases (part_spelled (c ∷ bs))) [
  | inl e ↦ rw e refl
  | inr e ↦
      let less = part_shorter (c ∷ bs) e.0 e.1 in
      rw e.1 (ap (option_map (λ n. e.0.0 + n)) (same k j e.0.1 (omega arith) (omega arith)))
]

pub parts_none : (bs : List ℕ) → 0 < length bs → part_spelled bs ≡ None → parts_spelled (length bs) bs ≡ None
unfolding parts_spelled
parts_none [] h e = absurd (omega arith)
parts_none (c ∷ bs) h e = more (length (c ∷ bs)) (omega arith)
  where
    more : (k : ℕ) → 1 ≤ k → parts_spelled k (c ∷ bs) ≡ None
    more zero l = absurd (omega arith)
    more (suc k) l = rw e refl

pub parts_some : (bs : List ℕ) (p : ℕ × List ℕ) → part_spelled bs ≡ Some p
    → parts_spelled (length bs) bs ≡ option_map (λ n. p.0 + n) (parts_spelled (length p.1) p.1)
unfolding parts_spelled
parts_some [] p e = absurd (let l = part_shorter [] p e in omega arith)
parts_some (c ∷ bs) p e = more (length (c ∷ bs)) (part_shorter (c ∷ bs) p e)
  where
    more : (k : ℕ) → length p.1 < k → parts_spelled k (c ∷ bs) ≡ option_map (λ n. p.0 + n) (parts_spelled (length p.1) p.1)
    more zero l = absurd (omega arith)
    more (suc k) l = rw e (ap (option_map (λ n. p.0 + n)) (same k (length p.1) p.1 (omega arith) (omega arith)))

pub capped_sum : (total n m : ℕ) → capped (capped (total + capped n) + m) ≡ capped (total + (n + m))
capped_sum total n m = omega arith

abbrev number_read : Option (ℕ × List ℕ) → ℕ
number_read None = 0
number_read (Some p) = p.0

abbrev rest_read : Option (ℕ × List ℕ) → List ℕ
rest_read None = []
rest_read (Some p) = p.1

-- what a total and the parts that are left add up to, one part on
pub parts_step : (bs : List ℕ) (total n : ℕ) (rest : List ℕ) → capped_part (part_spelled bs) ≡ Some (n, rest)
    → option_map (λ m. capped (capped (total + n) + m)) (parts_spelled (length rest) rest)
    ≡ option_map (λ m. capped (total + m)) (parts_spelled (length bs) bs)
parts_step bs total n rest e = of_part (part_spelled bs) refl e
  where
    by : (n : ℕ) (o : Option ℕ)
        → option_map (λ m. capped (capped (total + capped n) + m)) o ≡ option_map (λ m. capped (total + m)) (option_map (λ m. n + m) o)
    by n None = refl
    by n (Some m) = ap Some (capped_sum total n m)

    of_part : (o : Option (ℕ × List ℕ)) → part_spelled bs ≡ o → capped_part o ≡ Some (n, rest)
        → option_map (λ m. capped (capped (total + n) + m)) (parts_spelled (length rest) rest)
        ≡ option_map (λ m. capped (total + m)) (parts_spelled (length bs) bs)
    of_part None g h = absurd cc
    of_part (Some p) g h =
        let same_n : capped p.0 ≡ n = ap number_read h in
        let same_rest : p.1 ≡ rest = ap rest_read h in
        rw (parts_some bs p g, ← same_n, ← same_rest) (by p.0 (parts_spelled (length p.1) p.1))

pub no_part : (bs : List ℕ) → capped_part (part_spelled bs) ≡ None → part_spelled bs ≡ None
no_part bs e = by (part_spelled bs) e
  where
    by : (o : Option (ℕ × List ℕ)) → capped_part o ≡ None → o ≡ None
    by None h = refl
    by (Some p) h = absurd cc

-- no parts are left
pub parts_end : (bs : List ℕ) (total : ℕ) → length bs ≡ 0 → total < 2 ^ 64
    → option_map (λ m. capped (total + m)) (parts_spelled (length bs) bs) ≡ Some total
unfolding parts_spelled
parts_end [] total h l = ap Some (omega arith)
parts_end (c ∷ bs) total h l = absurd (omega arith)
