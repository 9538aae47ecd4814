-- Texts have one order by their bytes and by their code points.
use Rattle.std.proofs.Common.{◌≡◌, ℕ, ◌+◌, ◌/◌, ◌%◌, ◌<◌, ◌≤◌, Bool, true, false, cond, List, [], ◌∷◌, ◌++◌, ltb, refl, sym, ap, ◌∙◌, subst}
use Rattle.std.proofs.Common.{arith, inl, inr, append_assoc}
use Rattle.std.proofs.lemmas.Bool.{cases_lt, lt-ltb, le-ltb}
use Rattle.std.proofs.lemmas.Bool.Decides.{nat_tests}
use Rattle.std.proofs.lemmas.Str.{encodes-chars}
use Rattle.std.proofs.Math.Utf8.{encode, encodes}
use Rattle.std.proofs.lemmas.Cmp.{nat_cmp_total}
use Rattle.std.specs.Cmp.Lexicographic.{slice_cmp, nat_list_cmp_total}
use Rattle.std.specs.Ordering.{nat_cmp, ordering_then, ordering_reverse}
use Rattle.std.specs.declared.cmp.Ordering.{Ordering}
use Rattle.std.specs.declared.cmp.Ordering.TheVariants.{Less, Equal, Greater}
use Rattle.std.specs.Str.{chars, IsUtf8}

first_less : (x y : ℕ) → x < y → nat_cmp x y ≡ Less
first_less x y h = rw (lt-ltb x y h)

both_same : (x : ℕ) → nat_cmp x x ≡ Equal
both_same x = grind (arith, nat_tests)

-- whatever follows
Below : List ℕ → List ℕ → Type 0
Below xs ys = (r t : List ℕ) → slice_cmp nat_cmp (xs ++ r) (ys ++ t) ≡ Less

at_first : (x y : ℕ) (xs ys : List ℕ) → x < y → Below (x ∷ xs) (y ∷ ys)
unfolding Below
at_first x y xs ys h r t = ap (λ o. ordering_then o (slice_cmp nat_cmp (xs ++ r) (ys ++ t))) (first_less x y h)

further : (x y : ℕ) (xs ys : List ℕ) → x ≡ y → Below xs ys → Below (x ∷ xs) (y ∷ ys)
unfolding Below
further x y xs ys e h r t =
    ap (λ z. ordering_then (nat_cmp x z) (slice_cmp nat_cmp (xs ++ r) (ys ++ t))) (sym e)
    ∙ ap (λ o. ordering_then o (slice_cmp nat_cmp (xs ++ r) (ys ++ t))) (both_same x) ∙ h r t

-- the bytes of a character, by its size
one : (c : ℕ) → c < 128 → encode c ≡ c ∷ []
unfolding encode
one c h = rw (lt-ltb c 128 h)

two : (c : ℕ) → 128 ≤ c → c < 2048 → encode c ≡ (192 + c / 64) ∷ (128 + c % 64) ∷ []
unfolding encode
two c l h = rw (le-ltb c 128 l, lt-ltb c 2048 h)

three : (c : ℕ) → 2048 ≤ c → c < 65536 → encode c ≡ (224 + c / 4096) ∷ (128 + c / 64 % 64) ∷ (128 + c % 64) ∷ []
unfolding encode
three c l h = rw (le-ltb c 128 (omega arith), le-ltb c 2048 l, lt-ltb c 65536 h)

four : (c : ℕ) → 65536 ≤ c → encode c ≡ (240 + c / 262144) ∷ (128 + c / 4096 % 64) ∷ (128 + c / 64 % 64) ∷ (128 + c % 64) ∷ []
unfolding encode
four c l = rw (le-ltb c 128 (omega arith), le-ltb c 2048 (omega arith), le-ltb c 65536 l)

-- numbers by their digits of six bits
last : (c d : ℕ) → c < d → d / 64 ≤ c / 64 → (c / 64 ≡ d / 64) × (c % 64 < d % 64)
last c d h l = (omega arith, omega arith)

twos : (c d : ℕ) → c < d → Below ((192 + c / 64) ∷ (128 + c % 64) ∷ []) ((192 + d / 64) ∷ (128 + d % 64) ∷ [])
twos c d h = elim (cases_lt (c / 64) (d / 64)) [
  | inl l ↦ at_first _ _ _ _ (omega arith)
  | inr l ↦ let e = last c d h l in further _ _ _ _ (omega arith) (at_first _ _ _ _ (omega arith))
]

threes : (c d : ℕ) → c < d
    → Below ((224 + c / 4096) ∷ (128 + c / 64 % 64) ∷ (128 + c % 64) ∷ []) ((224 + d / 4096) ∷ (128 + d / 64 % 64) ∷ (128 + d % 64) ∷ [])
threes c d h = elim (cases_lt (c / 64) (d / 64)) [
  | inl l ↦ elim (cases_lt (c / 4096) (d / 4096)) [
    | inl m ↦ at_first _ _ _ _ (omega arith)
    | inr m ↦ further _ _ _ _ (omega arith) (at_first _ _ _ _ (omega arith))
  ]
  | inr l ↦ let e = last c d h l in further _ _ _ _ (omega arith) (further _ _ _ _ (omega arith) (at_first _ _ _ _ (omega arith)))
]

fours : (c d : ℕ) → c < d
    → Below ((240 + c / 262144) ∷ (128 + c / 4096 % 64) ∷ (128 + c / 64 % 64) ∷ (128 + c % 64) ∷ [])
    ((240 + d / 262144) ∷ (128 + d / 4096 % 64) ∷ (128 + d / 64 % 64) ∷ (128 + d % 64) ∷ [])
fours c d h = elim (cases_lt (c / 4096) (d / 4096)) [
  | inl l ↦ elim (cases_lt (c / 262144) (d / 262144)) [
    | inl m ↦ at_first _ _ _ _ (omega arith)
    | inr m ↦ further _ _ _ _ (omega arith) (at_first _ _ _ _ (omega arith))
  ]
  | inr l ↦ elim (cases_lt (c / 64) (d / 64)) [
    | inl m ↦ further _ _ _ _ (omega arith) (further _ _ _ _ (omega arith) (at_first _ _ _ _ (omega arith)))
    | inr m ↦ let e = last c d h m in
        further _ _ _ _ (omega arith) (further _ _ _ _ (omega arith) (further _ _ _ _ (omega arith) (at_first _ _ _ _ (omega arith))))
  ]
]

along : (xs ys us vs : List ℕ) → us ≡ xs → vs ≡ ys → Below xs ys → Below us vs
along xs ys us vs e f b =
    subst (λ (zs : List ℕ). Below us zs) (sym f) (subst (λ (zs : List ℕ). Below zs ys) (sym e) b)

-- a lesser character's bytes come before a greater one's
below : (c d : ℕ) → c < d → Below (encode c) (encode d)
below c d h = elim (cases_lt c 128) [
  | inl a ↦ elim (cases_lt d 128) [
    | inl b ↦ along _ _ _ _ (one c a) (one d b) (at_first _ _ _ _ h)
    | inr b ↦ elim (cases_lt d 2048) [
      | inl k ↦ along _ _ _ _ (one c a) (two d b k) (at_first _ _ _ _ (omega arith))
      | inr k ↦ elim (cases_lt d 65536) [
        | inl m ↦ along _ _ _ _ (one c a) (three d k m) (at_first _ _ _ _ (omega arith))
        | inr m ↦ along _ _ _ _ (one c a) (four d m) (at_first _ _ _ _ (omega arith))
      ]
    ]
  ]
  | inr a ↦ elim (cases_lt c 2048) [
    | inl b ↦ elim (cases_lt d 2048) [
      | inl k ↦ along _ _ _ _ (two c a b) (two d (omega arith) k) (twos c d h)
      | inr k ↦ elim (cases_lt d 65536) [
        | inl m ↦ along _ _ _ _ (two c a b) (three d k m) (at_first _ _ _ _ (omega arith))
        | inr m ↦ along _ _ _ _ (two c a b) (four d m) (at_first _ _ _ _ (omega arith))
      ]
    ]
    | inr b ↦ elim (cases_lt c 65536) [
      | inl k ↦ elim (cases_lt d 65536) [
        | inl m ↦ along _ _ _ _ (three c b k) (three d (omega arith) m) (threes c d h)
        | inr m ↦ along _ _ _ _ (three c b k) (four d m) (at_first _ _ _ _ (omega arith))
      ]
      | inr k ↦ along _ _ _ _ (four c k) (four d (omega arith)) (fours c d h)
    ]
  ]
]

less_first : (c d : ℕ) (r t : List ℕ) → c < d → slice_cmp nat_cmp (encode c ++ r) (encode d ++ t) ≡ Less
unfolding Below
less_first c d r t h = below c d h r t

greater_first : (c d : ℕ) (r t : List ℕ) → d < c → slice_cmp nat_cmp (encode c ++ r) (encode d ++ t) ≡ Greater
greater_first c d r t h =
    nat_list_cmp_total.antisymm (encode c ++ r) (encode d ++ t) ∙ ap ordering_reverse (less_first d c t r h)

same_first : (xs r t : List ℕ) → slice_cmp nat_cmp (xs ++ r) (xs ++ t) ≡ slice_cmp nat_cmp r t
same_first [] r t = refl
same_first (x ∷ xs) r t =
    ap (λ o. ordering_then o (slice_cmp nat_cmp (xs ++ r) (xs ++ t))) (both_same x) ∙ same_first xs r t

nonempty_less : (c : ℕ) (r : List ℕ) → slice_cmp nat_cmp [] (encode c ++ r) ≡ Less
nonempty_less c r = elim (cases_lt c 128) [
  | inl a ↦ rw (one c a)
  | inr a ↦ elim (cases_lt c 2048) [
    | inl b ↦ rw (two c a b)
    | inr b ↦ elim (cases_lt c 65536) [
      | inl k ↦ rw (three c b k)
      | inr k ↦ rw (four c k)
    ]
  ]
]

pub encodes_order : (cs ds : List ℕ) → slice_cmp nat_cmp (encodes cs) (encodes ds) ≡ slice_cmp nat_cmp cs ds
encodes_order [] [] = refl
encodes_order [] (d ∷ ds) = nonempty_less d (encodes ds)
encodes_order (c ∷ cs) [] =
    nat_list_cmp_total.antisymm (encode c ++ encodes cs) [] ∙ ap ordering_reverse (nonempty_less c (encodes cs))
encodes_order (c ∷ cs) (d ∷ ds) = elim (cases_lt c d) [
  | inl h ↦ less_first c d (encodes cs) (encodes ds) h ∙ sym (ap (λ o. ordering_then o (slice_cmp nat_cmp cs ds)) (first_less c d h))
  | inr h ↦ elim (cases_lt d c) [
    | inl k ↦ greater_first c d (encodes cs) (encodes ds) k
        ∙ sym (ap (λ o. ordering_then o (slice_cmp nat_cmp cs ds)) (nat_cmp_total.antisymm c d ∙ ap ordering_reverse (first_less d c k)))
    | inr k ↦ let e : c ≡ d = omega arith in
        ap (λ x. slice_cmp nat_cmp (encode x ++ encodes cs) (encode d ++ encodes ds)) e ∙ same_first (encode d) (encodes cs) (encodes ds)
        ∙ encodes_order cs ds ∙ sym (ap (λ x. ordering_then (nat_cmp x d) (slice_cmp nat_cmp cs ds)) e
        ∙ ap (λ o. ordering_then o (slice_cmp nat_cmp cs ds)) (both_same d))
  ]
]

-- the bytes of two texts are in the order of their code points
pub chars_order : (a b : List ℕ) → IsUtf8 a → IsUtf8 b → slice_cmp nat_cmp a b ≡ slice_cmp nat_cmp (chars a) (chars b)
chars_order a b of_a of_b =
    ap (λ l. slice_cmp nat_cmp l b) (sym (encodes-chars a of_a)) ∙ ap (slice_cmp nat_cmp (encodes (chars a))) (sym (encodes-chars b of_b))
    ∙ encodes_order (chars a) (chars b)
