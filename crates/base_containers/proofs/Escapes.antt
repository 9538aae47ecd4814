-- What the content of a string stands for is in UTF-8, if the text that it is of is.
use Rattle.std.proofs.Common.{zero, suc}
use Rattle.std.proofs.Common.{◌≡◌, ℕ, ◌+◌, ◌-◌, ◌*◌, ◌<◌, ◌≤◌, Bool, true, false, cond, ◌&&◌, ◌||◌, ◌==◌, nat_lt, nat_le, List}
use Rattle.std.proofs.Common.{[], ◌∷◌, ◌++◌, length, get_or, drop, append_assoc, append-nil, length-append, Option, Some}
use Rattle.std.proofs.Common.{None, option_and_then, refl, sym}
use Rattle.std.proofs.Common.{ap, ◌∙◌, subst, arith}
use Rattle.std.proofs.lemmas.Bool.{and_parts, ltb-true, ltb-false, leb-true, eqb-true, lt-ltb, le-ltb, le-leb}
use Rattle.std.proofs.lemmas.List.{take_at, drop_at}
use Rattle.std.proofs.lemmas.Str.{IsUtf8-append, IsUtf8-encode, IsUtf8-take, IsUtf8-drop, IsUtf8-from_ascii}
use Rattle.std.proofs.lemmas.Str.{IsCharBoundary-before_ascii, IsCharBoundary-after_ascii}
use Rattle.std.specs.Char.{IsScalar, digit_value, is_digit, encode_utf8}
use Rattle.std.specs.Str.{IsUtf8}
use Rattle.json.specs.Text.{content, code_unit, short_escape, is_high_surrogate, is_low_surrogate, surrogate_pair, prepend, Within}
use Rattle.json.proofs.Found.{not_found, Some_inj}

-- ---- a text around a byte of ASCII

at : (p xs : List ℕ) (x : ℕ) → get_or (p ++ x ∷ xs) (length p) 0 ≡ x
at [] xs x = refl
at (y ∷ p) xs x = at p xs x

inside : (p xs : List ℕ) (x : ℕ) → length p < length (p ++ x ∷ xs)
inside p xs x = omega (arith, length-append p (x ∷ xs))

before : (p xs : List ℕ) (x : ℕ) → IsUtf8 (p ++ x ∷ xs) → x < 128 → IsUtf8 p
before p xs x u h =
    let low : get_or (p ++ x ∷ xs) (length p) 0 < 128 = subst (λ y. y < 128) (sym (at p xs x)) h in
    subst IsUtf8 (take_at p (x ∷ xs) (length p) refl)
    (IsUtf8-take (p ++ x ∷ xs) (length p) u (IsCharBoundary-before_ascii (p ++ x ∷ xs) (length p) (inside p xs x) low))

pub after : (p xs : List ℕ) (x : ℕ) → IsUtf8 (p ++ x ∷ xs) → x < 128 → IsUtf8 xs
after p xs x u h =
    let low : get_or (p ++ x ∷ xs) (length p) 0 < 128 = subst (λ y. y < 128) (sym (at p xs x)) h in
    let long : length (p ++ x ∷ []) ≡ length p + 1 = omega (arith, length-append p (x ∷ [])) in
    let cut : drop (length p + 1) (p ++ x ∷ xs) ≡ xs =
    ap (drop (length p + 1)) (sym (append_assoc p (x ∷ []) xs)) ∙ drop_at (p ++ x ∷ []) xs (length p + 1) long in
    subst IsUtf8 cut
    (IsUtf8-drop (p ++ x ∷ xs) (length p + 1) u (IsCharBoundary-after_ascii (p ++ x ∷ xs) (length p) u (inside p xs x) low))

one : (xs : List ℕ) (x : ℕ) → IsUtf8 (x ∷ xs) → x < 128 → IsUtf8 xs
one xs x u h = after [] xs x u h

-- ---- escapes

digit_high : (a : ℕ) → 128 ≤ a → digit_value a ≡ 36
digit_high a h = grind (arith, h)

digit_low : (a : ℕ) → is_digit a 16 ≡ true → (digit_value a < 16) × (a < 128)
digit_low a h = (ltb-true (digit_value a) 16 h, by (nat_lt a 128) refl)
  where
    by : (b : Bool) → nat_lt a 128 ≡ b → a < 128
    by true e = ltb-true a 128 e
    by false e =
        let high = digit_high a (ltb-false a 128 e) in
        let low : digit_value a < 16 = ltb-true (digit_value a) 16 h in
        let no : 36 < 16 = subst (λ n. n < 16) high low in
        absurd (omega (arith, no))

small_unit : (p q r s u : ℕ) → p < 16 → q < 16 → r < 16 → s < 16 → p * 4096 + q * 256 + r * 16 + s ≡ u → u < 65536
small_unit p q r s u a b c d e = omega (arith, a, b, c, d, e)

if_some : (t : Bool) (x u : ℕ) → cond t (Some x) None ≡ Some u → (t ≡ true) × (x ≡ u)
if_some true x u e = (refl, Some_inj x u e)
if_some false x u e = not_found u e

-- four digits are ASCII, and a unit has 16 bits
unit_bounds : (a b c d u : ℕ) → code_unit a b c d ≡ Some u → (u < 65536) × (a < 128) × (b < 128) × (c < 128) × (d < 128)
unfolding code_unit
unit_bounds a b c d u e =
    let s = if_some (is_digit a 16 && is_digit b 16 && is_digit c 16 && is_digit d 16) _ u e in
    let p = and_parts (is_digit a 16 && is_digit b 16 && is_digit c 16) (is_digit d 16) s.0 in
    let q = and_parts (is_digit a 16 && is_digit b 16) (is_digit c 16) p.0 in
    let r = and_parts (is_digit a 16) (is_digit b 16) q.0 in
    let da = digit_low a r.0 in
    let db = digit_low b r.1 in
    let dc = digit_low c q.1 in
    let dd = digit_low d p.1 in
    (small_unit (digit_value a) (digit_value b) (digit_value c) (digit_value d) u da.0 db.0 dc.0 dd.0 s.1, da.1, db.1, dc.1, dd.1)

low_scalar : (c : ℕ) → c < 55296 → IsScalar c
low_scalar c h = ap (λ b. cond b true (nat_le 57344 c && nat_lt c 1114112)) (lt-ltb c 55296 h)

high_scalar : (c : ℕ) → 57344 ≤ c → c < 1114112 → IsScalar c
high_scalar c h k =
    ap (λ b. cond b true (nat_le 57344 c && nat_lt c 1114112)) (le-ltb c 55296 (omega (arith, h)))
    ∙ ap (λ b. b && nat_lt c 1114112) (le-leb 57344 c h) ∙ lt-ltb c 1114112 k

unit_scalar : (u : ℕ) → u < 65536 → is_high_surrogate u ≡ false → is_low_surrogate u ≡ false → IsScalar u
unit_scalar u bound high low = by (nat_lt u 55296) refl
  where
    by : (b : Bool) → nat_lt u 55296 ≡ b → IsScalar u
    by true e = low_scalar u (ltb-true u 55296 e)
    by false e =
        let from = ltb-false u 55296 e in
        let no_high = ltb-false u 56320 (ap (λ b. b && nat_lt u 56320) (sym (le-leb 55296 u from)) ∙ high) in
        let no_low = ltb-false u 57344 (ap (λ b. b && nat_lt u 57344) (sym (le-leb 56320 u no_high)) ∙ low) in
        high_scalar u no_low (omega (arith, bound))

pair_scalar : (h l : ℕ) → is_high_surrogate h ≡ true → is_low_surrogate l ≡ true → IsScalar (surrogate_pair h l)
pair_scalar h l i k =
    let p = and_parts (nat_le 55296 h) (nat_lt h 56320) i in
    let q = and_parts (nat_le 56320 l) (nat_lt l 57344) k in
    let a = leb-true 55296 h p.0 in
    let b = ltb-true h 56320 p.1 in
    let c = leb-true 56320 l q.0 in
    let d = ltb-true l 57344 q.1 in
    high_scalar (surrogate_pair h l) (omega (arith, a, b, c, d)) (omega (arith, a, b, c, d))

-- what a backslash is before, and what it stands for

escape_of : (x k v c : ℕ) (more : Option ℕ) (b : Bool) → (x == k) ≡ b → k < 128 → v < 128 → (more ≡ Some c → (x < 128) × (c < 128))
    → cond b (Some v) more ≡ Some c → (x < 128) × (c < 128)
escape_of x k v c more true is h i rest e = (omega (arith, eqb-true x k is, h), omega (arith, Some_inj v c e, i))
escape_of x k v c more false is h i rest e = rest e

escape_same : (x c : ℕ) (more : Option ℕ) (a b d : Bool) → (x == 34) ≡ a → (x == 92) ≡ b → (x == 47) ≡ d
    → (more ≡ Some c → (x < 128) × (c < 128)) → cond (a || b || d) (Some x) more ≡ Some c → (x < 128) × (c < 128)
escape_same x c more true b d i j k rest e = let is = eqb-true x 34 i in (omega (arith, is), omega (arith, is, Some_inj x c e))
escape_same x c more false true d i j k rest e = let is = eqb-true x 92 j in (omega (arith, is), omega (arith, is, Some_inj x c e))
escape_same x c more false false true i j k rest e = let is = eqb-true x 47 k in (omega (arith, is), omega (arith, is, Some_inj x c e))
escape_same x c more false false false i j k rest e = rest e

short_low : (x c : ℕ) → short_escape x ≡ Some c → (x < 128) × (c < 128)
unfolding short_escape
short_low x c e =
    escape_same x c _ _ _ _ refl refl refl
    (λ e. escape_of x 98 8 c _ _ refl (omega arith) (omega arith)
    (λ e. escape_of x 102 12 c _ _ refl (omega arith) (omega arith)
    (λ e. escape_of x 110 10 c _ _ refl (omega arith) (omega arith)
    (λ e. escape_of x 114 13 c _ _ refl (omega arith) (omega arith)
    (λ e. escape_of x 116 9 c None _ refl (omega arith) (omega arith) (λ e. not_found c e) e) e) e) e) e) e

-- ---- the content of a string

prepended : (a : List ℕ) (o : Option (List ℕ)) (r : List ℕ) → prepend a o ≡ Some r → (t : List ℕ) × (o ≡ Some t) × (a ++ t ≡ r)
prepended a None r e = not_found r e
prepended a (Some t) r e = (t, refl, Some_inj (a ++ t) r e)

plain_step : (p xs : List ℕ) (x : ℕ) (r : List ℕ) (escaped rest : Option (List ℕ)) → IsUtf8 (p ++ x ∷ xs)
    → ((t : List ℕ) → IsUtf8 xs → escaped ≡ Some t → IsUtf8 t)
    → ((t : List ℕ) → IsUtf8 ((p ++ x ∷ []) ++ xs) → rest ≡ Some t → IsUtf8 ((p ++ x ∷ []) ++ t))
    → (ends slash low : Bool) → (x == 34) ≡ ends → (x == 92) ≡ slash
    → cond ends (Some []) (cond slash escaped (cond low None (prepend (x ∷ []) rest))) ≡ Some r → IsUtf8 (p ++ r)
plain_step p xs x r escaped rest u f g true slash low i j e =
    let front = before p xs x u (omega (arith, eqb-true x 34 i)) in
    subst (λ t. IsUtf8 (p ++ t)) (Some_inj [] r e) (subst IsUtf8 (sym (append-nil p)) front)
plain_step p xs x r escaped rest u f g false true low i j e =
    let ascii : x < 128 = omega (arith, eqb-true x 92 j) in
    IsUtf8-append p r (before p xs x u ascii) (f r (after p xs x u ascii) e)
plain_step p xs x r escaped rest u f g false false true i j e = not_found r e
plain_step p xs x r escaped rest u f g false false false i j e =
    let s = prepended (x ∷ []) rest r e in
    let more = g s.0 (subst IsUtf8 (sym (append_assoc p (x ∷ []) xs)) u) s.1 in
    subst (λ t. IsUtf8 (p ++ t)) s.2 (subst IsUtf8 (append_assoc p (x ∷ []) s.0) more)

escape_step : (xs : List ℕ) (x : ℕ) (r : List ℕ) (unicode rest : Option (List ℕ)) → IsUtf8 (x ∷ xs)
    → ((t : List ℕ) → IsUtf8 xs → unicode ≡ Some t → IsUtf8 t) → ((t : List ℕ) → IsUtf8 xs → rest ≡ Some t → IsUtf8 t)
    → (b : Bool) (o : Option ℕ) → (x == 117) ≡ b → short_escape x ≡ o
    → cond b unicode (option_and_then (λ c. prepend (c ∷ []) rest) o) ≡ Some r → IsUtf8 r
escape_step xs x r unicode rest u f g true o i j e = f r (one xs x u (omega (arith, eqb-true x 117 i))) e
escape_step xs x r unicode rest u f g false None i j e = not_found r e
escape_step xs x r unicode rest u f g false (Some c) i j e =
    let low = short_low x c j in
    let s = prepended (c ∷ []) rest r e in
    let short = IsUtf8-from_ascii (c ∷ []) (only c low.1) in
    subst IsUtf8 s.2 (IsUtf8-append (c ∷ []) s.0 short (g s.0 (one xs x u low.0) s.1))
  where
    only : (c : ℕ) → c < 128 → (i : ℕ) → get_or (c ∷ []) i 0 < 128
    only c h zero = h
    only c h (suc i) = omega arith

unit_step : (v : ℕ) (r : List ℕ) (pair rest : Option (List ℕ)) → v < 65536 → (is_high_surrogate v ≡ true → pair ≡ Some r → IsUtf8 r)
    → ((t : List ℕ) → rest ≡ Some t → IsUtf8 t) → (h l : Bool) → is_high_surrogate v ≡ h → is_low_surrogate v ≡ l
    → cond h pair (cond l None (prepend (encode_utf8 v) rest)) ≡ Some r → IsUtf8 r
unit_step v r pair rest bound f g true l i j e = f i e
unit_step v r pair rest bound f g false true i j e = not_found r e
unit_step v r pair rest bound f g false false i j e =
    let s = prepended (encode_utf8 v) rest r e in
    subst IsUtf8 s.2 (IsUtf8-append (encode_utf8 v) s.0 (IsUtf8-encode v (unit_scalar v bound i j)) (g s.0 s.1))

four : (a b c d : ℕ) (xs : List ℕ) → IsUtf8 (a ∷ b ∷ c ∷ d ∷ xs) → a < 128 → b < 128 → c < 128 → d < 128 → IsUtf8 xs
four a b c d xs u i j k l = one xs d (one (d ∷ xs) c (one (c ∷ d ∷ xs) b (one (b ∷ c ∷ d ∷ xs) a u i) j) k) l

unicode_step : (a b c d : ℕ) (xs r : List ℕ) (pair : ℕ → Option (List ℕ)) (rest : Option (List ℕ)) → IsUtf8 (a ∷ b ∷ c ∷ d ∷ xs)
    → ((v : ℕ) (t : List ℕ) → is_high_surrogate v ≡ true → IsUtf8 xs → pair v ≡ Some t → IsUtf8 t)
    → ((t : List ℕ) → IsUtf8 xs → rest ≡ Some t → IsUtf8 t) → (o : Option ℕ) → code_unit a b c d ≡ o
    → option_and_then (λ v. cond (is_high_surrogate v) (pair v) (cond (is_low_surrogate v) None (prepend (encode_utf8 v) rest))) o ≡ Some r
    → IsUtf8 r
unicode_step a b c d xs r pair rest u f g None is e = not_found r e
unicode_step a b c d xs r pair rest u f g (Some v) is e =
    let n = unit_bounds a b c d v is in
    let w = four a b c d xs u n.1 n.2 n.3 n.4 in
    unit_step v r (pair v) rest n.0 (λ i k. f v r i w k) (λ t k. g t w k) _ _ refl refl e

low_step : (h l : ℕ) (r : List ℕ) (rest : Option (List ℕ)) → is_high_surrogate h ≡ true → ((t : List ℕ) → rest ≡ Some t → IsUtf8 t)
    → (b : Bool) → is_low_surrogate l ≡ b → cond b (prepend (encode_utf8 (surrogate_pair h l)) rest) None ≡ Some r → IsUtf8 r
low_step h l r rest high g true i e =
    let c = surrogate_pair h l in
    let s = prepended (encode_utf8 c) rest r e in
    subst IsUtf8 s.2 (IsUtf8-append (encode_utf8 c) s.0 (IsUtf8-encode c (pair_scalar h l high i)) (g s.0 s.1))
low_step h l r rest high g false i e = not_found r e

pair_step : (h s w a b c d : ℕ) (xs r : List ℕ) (rest : Option (List ℕ)) → is_high_surrogate h ≡ true
    → IsUtf8 (s ∷ w ∷ a ∷ b ∷ c ∷ d ∷ xs) → ((t : List ℕ) → IsUtf8 xs → rest ≡ Some t → IsUtf8 t)
    → (both : Bool) (o : Option ℕ) → ((s == 92) && (w == 117)) ≡ both → code_unit a b c d ≡ o
    → cond both (option_and_then (λ l. cond (is_low_surrogate l) (prepend (encode_utf8 (surrogate_pair h l)) rest) None) o) None ≡ Some r
    → IsUtf8 r
pair_step h s w a b c d xs r rest high u g false o i j e = not_found r e
pair_step h s w a b c d xs r rest high u g true None i j e = not_found r e
pair_step h s w a b c d xs r rest high u g true (Some l) i j e =
    let p = and_parts (s == 92) (w == 117) i in
    let first = one (w ∷ a ∷ b ∷ c ∷ d ∷ xs) s u (omega (arith, eqb-true s 92 p.0)) in
    let second = one (a ∷ b ∷ c ∷ d ∷ xs) w first (omega (arith, eqb-true w 117 p.1)) in
    let n = unit_bounds a b c d l j in
    let behind = four a b c d xs second n.1 n.2 n.3 n.4 in
    low_step h l r rest high (λ t k. g t behind k) _ refl e

mutual
  unfolding content

  -- after plain bytes p
  pub in_plain : (p xs r : List ℕ) → IsUtf8 (p ++ xs) → content Within.plain xs ≡ Some r → IsUtf8 (p ++ r)
  in_plain p [] r u e = not_found r e
  in_plain p (x ∷ xs) r u e =
      plain_step p xs x r (content Within.after_backslash xs) (content Within.plain xs) u (λ t v k. in_escape xs t v k)
      (λ t v k. in_plain (p ++ x ∷ []) xs t v k) _ _ _ refl refl e

  in_escape : (xs r : List ℕ) → IsUtf8 xs → content Within.after_backslash xs ≡ Some r → IsUtf8 r
  in_escape [] r u e = not_found r e
  in_escape (x ∷ xs) r u e =
      escape_step xs x r (content Within.after_u xs) (content Within.plain xs) u (λ t v k. in_unicode xs t v k)
      (λ t v k. in_plain [] xs t v k) _ _ refl refl e

  in_unicode : (xs r : List ℕ) → IsUtf8 xs → content Within.after_u xs ≡ Some r → IsUtf8 r
  in_unicode [] r u e = not_found r e
  in_unicode (a ∷ []) r u e = not_found r e
  in_unicode (a ∷ b ∷ []) r u e = not_found r e
  in_unicode (a ∷ b ∷ c ∷ []) r u e = not_found r e
  in_unicode (a ∷ b ∷ c ∷ d ∷ xs) r u e =
      unicode_step a b c d xs r (λ v. content (Within.after_high v) xs) (content Within.plain xs) u (λ v t i w k. in_pair v xs t i w k)
      (λ t v k. in_plain [] xs t v k) _ refl e

  in_pair : (h : ℕ) (xs r : List ℕ) → is_high_surrogate h ≡ true → IsUtf8 xs → content (Within.after_high h) xs ≡ Some r → IsUtf8 r
  in_pair h [] r i u e = not_found r e
  in_pair h (s ∷ []) r i u e = not_found r e
  in_pair h (s ∷ w ∷ []) r i u e = not_found r e
  in_pair h (s ∷ w ∷ a ∷ []) r i u e = not_found r e
  in_pair h (s ∷ w ∷ a ∷ b ∷ []) r i u e = not_found r e
  in_pair h (s ∷ w ∷ a ∷ b ∷ c ∷ []) r i u e = not_found r e
  in_pair h (s ∷ w ∷ a ∷ b ∷ c ∷ d ∷ xs) r i u e =
      pair_step h s w a b c d xs r (content Within.plain xs) i u (λ t v k. in_plain [] xs t v k) _ _ refl refl e
