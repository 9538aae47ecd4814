-- How texts begin.
use Rattle.std.proofs.Common.{◌≡◌, ℕ, zero, suc, ◌+◌, ◌-◌, ◌<◌, ◌≤◌, Bool, true, false, cond, List, []}
use Rattle.std.proofs.Common.{◌∷◌, length, take, get_or, Option, Some, None, refl, sym, ap, ◌∙◌, arith, rules}
use Rattle.std.specs.Prelude.{◌&&◌, nat_eq}
use Rattle.cel_lex.specs.declared.literal.Style.{Style}
use Rattle.cel_lex.specs.Bytes.{is_quote}
use Rattle.cel_lex.specs.Texts.{quotes, begins_with_two, style_of, is_raw_mark, raw_opening, opening}

pub not_two : (quote : ℕ) (bytes : List ℕ) (m : ℕ) → begins_with_two quote bytes ≡ false
    → begins_with_two quote (take m bytes) ≡ false
not_two quote [] zero e = refl
not_two quote [] (suc m) e = refl
not_two quote (c ∷ rest) zero e = refl
not_two quote (c ∷ []) (suc zero) e = refl
not_two quote (c ∷ []) (suc (suc m)) e = refl
not_two quote (c ∷ d ∷ rest) (suc zero) e = refl
not_two quote (c ∷ d ∷ rest) (suc (suc m)) e = e

pub are_two : (quote : ℕ) (bytes : List ℕ) (m : ℕ) → begins_with_two quote bytes ≡ true → 2 ≤ m
    → begins_with_two quote (take m bytes) ≡ true
are_two quote [] m e le = absurd cc
are_two quote (c ∷ []) m e le = absurd cc
are_two quote (c ∷ d ∷ rest) zero e le = absurd (omega arith)
are_two quote (c ∷ d ∷ rest) (suc zero) e le = absurd (omega arith)
are_two quote (c ∷ d ∷ rest) (suc (suc m)) e le = e

pub two_long : (quote : ℕ) (bytes : List ℕ) → begins_with_two quote bytes ≡ true → 2 ≤ length bytes
two_long quote [] e = absurd cc
two_long quote (c ∷ []) e = absurd cc
two_long quote (c ∷ d ∷ rest) e = omega arith

-- a style is the same at a front that has all of the opening quotes
style_by : (is_raw : Bool) (quote : ℕ) (rest : List ℕ) (m : ℕ) (b : Bool) → begins_with_two quote rest ≡ b
    → cond b 3 1 ≤ suc m → style_of is_raw quote (take m rest) ≡ style_of is_raw quote rest
style_by is_raw quote rest m true e le =
    let same = are_two quote rest m e (omega arith) ∙ sym e in
    ap (λ (b : Bool). record { quote = quote; is_triple = b; is_raw = is_raw }) same
style_by is_raw quote rest m false e le =
    let same = not_two quote rest m e ∙ sym e in ap (λ (b : Bool). record { quote = quote; is_triple = b; is_raw = is_raw }) same

style_front : (is_raw : Bool) (quote : ℕ) (rest : List ℕ) (m : ℕ) → quotes (style_of is_raw quote rest) ≤ suc m
    → style_of is_raw quote (take m rest) ≡ style_of is_raw quote rest
style_front is_raw quote rest m le = style_by is_raw quote rest m (begins_with_two quote rest) refl le

-- the opening of a text that begins with these bytes
abbrev quoted : ℕ → Style → ℕ × Style
quoted mark s = (mark + quotes s, s)

-- what follows a mark or none
record IsQuoted (mark quote : ℕ) (is_raw : Bool) (rest : List ℕ) (o : ℕ × Style) : Type 0 where
  is : (mark + quotes (style_of is_raw quote rest), style_of is_raw quote rest) ≡ o
  begins : is_quote quote ≡ true

front_quoted : (mark quote : ℕ) (is_raw : Bool) (rest : List ℕ) (m : ℕ) (o : ℕ × Style) → IsQuoted mark quote is_raw rest o
    → o.0 ≤ mark + suc m → quoted mark (style_of is_raw quote (take m rest)) ≡ o
front_quoted mark quote is_raw rest m o q le =
    let first : mark + quotes (style_of is_raw quote rest) ≡ o.0 = ap (λ x. x.0) q.is in
    ap (λ (s : Style). quoted mark s) (style_front is_raw quote rest m (omega arith)) ∙ q.is

-- a text that begins with a quote, or with a mark and a quote
data Opens : ℕ → List ℕ → ℕ × Style → Type 0 where
  plain : {c : ℕ} {rest : List ℕ} {o : ℕ × Style} → IsQuoted 0 c false rest o → Opens c rest o
  raw : {c q : ℕ} {rest : List ℕ} {o : ℕ × Style} → is_quote c ≡ false → is_raw_mark c ≡ true → IsQuoted 1 q true rest o
      → Opens c (q ∷ rest) o

raw_by : (c q : ℕ) (rest : List ℕ) (o : ℕ × Style) (b : Bool) → is_quote q ≡ b → is_quote c ≡ false
    → is_raw_mark c ≡ true → cond b (Some (quoted 1 (style_of true q rest))) None ≡ Some o → Opens c (q ∷ rest) o
raw_by c q rest o true e k r is = raw k r (record { is = cc; begins = e })
raw_by c q rest o false e k r is = absurd cc

marked_by : (c : ℕ) (rest : List ℕ) (o : ℕ × Style) (b : Bool) → is_raw_mark c ≡ b → is_quote c ≡ false
    → cond b (raw_opening rest) None ≡ Some o → Opens c rest o
marked_by c rest o false r k is = absurd cc
marked_by c [] o true r k is = absurd cc
marked_by c (q ∷ rest) o true r k is = raw_by c q rest o (is_quote q) refl k r is

quote_is : (n : ℕ) → 0 + n ≡ n
quote_is n = omega arith

opens_by : (c : ℕ) (rest : List ℕ) (o : ℕ × Style) (b : Bool) → is_quote c ≡ b
    → cond b (Some (quotes (style_of false c rest), style_of false c rest)) (cond (is_raw_mark c) (raw_opening rest) None) ≡ Some o
    → Opens c rest o
opens_by c rest o true e is =
    let there : (quotes (style_of false c rest), style_of false c rest) ≡ o = cc in
    let more : (0 + quotes (style_of false c rest), style_of false c rest) ≡ (quotes (style_of false c rest), style_of false c rest) =
    ap (λ (n : ℕ). (n, style_of false c rest)) (quote_is (quotes (style_of false c rest))) in
    plain (record { is = more ∙ there; begins = e })
opens_by c rest o false e is = marked_by c rest o (is_raw_mark c) refl e is

opens : (c : ℕ) (rest : List ℕ) (o : ℕ × Style) → opening (c ∷ rest) ≡ Some o → Opens c rest o
opens c rest o is = opens_by c rest o (is_quote c) refl is

-- an opening is the same at a front that has all of it
some_by : (c : ℕ) (rest : List ℕ) (m : ℕ) (o : ℕ × Style) → Opens c rest o → o.0 ≤ suc m
    → opening (c ∷ take m rest) ≡ Some o
some_by c rest m o (plain q) le =
    let front = front_quoted 0 c false rest m o q (omega arith) in
    let quote : is_quote c ≡ true = q.begins in
    let s = style_of false c (take m rest) in
    ap (λ b. cond b (Some (quotes s, s)) (cond (is_raw_mark c) (raw_opening (take m rest)) None)) quote
    ∙ ap (λ (n : ℕ). Some (n, s)) (sym (quote_is (quotes s)))
    ∙ ap (λ (x : ℕ × Style). Some x) front
some_by c (x ∷ rest) zero o (raw k r q) le = absurd (none_there (style_of true x rest).is_triple (ap (λ x. x.0) q.is) le)
  where
    none_there : (t : Bool) → 1 + cond t 3 1 ≡ o.0 → o.0 ≤ 1 → ⊥
    none_there true e h = omega arith
    none_there false e h = omega arith
some_by c (x ∷ rest) (suc m) o (raw k r q) le =
    let front = front_quoted 1 x true rest m o q (omega arith) in
    let s = style_of true x (take m rest) in
    ap
    (λ b. cond b (Some (quotes (style_of false c (x ∷ take m rest)), style_of false c (x ∷ take m rest)))
    (cond (is_raw_mark c) (raw_opening (x ∷ take m rest)) None))
    k
    ∙ ap (λ b. cond b (raw_opening (x ∷ take m rest)) None) r
    ∙ ap (λ b. cond b (Some (1 + quotes s, s)) None) q.begins
    ∙ ap (λ (y : ℕ × Style). Some y) front

pub opening_some : (c : ℕ) (rest : List ℕ) (m : ℕ) (o : ℕ × Style) → opening (c ∷ rest) ≡ Some o → o.0 ≤ suc m
    → opening (c ∷ take m rest) ≡ Some o
opening_some c rest m o is le = some_by c rest m o (opens c rest o is) le

-- if there is no opening, no front has one
abbrev chosen : Bool → Bool → ℕ → List ℕ → Option (ℕ × Style)
chosen q r c rest = cond q (Some (quotes (style_of false c rest), style_of false c rest)) (cond r (raw_opening rest) None)

no_raw : (b : Bool) (x y : ℕ × Style) → cond b (Some x) None ≡ None → cond b (Some y) None ≡ None
no_raw true x y e = absurd cc
no_raw false x y e = refl

none_by : (q r : Bool) (c : ℕ) (rest : List ℕ) (m : ℕ) → chosen q r c rest ≡ None → chosen q r c (take m rest) ≡ None
none_by true r c rest m e = absurd cc
none_by false false c rest m e = refl
none_by false true c [] zero e = refl
none_by false true c [] (suc m) e = refl
none_by false true c (x ∷ rest) zero e = refl
none_by false true c (x ∷ rest) (suc m) e =
    no_raw (is_quote x) (1 + quotes (style_of true x rest), style_of true x rest)
    (1 + quotes (style_of true x (take m rest)), style_of true x (take m rest)) e

pub opening_none : (c : ℕ) (rest : List ℕ) (m : ℕ) → opening (c ∷ rest) ≡ None → opening (c ∷ take m rest) ≡ None
opening_none c rest m e = none_by (is_quote c) (is_raw_mark c) c rest m e

-- what is known of an opening: it has one byte to four, all within the text; its quote and its last byte are ASCII
pub record IsOpening (bytes : List ℕ) (o : ℕ × Style) : Type 0 where
  pub some : 1 ≤ o.0
  pub small : o.0 ≤ 4
  pub within : o.0 ≤ length bytes
  pub ascii : o.1.quote < 128
  pub last : get_or bytes (o.0 - 1) 0 < 128

quote_ascii : (c : ℕ) → is_quote c ≡ true → c < 128
quote_ascii c e = either (nat_eq c 39) refl
  where
    either : (b : Bool) → nat_eq c 39 ≡ b → c < 128
    either true h = let k : c ≡ 39 = search (rules) in omega arith
    either false h = let k : c ≡ 34 = grind (arith, h, e) in omega arith

both_quotes : (a b : Bool) → (a && b) ≡ true → (a ≡ true) × (b ≡ true)
both_quotes true true e = (refl, refl)
both_quotes true false e = absurd cc
both_quotes false b e = absurd cc

third_is : (quote : ℕ) (rest : List ℕ) → begins_with_two quote rest ≡ true → get_or rest 1 0 ≡ quote
third_is quote [] e = absurd cc
third_is quote (c ∷ []) e = absurd cc
third_is quote (c ∷ d ∷ rest) e = let h = (both_quotes (nat_eq c quote) (nat_eq d quote) e).1 in search (rules)

-- the quotes at the front of a text
record Quotes (quote : ℕ) (rest : List ℕ) (n : ℕ) : Type 0 where
  some : 1 ≤ n
  small : n ≤ 3
  within : n ≤ suc (length rest)
  last : get_or (quote ∷ rest) (n - 1) 0 ≡ quote

quotes_by : (quote : ℕ) (rest : List ℕ) (b : Bool) → begins_with_two quote rest ≡ b → Quotes quote rest (cond b 3 1)
quotes_by quote rest true e = let h = two_long quote rest e
    in record { some = omega arith; small = omega arith; within = omega arith; last = third_is quote rest e }
quotes_by quote rest false e = record { some = omega arith; small = omega arith; within = omega arith; last = refl }

is_by : (c : ℕ) (rest : List ℕ) (o : ℕ × Style) → Opens c rest o → IsOpening (c ∷ rest) o
is_by c rest o (plain q) =
    let x = quotes_by c rest (begins_with_two c rest) refl in
    let n : cond (begins_with_two c rest) 3 1 ≡ o.0 = sym (quote_is _) ∙ ap (λ x. x.0) q.is in
    let quote : c ≡ o.1.quote = ap (λ x. x.1.quote) q.is in
    let ascii = quote_ascii c q.begins in
    let a = x.some in
    let b = x.small in
    let d = x.within in
    let last = ap (λ (k : ℕ). get_or (c ∷ rest) (k - 1) 0) (sym n) ∙ x.last in
    record { some = omega arith; small = omega arith; within = omega arith; ascii = omega arith; last = omega (arith, last) }
is_by c (x ∷ rest) o (raw k r q) =
    let y = quotes_by x rest (begins_with_two x rest) refl in
    let n : 1 + cond (begins_with_two x rest) 3 1 ≡ o.0 = ap (λ x. x.0) q.is in
    let quote : x ≡ o.1.quote = ap (λ x. x.1.quote) q.is in
    let ascii = quote_ascii x q.begins in
    let a = y.some in
    let b = y.small in
    let d = y.within in
    let back : o.0 - 1 ≡ suc (cond (begins_with_two x rest) 3 1 - 1) = omega arith in
    let last = ap (λ (j : ℕ). get_or (c ∷ x ∷ rest) j 0) back ∙ y.last in
    record { some = omega arith; small = omega arith; within = omega arith; ascii = omega arith; last = omega (arith, last) }

pub is_opening : (c : ℕ) (rest : List ℕ) (o : ℕ × Style) → opening (c ∷ rest) ≡ Some o → IsOpening (c ∷ rest) o
is_opening c rest o is = is_by c rest o (opens c rest o is)
