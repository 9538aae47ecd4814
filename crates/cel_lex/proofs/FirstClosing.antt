-- The closing quotes that are found are the first that no backslash escapes.
use Rattle.std.proofs.Common.{◌≡◌, ℕ, zero, suc, ◌+◌, ◌≤◌, Bool, true, false, cond}
use Rattle.std.proofs.Common.{List, [], ◌∷◌, ◌++◌, length, drop, length-drop, Option, Some, None}
use Rattle.std.proofs.Common.{option_map, refl, sym, ap, ◌∙◌, inl, inr, arith, rules, true≢false}
use Rattle.std.specs.Prelude.{not, ◌&&◌, ◌||◌, nat_eq}
use Rattle.std.proofs.lemmas.Bool.{and_parts, cases_Bool}
use Rattle.cel_lex.specs.declared.literal.Style.{Style}
use Rattle.cel_lex.specs.Bytes.{is_quote, is_backslash, is_line_end}
use Rattle.cel_lex.specs.Texts.{begins_with_two, closes, breaks, escapes, closed_at}
use Rattle.cel_lex.specs.Closing.{closing_quotes, BeginWith, IsContent, nothing, byte, escape, ClosesAt}
use Rattle.cel_lex.proofs.TextNext.{closed_by, closed_is}
use Rattle.cel_lex.proofs.Closings.{closed_nil}

-- ---- the closing quotes

same : (c q : ℕ) → nat_eq c q ≡ true → c ≡ q
same c q e = search (rules)

itself : (q : ℕ) → nat_eq q q ≡ true
itself q = search (rules)

-- the closing quotes by their number and kind
abbrev quotes_of : Bool → ℕ → List ℕ
quotes_of three q = cond three (q ∷ q ∷ q ∷ []) (q ∷ [])

begin_by : (three : Bool) (q c : ℕ) (rest : List ℕ) → (nat_eq c q && (not three || begins_with_two q rest)) ≡ true
    → BeginWith (quotes_of three q) (c ∷ rest)
begin_by false q c rest e = (rest, ap (λ x. x ∷ rest) (same c q (and_parts (nat_eq c q) true e).0))
begin_by true q c [] e = absurd (true≢false (sym (and_parts (nat_eq c q) false e).1))
begin_by true q c (d ∷ []) e = absurd (true≢false (sym (and_parts (nat_eq c q) false e).1))
begin_by true q c (d ∷ f ∷ rest) e =
    let p = and_parts (nat_eq c q) (nat_eq d q && nat_eq f q) e in
    let more = and_parts (nat_eq d q) (nat_eq f q) p.1 in
    let first = same c q p.0 in
    let second = same d q more.0 in
    let third = same f q more.1 in
    (rest, cc)

begin_with : (s : Style) (bytes : List ℕ) → closes s bytes ≡ true → BeginWith (closing_quotes s) bytes
begin_with s [] e = absurd (true≢false (sym e))
begin_with s (c ∷ rest) e = begin_by s.is_triple s.quote c rest e

close_by : (three : Bool) (s : Style) (rest : List ℕ) → s.is_triple ≡ three → closes s (quotes_of three s.quote ++ rest) ≡ true
close_by true s rest is = rw (is, itself s.quote) refl
close_by false s rest is = rw (is, itself s.quote) refl

closing_first : (s : Style) (rest : List ℕ) → closes s (closing_quotes s ++ rest) ≡ true
closing_first s rest = close_by s.is_triple s rest refl

-- the search at closing quotes
found_here : (three : Bool) (s : Style) (rest : List ℕ) → s.is_triple ≡ three
    → closed_at s false (quotes_of three s.quote ++ rest) ≡ Some 0
found_here true s rest is =
    closed_is s false s.quote (s.quote ∷ s.quote ∷ rest)
    ∙ ap (λ b. closed_by b (breaks s s.quote) (closed_at s (escapes s s.quote) (s.quote ∷ s.quote ∷ rest))) (close_by true s rest is)
found_here false s rest is =
    closed_is s false s.quote rest
    ∙ ap (λ b. closed_by b (breaks s s.quote) (closed_at s (escapes s s.quote) rest)) (close_by false s rest is)

-- ---- what is closed there is found

no_closing : (s : Style) (bytes : List ℕ) → (BeginWith (closing_quotes s) bytes → ⊥) → closes s bytes ≡ false
no_closing s bytes none = elim (cases_Bool (closes s bytes)) [
  | inl first ↦ absurd (none (begin_with s bytes first))
  | inr other ↦ other
]

no_quote : (q c : ℕ) → is_quote q ≡ true → is_backslash c ≡ true → nat_eq c q ≡ false
no_quote q c quote slash = by_quote (nat_eq q 39) (nat_eq q 34) refl refl quote
  where
    by_quote : (one two : Bool) → nat_eq q 39 ≡ one → nat_eq q 34 ≡ two → (one || two) ≡ true → nat_eq c q ≡ false
    by_quote true two e k h = rw (same c 92 slash, same q 39 e) refl
    by_quote false true e k h = rw (same c 92 slash, same q 34 k) refl
    by_quote false false e k h = absurd (true≢false (sym h))

-- a backslash closes no text
escape_closes_none : (s : Style) (c : ℕ) (rest : List ℕ) → is_quote s.quote ≡ true → escapes s c ≡ true
    → closes s (c ∷ rest) ≡ false
escape_closes_none s c rest quote e =
    ap (λ b. b && (not s.is_triple || begins_with_two s.quote rest))
    (no_quote s.quote c quote (and_parts (not s.is_raw) (is_backslash c) e).1)

and_false : (b : Bool) → (b && false) ≡ false
and_false true = refl
and_false false = refl

-- nor does it end a line
escape_breaks_none : (s : Style) (c : ℕ) → escapes s c ≡ true → breaks s c ≡ false
escape_breaks_none s c e =
    ap (λ x. not s.is_triple && is_line_end x) (same c 92 (and_parts (not s.is_raw) (is_backslash c) e).1) ∙ and_false (not s.is_triple)

-- ---- the search over one part

past_byte : (s : Style) (c : ℕ) (rest : List ℕ) → closes s (c ∷ rest) ≡ false → breaks s c ≡ false
    → closed_at s false (c ∷ rest) ≡ option_map (λ n. 1 + n) (closed_at s (escapes s c) rest)
past_byte s c rest other b =
    closed_is s false c rest
    ∙ ap (λ x. closed_by x (breaks s c) (closed_at s (escapes s c) rest)) other
    ∙ ap (λ x. closed_by false x (closed_at s (escapes s c) rest)) b

past_escaped : (s : Style) (d : ℕ) (rest : List ℕ) → breaks s d ≡ false
    → closed_at s true (d ∷ rest) ≡ option_map (λ n. 1 + n) (closed_at s false rest)
past_escaped s d rest b = closed_is s true d rest ∙ ap (λ x. closed_by false x (closed_at s false rest)) b

past_escape : (s : Style) (c d : ℕ) (rest : List ℕ) → is_quote s.quote ≡ true → escapes s c ≡ true → breaks s d ≡ false
    → closed_at s false (c ∷ d ∷ rest) ≡ option_map (λ n. 1 + n) (option_map (λ n. 1 + n) (closed_at s false rest))
past_escape s c d rest quote e b =
    past_byte s c (d ∷ rest) (escape_closes_none s c (d ∷ rest) quote e) (escape_breaks_none s c e)
    ∙ ap (λ x. option_map (λ n. 1 + n) (closed_at s x (d ∷ rest))) e
    ∙ ap (λ (o : Option ℕ). option_map (λ n. 1 + n) o) (past_escaped s d rest b)

-- ---- what is closed is found

one_more : (n : ℕ) → 1 + n ≡ suc n
one_more n = omega arith

content_found : (s : Style) (rest : List ℕ) {body : List ℕ} → is_quote s.quote ≡ true
    → IsContent s (closing_quotes s ++ rest) body
    → closed_at s false (body ++ (closing_quotes s ++ rest)) ≡ Some (length body)
content_found s rest quote nothing = found_here s.is_triple s rest refl
content_found s rest quote (byte {c} {body} e b none parts) =
    let behind = body ++ (closing_quotes s ++ rest) in
    past_byte s c behind (no_closing s (c ∷ behind) none) b
    ∙ ap (λ x. option_map (λ n. 1 + n) (closed_at s x behind)) e
    ∙ ap (λ (o : Option ℕ). option_map (λ n. 1 + n) o) (content_found s rest quote parts)
    ∙ ap (λ (n : ℕ). Some n) (one_more (length body))
content_found s rest quote (escape {c} {d} {body} e b parts) =
    past_escape s c d (body ++ (closing_quotes s ++ rest)) quote e b
    ∙ ap (λ (o : Option ℕ). option_map (λ n. 1 + n) (option_map (λ n. 1 + n) o)) (content_found s rest quote parts)
    ∙ ap (λ (n : ℕ). Some n) (omega arith)

pub closing_found : (s : Style) (inside : List ℕ) (n : ℕ) → is_quote s.quote ≡ true
    → ClosesAt s inside n → closed_at s false inside ≡ Some n
closing_found s inside n quote h =
    ap (λ (x : List ℕ). closed_at s false x) h.whole ∙ content_found s h.rest quote h.content ∙ ap (λ (x : ℕ). Some x) h.long

-- ---- what is found is closed

quotes_first : (s : Style) (bytes : List ℕ) (n : ℕ) → 0 ≡ n → closes s bytes ≡ true → ClosesAt s bytes n
quotes_first s bytes n is e =
    let first = begin_with s bytes e in
    record { body = []; rest = first.0; whole = first.1; long = is; content = nothing }

none_begins : (s : Style) (bytes : List ℕ) → closes s bytes ≡ false → BeginWith (closing_quotes s) bytes → ⊥
none_begins s bytes other begins = true≢false (sym (ap (λ (x : List ℕ). closes s x) begins.1 ∙ closing_first s begins.0) ∙ other)

with_byte : (s : Style) (c : ℕ) (rest : List ℕ) (n m : ℕ) → closes s (c ∷ rest) ≡ false → escapes s c ≡ false
    → breaks s c ≡ false
    → 1 + m ≡ n → ClosesAt s rest m → ClosesAt s (c ∷ rest) n
with_byte s c rest n m other e b is h =
    let whole : c ∷ rest ≡ c ∷ (h.body ++ (closing_quotes s ++ h.rest)) = ap (λ (x : List ℕ). c ∷ x) h.whole in
    record {
      body = c ∷ h.body;
      rest = h.rest;
      whole = whole;
      long = sym (one_more (length h.body)) ∙ ap (λ k. 1 + k) h.long ∙ is;
      content = byte e b (λ begins. none_begins s (c ∷ rest) other (begins.0, whole ∙ begins.1)) h.content;
    }

with_escape : (s : Style) (c d : ℕ) (rest : List ℕ) (n m : ℕ) → escapes s c ≡ true → breaks s d ≡ false → 1 + (1 + m) ≡ n
    → ClosesAt s rest m → ClosesAt s (c ∷ d ∷ rest) n
with_escape s c d rest n m e b is h = record {
  body = c ∷ d ∷ h.body;
  rest = h.rest;
  whole = ap (λ (x : List ℕ). c ∷ d ∷ x) h.whole;
  long = omega (arith, h.long);
  content = escape e b h.content;
}

-- what is found after a byte, or after a backslash and the byte that it escapes
some_more : (o : Option ℕ) (n : ℕ) → option_map (λ k. 1 + k) o ≡ Some n → (m : ℕ) × (o ≡ Some m) × (1 + m ≡ n)
some_more None n h = absurd cc
some_more (Some m) n h = (m, refl, cc)

-- what is found at the first bytes, given what is found after the first and after the second
module _ (s : Style) (quote : is_quote s.quote ≡ true) (c : ℕ) (rest : List ℕ) (n : ℕ)
    (is : closed_at s false (c ∷ rest) ≡ Some n) where
  abbrev Found : List ℕ → Type 0
  Found bytes = (m : ℕ) → closed_at s false bytes ≡ Some m → ClosesAt s bytes m

  found_at_quotes : closes s (c ∷ rest) ≡ true → ClosesAt s (c ∷ rest) n
  found_at_quotes e =
      let here = closed_is s false c rest ∙ ap (λ b. closed_by b (breaks s c) (closed_at s (escapes s c) rest)) e in
      quotes_first s (c ∷ rest) n (let same : 0 ≡ n = cc in same) e

  never_at_break : closes s (c ∷ rest) ≡ false → breaks s c ≡ true → ⊥
  never_at_break e b =
      let here =
      closed_is s false c rest ∙ ap (λ x. closed_by x (breaks s c) (closed_at s (escapes s c) rest)) e
      ∙ ap (λ x. closed_by false x (closed_at s (escapes s c) rest)) b
      in
      cc

  found_behind_byte : closes s (c ∷ rest) ≡ false → breaks s c ≡ false → escapes s c ≡ false → Found rest
      → ClosesAt s (c ∷ rest) n
  found_behind_byte x b e more =
      let p = some_more (closed_at s (escapes s c) rest) n (sym (past_byte s c rest x b) ∙ is) in
      with_byte s c rest n p.0 x e b p.2 (more p.0 (ap (λ y. closed_at s y rest) (sym e) ∙ p.1))

-- likewise after a backslash
found_escaped : (s : Style) (c : ℕ) (rest : List ℕ) (n m : ℕ) → escapes s c ≡ true → 1 + m ≡ n
    → closed_at s true rest ≡ Some m
    → ((k : ℕ) → closed_at s false (drop 1 rest) ≡ Some k → ClosesAt s (drop 1 rest) k) → ClosesAt s (c ∷ rest) n
found_escaped s c [] n m e more is found = absurd (let h = closed_nil s true in cc)
found_escaped s c (d ∷ rest) n m e more is found = by_break (breaks s d) refl
  where
    by_break : (b : Bool) → breaks s d ≡ b → ClosesAt s (c ∷ d ∷ rest) n
    by_break true b = absurd (let h = closed_is s true d rest ∙ ap (λ x. closed_by false x (closed_at s false rest)) b in cc)
    by_break false b =
        let p = some_more (closed_at s false rest) m (sym (past_escaped s d rest b) ∙ is) in
        with_escape s c d rest n p.0 e b (ap (λ k. 1 + k) p.2 ∙ more) (found p.0 p.1)

found_first : (s : Style) (c : ℕ) (rest : List ℕ) (n : ℕ) (x b e : Bool) → is_quote s.quote ≡ true
    → closed_at s false (c ∷ rest) ≡ Some n
    → closes s (c ∷ rest) ≡ x → breaks s c ≡ b → escapes s c ≡ e
    → ((m : ℕ) → closed_at s false rest ≡ Some m → ClosesAt s rest m)
    → ((m : ℕ) → closed_at s false (drop 1 rest) ≡ Some m → ClosesAt s (drop 1 rest) m) → ClosesAt s (c ∷ rest) n
found_first s c rest n true b e quote is x y z f g = found_at_quotes s quote c rest n is x
found_first s c rest n false true e quote is x y z f g = absurd (never_at_break s quote c rest n is x y)
found_first s c rest n false false false quote is x y z f g = found_behind_byte s quote c rest n is x y z f
found_first s c rest n false false true quote is x y z f g =
    let p = some_more (closed_at s (escapes s c) rest) n (sym (past_byte s c rest x y) ∙ is) in
    found_escaped s c rest n p.0 z p.2 (ap (λ w. closed_at s w rest) (sym z) ∙ p.1) g

-- by how many bytes there are at most
found_by : (most : ℕ) (s : Style) (bytes : List ℕ) (n : ℕ) → is_quote s.quote ≡ true → length bytes ≤ most
    → closed_at s false bytes ≡ Some n → ClosesAt s bytes n
found_by most s [] n quote le is = absurd (let h = closed_nil s false in cc)
found_by zero s (c ∷ rest) n quote le is = absurd (omega arith)
found_by (suc most) s (c ∷ rest) n quote le is =
    found_first s c rest n (closes s (c ∷ rest)) (breaks s c) (escapes s c) quote is refl refl refl
    (λ m h. found_by most s rest m quote (omega arith) h)
    (λ m h. found_by most s (drop 1 rest) m quote (omega (arith, length-drop 1 rest)) h)

pub closing_is : (s : Style) (inside : List ℕ) (n : ℕ) → is_quote s.quote ≡ true → closed_at s false inside ≡ Some n
    → ClosesAt s inside n
closing_is s inside n quote is = found_by (length inside) s inside n quote (omega arith) is

-- what is closed nowhere is not found
pub never_closed : (s : Style) (inside : List ℕ) → is_quote s.quote ≡ true
    → ((n : ℕ) → ClosesAt s inside n → ⊥) → closed_at s false inside ≡ None
never_closed s inside quote none = by_search (closed_at s false inside) refl
  where
    by_search : (o : Option ℕ) → closed_at s false inside ≡ o → closed_at s false inside ≡ None
    by_search None is = is
    by_search (Some n) is = absurd (none n (closing_is s inside n quote is))

pub not_found : (s : Style) (inside : List ℕ) → is_quote s.quote ≡ true
    → closed_at s false inside ≡ None → (n : ℕ) → ClosesAt s inside n → ⊥
not_found s inside quote is n h = let found = closing_found s inside n quote h in cc
