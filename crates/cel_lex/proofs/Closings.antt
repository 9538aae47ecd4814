-- The search for closing quotes, byte by byte.
use Rattle.std.proofs.Common.{◌≡◌, ℕ, suc, ◌+◌, ◌-◌, ◌<◌, ◌≤◌, Bool, true, false, List, [], ◌∷◌, length}
use Rattle.std.proofs.Common.{take, drop, get_or, Option, Some, None, option_map, refl, sym, ap, ◌∙◌, arith, rules}
use Rattle.std.specs.Prelude.{not, ◌&&◌, ◌||◌, nat_eq}
use Rattle.std.proofs.lemmas.List.{drop_more, drop_all, take_rest}
use Rattle.cel_lex.specs.declared.literal.Style.{Style}
use Rattle.cel_lex.specs.Texts.{begins_with_two, closes, breaks, escapes, closed_at}
use Rattle.cel_lex.proofs.TextNext.{closed_by, closed_is, closing_here}

abbrev shifted : ℕ → Option ℕ → Option ℕ
shifted i o = option_map (λ n. i + n) o

closed_step : (s : Style) (is_escaped : Bool) (bytes : List ℕ) (i : ℕ) → i < length bytes → closed_at s is_escaped (drop i bytes)
    ≡ closed_by (not is_escaped && closes s (drop i bytes)) (breaks s (get_or bytes i 0))
    (closed_at s (not is_escaped && escapes s (get_or bytes i 0)) (drop (i + 1) bytes))
closed_step s e bytes i lt =
    let more = drop_more bytes i 0 lt in
    ap (λ (x : List ℕ). closed_at s e x) more
    ∙ closed_is s e (get_or bytes i 0) (drop (i + 1) bytes)
    ∙ ap
    (λ (x : List ℕ). closed_by (not e && closes s x) (breaks s (get_or bytes i 0))
    (closed_at s (not e && escapes s (get_or bytes i 0)) (drop (i + 1) bytes)))
    (sym more)

module _ (s : Style) (is_escaped : Bool) (bytes : List ℕ) (i : ℕ) (total : Option ℕ) (lt : i < length bytes)
    (kept : option_map (λ n. i + n) (closed_at s is_escaped (drop i bytes)) ≡ total) where
  abbrev rest : Option ℕ
  rest = closed_at s (not is_escaped && escapes s (get_or bytes i 0)) (drop (i + 1) bytes)

  as_rest : (b : Bool) → (not is_escaped && closes s (take (length bytes - i) (drop i bytes))) ≡ b
      → (not is_escaped && closes s (drop i bytes)) ≡ b
  as_rest b e = ap (λ (x : List ℕ). not is_escaped && closes s x) (sym (take_rest bytes i)) ∙ e

  pub closing_now : (not is_escaped && closes s (take (length bytes - i) (drop i bytes))) ≡ true → Some i ≡ total
  closing_now e =
      ap (λ (x : ℕ). Some x) (omega arith)
      ∙ sym
      (ap (shifted i) (closed_step s is_escaped bytes i lt ∙ ap (λ b. closed_by b (breaks s (get_or bytes i 0)) rest) (as_rest true e)))
      ∙ kept

  stepped : (b : Bool) → (not is_escaped && closes s (take (length bytes - i) (drop i bytes))) ≡ false
      → breaks s (get_or bytes i 0) ≡ b → closed_at s is_escaped (drop i bytes) ≡ closed_by false b rest
  stepped b e k =
      closed_step s is_escaped bytes i lt
      ∙ ap (λ x. closed_by x (breaks s (get_or bytes i 0)) rest) (as_rest false e)
      ∙ ap (λ x. closed_by false x rest) k

  pub breaking_now : (not is_escaped && closes s (take (length bytes - i) (drop i bytes))) ≡ false
      → breaks s (get_or bytes i 0) ≡ true → None ≡ total
  breaking_now e k = sym (ap (shifted i) (stepped true e k)) ∙ kept

  further : (o : Option ℕ) → shifted (i + 1) o ≡ shifted i (option_map (λ n. 1 + n) o)
  further None = refl
  further (Some n) = ap (λ (x : ℕ). Some x) (omega arith)

  pub going_on : (not is_escaped && closes s (take (length bytes - i) (drop i bytes))) ≡ false → breaks s (get_or bytes i 0) ≡ false
      → option_map (λ n. i + 1 + n) (closed_at s (not is_escaped && escapes s (get_or bytes i 0)) (drop (i + 1) bytes)) ≡ total
  going_on e k = further rest ∙ sym (ap (shifted i) (stepped false e k)) ∙ kept

pub closed_nil : (s : Style) (is_escaped : Bool) → closed_at s is_escaped [] ≡ None
unfolding closed_at
closed_nil s is_escaped = refl

pub not_closed : (s : Style) (is_escaped : Bool) (bytes : List ℕ) (i : ℕ) (total : Option ℕ) → length bytes ≤ i
    → option_map (λ n. i + n) (closed_at s is_escaped (drop i bytes)) ≡ total → None ≡ total
not_closed s is_escaped bytes i total le kept =
    sym (ap (λ (x : List ℕ). shifted i (closed_at s is_escaped x)) (drop_all i bytes le) ∙ ap (shifted i) (closed_nil s is_escaped))
    ∙ kept

-- the byte at which a text is closed is a quote
first_is : (s : Style) (is_escaped : Bool) (c : ℕ) (rest : List ℕ) → closing_here s is_escaped c rest ≡ true → c ≡ s.quote
first_is s true c rest e = absurd cc
first_is s false c rest e = by_test (nat_eq c s.quote) refl e
  where
    by_test : (b : Bool) → nat_eq c s.quote ≡ b → (b && (not s.is_triple || begins_with_two s.quote rest)) ≡ true → c ≡ s.quote
    by_test true h k = search (rules)
    by_test false h k = absurd cc

quote_by : (closing breaking : Bool) (o : Option ℕ) (n c q : ℕ) (rest : List ℕ) → (closing ≡ true → c ≡ q)
    → ((j : ℕ) → o ≡ Some j → get_or rest j 0 ≡ q) → closed_by closing breaking o ≡ Some n → get_or (c ∷ rest) n 0 ≡ q
quote_by true b o n c q rest here more e =
    let zero_is : 0 ≡ n = cc in ap (λ (k : ℕ). get_or (c ∷ rest) k 0) (sym zero_is) ∙ here refl
quote_by false true o n c q rest here more e = absurd cc
quote_by false false None n c q rest here more e = absurd cc
quote_by false false (Some j) n c q rest here more e =
    let next : suc j ≡ n = let h : 1 + j ≡ n = cc in omega arith in
    ap (λ (k : ℕ). get_or (c ∷ rest) k 0) (sym next) ∙ more j refl

pub closing_quote : (s : Style) (is_escaped : Bool) (bytes : List ℕ) (n : ℕ) → closed_at s is_escaped bytes ≡ Some n
    → get_or bytes n 0 ≡ s.quote
unfolding closed_at
closing_quote s e [] n is = absurd cc
closing_quote s e (c ∷ rest) n is =
    quote_by (closing_here s e c rest) (breaks s c) (closed_at s (not e && escapes s c) rest) n c s.quote rest
    (first_is s e c rest) (λ j h. closing_quote s (not e && escapes s c) rest j h) is
