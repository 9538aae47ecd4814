-- The literal text that is read next is the longest piece.
use Rattle.std.proofs.Common.{◌≡◌, ℕ, zero, suc, ◌+◌, ◌-◌, ◌<◌, ◌≤◌, Bool, true, false, cond, List, []}
use Rattle.std.proofs.Common.{◌∷◌, length, take, drop, Option, Some, None, option_map, refl, ap, ◌∙◌, arith, rules, length-drop}
use Rattle.std.specs.Prelude.{not, ◌&&◌, ◌||◌, nat_eq}
use Rattle.std.proofs.lemmas.List.{take-take, drop-take, length-take-le}
use Rattle.std.specs.List.{list_all, prefix_len}
use Rattle.std.proofs.lemmas.List.Sums.{prefix_len-le-length}
use Rattle.std.proofs.Common.{eq-eqb}
use Rattle.cel_lex.specs.declared.literal.Style.{Style}
use Rattle.cel_lex.specs.declared.piece.Piece.{Piece}
use Rattle.cel_lex.specs.declared.fault.LexFaultKind.TheVariants as fault
use Rattle.cel_lex.specs.Texts.{quotes, opening, closes, breaks, keeps, escapes, closed_at, faulty, content_of, closed_or_not, text_of}
use Rattle.cel_lex.specs.Lexis.{piece_of, IsNext}
use Rattle.cel_lex.specs.Scan.{literal_at, text_at}
use Rattle.cel_lex.proofs.Runs.{front_passes, longer_fails}
use Rattle.cel_lex.proofs.Openings.{not_two, are_two, two_long, opening_some, is_opening}

-- the closing quotes

abbrev closes_by : Bool → Bool → Bool → Bool
closes_by is_first is_triple are_two = is_first && (not is_triple || are_two)

closes_not_by : (is_first is_triple two two' : Bool) → (two ≡ false → two' ≡ false) → closes_by is_first is_triple two ≡ false
    → closes_by is_first is_triple two' ≡ false
closes_not_by false t two two' h e = refl
closes_not_by true false two two' h e = absurd cc
closes_not_by true true two two' h e = h e

not_closing : (s : Style) (c : ℕ) (rest : List ℕ) (m : ℕ) → closes s (c ∷ rest) ≡ false
    → closes s (c ∷ take m rest) ≡ false
not_closing s c rest m e = closes_not_by (nat_eq c s.quote) s.is_triple _ _ (not_two s.quote rest m) e

closes_too_by : (is_first is_triple two two' : Bool) (m : ℕ) → (two ≡ true → 2 ≤ m → two' ≡ true)
    → cond is_triple 3 1 ≤ suc m → closes_by is_first is_triple two ≡ true → closes_by is_first is_triple two' ≡ true
closes_too_by false t two two' m h le e = absurd cc
closes_too_by true false two two' m h le e = refl
closes_too_by true true two two' m h le e = h e (omega arith)

closing_too : (s : Style) (c : ℕ) (rest : List ℕ) (m : ℕ) → quotes s ≤ suc m → closes s (c ∷ rest) ≡ true
    → closes s (c ∷ take m rest) ≡ true
closing_too s c rest m le e = closes_too_by (nat_eq c s.quote) s.is_triple _ _ m (are_two s.quote rest m) le e

closes_long_by : (is_first is_triple two : Bool) (n : ℕ) → (two ≡ true → 2 ≤ n) → closes_by is_first is_triple two ≡ true
    → cond is_triple 3 1 ≤ suc n
closes_long_by false t two n h e = absurd cc
closes_long_by true false two n h e = omega arith
closes_long_by true true two n h e = let k = h e in omega arith

closes_long : (s : Style) (c : ℕ) (rest : List ℕ) → closes s (c ∷ rest) ≡ true → quotes s ≤ suc (length rest)
closes_long s c rest e = closes_long_by (nat_eq c s.quote) s.is_triple _ (length rest) (two_long s.quote rest) e

-- one byte on the way to the closing quotes
abbrev pub closed_by : Bool → Bool → Option ℕ → Option ℕ
closed_by closing breaking rest = cond closing (Some 0) (cond breaking None (option_map (λ n. 1 + n) rest))

abbrev pub closing_here : Style → Bool → ℕ → List ℕ → Bool
closing_here s is_escaped c rest = not is_escaped && closes s (c ∷ rest)

pub closed_is : (s : Style) (is_escaped : Bool) (c : ℕ) (rest : List ℕ) → closed_at s is_escaped (c ∷ rest)
    ≡ closed_by (closing_here s is_escaped c rest) (breaks s c) (closed_at s (not is_escaped && escapes s c) rest)
unfolding closed_at
closed_is s is_escaped c rest = refl

-- not closed
open_by : (closing closing' breaking : Bool) (o o' : Option ℕ) → (closing ≡ false → closing' ≡ false)
    → (o ≡ None → o' ≡ None) → closed_by closing breaking o ≡ None → closed_by closing' breaking o' ≡ None
open_by true closing' b o o' h k e = absurd cc
open_by false true b o o' h k e = absurd (let x = h refl in cc)
open_by false false true o o' h k e = refl
open_by false false false None o' h k e = ap (option_map (λ n. 1 + n)) (k refl)
open_by false false false (Some n) o' h k e = absurd cc

not_here : (s : Style) (is_escaped : Bool) (c : ℕ) (rest : List ℕ) (m : ℕ) → closing_here s is_escaped c rest ≡ false
    → closing_here s is_escaped c (take m rest) ≡ false
not_here s true c rest m e = refl
not_here s false c rest m e = not_closing s c rest m e

still_open : (s : Style) (is_escaped : Bool) (bytes : List ℕ) (m : ℕ) → closed_at s is_escaped bytes ≡ None
    → closed_at s is_escaped (take m bytes) ≡ None
unfolding closed_at
still_open s is_escaped [] zero e = refl
still_open s is_escaped [] (suc m) e = refl
still_open s is_escaped (c ∷ rest) zero e = refl
still_open s is_escaped (c ∷ rest) (suc m) e =
    open_by (closing_here s is_escaped c rest) (closing_here s is_escaped c (take m rest)) (breaks s c)
    (closed_at s (not is_escaped && escapes s c) rest) (closed_at s (not is_escaped && escapes s c) (take m rest))
    (not_here s is_escaped c rest m) (still_open s (not is_escaped && escapes s c) rest m) e

-- closed
record IsClosing (closing breaking : Bool) (o : Option ℕ) (n : ℕ) : Type 0 where
  is : closed_by closing breaking o ≡ Some n

closed_too_by : (closing closing' breaking : Bool) (o o' : Option ℕ) (n k m : ℕ) → (closing ≡ false → closing' ≡ false)
    → (closing ≡ true → k ≤ suc m → closing' ≡ true) → ((j : ℕ) → o ≡ Some j → j + k ≤ m → o' ≡ Some j)
    → closed_by closing breaking o ≡ Some n → n + k ≤ suc m → closed_by closing' breaking o' ≡ Some n
closed_too_by true closing' b o o' n k m other there_too rest e le =
    let zero_is : 0 ≡ n = cc in
    let there : closing' ≡ true = there_too refl (omega arith) in
    ap (λ x. closed_by x b o') there ∙ e
closed_too_by false true b o o' n k m other there_too rest e le = absurd (let x = other refl in cc)
closed_too_by false false true o o' n k m other there_too rest e le = absurd cc
closed_too_by false false false None o' n k m other there_too rest e le = absurd cc
closed_too_by false false false (Some j) o' n k m other there_too rest e le =
    let next : 1 + j ≡ n = cc in
    ap (option_map (λ (x : ℕ). 1 + x)) (rest j refl (omega arith)) ∙ e

here_too : (s : Style) (is_escaped : Bool) (c : ℕ) (rest : List ℕ) (m : ℕ) → closing_here s is_escaped c rest ≡ true
    → quotes s ≤ suc m → closing_here s is_escaped c (take m rest) ≡ true
here_too s true c rest m e le = absurd cc
here_too s false c rest m e le = closing_too s c rest m le e

still_closed : (s : Style) (is_escaped : Bool) (bytes : List ℕ) (m n : ℕ) → closed_at s is_escaped bytes ≡ Some n
    → n + quotes s ≤ m → closed_at s is_escaped (take m bytes) ≡ Some n
unfolding closed_at
still_closed s is_escaped [] m n e le = absurd cc
still_closed s is_escaped (c ∷ rest) zero n e le = absurd (none_there s.is_triple (omega arith))
  where
    none_there : (t : Bool) → cond t 3 1 ≤ 0 → ⊥
    none_there true h = omega arith
    none_there false h = omega arith
still_closed s is_escaped (c ∷ rest) (suc m) n e le =
    closed_too_by (closing_here s is_escaped c rest) (closing_here s is_escaped c (take m rest)) (breaks s c)
    (closed_at s (not is_escaped && escapes s c) rest) (closed_at s (not is_escaped && escapes s c) (take m rest)) n (quotes s) m
    (not_here s is_escaped c rest m) (here_too s is_escaped c rest m)
    (λ j h k. still_closed s (not is_escaped && escapes s c) rest m j h k) e le

closed_long_by : (closing breaking : Bool) (o : Option ℕ) (n k len : ℕ) → (closing ≡ true → k ≤ suc len)
    → ((j : ℕ) → o ≡ Some j → j + k ≤ len) → closed_by closing breaking o ≡ Some n → n + k ≤ suc len
closed_long_by true b o n k len there_too rest e = let zero_is : 0 ≡ n = cc in let h = there_too refl in omega arith
closed_long_by false true o n k len there_too rest e = absurd cc
closed_long_by false false None n k len there_too rest e = absurd cc
closed_long_by false false (Some j) n k len there_too rest e = let next : 1 + j ≡ n = cc in let h = rest j refl in omega arith

here_long : (s : Style) (is_escaped : Bool) (c : ℕ) (rest : List ℕ) → closing_here s is_escaped c rest ≡ true
    → quotes s ≤ suc (length rest)
here_long s true c rest e = absurd cc
here_long s false c rest e = closes_long s c rest e

pub closed_within : (s : Style) (is_escaped : Bool) (bytes : List ℕ) (n : ℕ) → closed_at s is_escaped bytes ≡ Some n
    → n + quotes s ≤ length bytes
unfolding closed_at
closed_within s is_escaped [] n e = absurd cc
closed_within s is_escaped (c ∷ rest) n e =
    closed_long_by (closing_here s is_escaped c rest) (breaks s c) (closed_at s (not is_escaped && escapes s c) rest) n (quotes s)
    (length rest)
    (here_long s is_escaped c rest) (λ j h. closed_within s (not is_escaped && escapes s c) rest j h) e

-- the fronts of what follows an opening

abbrev pub inside_of : ℕ → Style → List ℕ → Option Piece
inside_of before s inside = closed_or_not before s inside (closed_at s false inside)

-- some bytes after an opening, with what is read there
record Ends (before : ℕ) (s : Style) (inside : List ℕ) (n : ℕ) (what : Piece) : Type 0 where
  here : n ≤ length inside
  is : inside_of before s (take n inside) ≡ Some what
  longest : (m : ℕ) → n < m → m ≤ length inside → inside_of before s (take m inside) ≡ None

open_is : (before : ℕ) (s : Style) (inside : List ℕ) (m : ℕ) → closed_at s false inside ≡ None
    → inside_of before s (take m inside) ≡ cond (list_all (keeps s) (take m inside)) (Some (faulty fault.Unterminated 0)) None
open_is before s inside m e = ap (closed_or_not before s (take m inside)) (still_open s false inside m e)

open_ends : (before : ℕ) (s : Style) (inside : List ℕ) → closed_at s false inside ≡ None
    → Ends before s inside (prefix_len (keeps s) inside) (faulty fault.Unterminated 0)
open_ends before s inside e = record {
  here = prefix_len-le-length (keeps s) inside;
  is = open_is before s inside _ e ∙ ap (λ b. cond b (Some (faulty fault.Unterminated 0)) None) (front_passes (keeps s) inside);
  longest = λ m lt le. open_is before s inside m e
      ∙ ap (λ b. cond b (Some (faulty fault.Unterminated 0)) None) (longer_fails (keeps s) inside m lt le);
}

closed_front : (before : ℕ) (s : Style) (inside : List ℕ) (m n : ℕ) → closed_at s false inside ≡ Some n → n + quotes s ≤ m
    → m ≤ length inside
    → inside_of before s (take m inside) ≡ cond (nat_eq (n + quotes s) m) (Some (content_of before s (take n inside))) None
closed_front before s inside m n e reach le =
    ap (closed_or_not before s (take m inside)) (still_closed s false inside m n e reach)
    ∙ ap (λ x. cond (nat_eq (n + quotes s) x) (Some (content_of before s (take n (take m inside)))) None) (length-take-le m inside le)
    ∙ ap (λ (x : List ℕ). cond (nat_eq (n + quotes s) m) (Some (content_of before s x)) None) (take-take n m inside (omega arith))

differs : (a b : ℕ) → a < b → nat_eq a b ≡ false
differs a b lt = search (rules)

closed_ends : (before : ℕ) (s : Style) (inside : List ℕ) (n : ℕ) → closed_at s false inside ≡ Some n
    → Ends before s inside (n + quotes s) (content_of before s (take n inside))
closed_ends before s inside n e =
    let le = closed_within s false inside n e in
    record {
      here = le;
      is = closed_front before s inside (n + quotes s) n e (omega arith) le
          ∙ ap (λ b. cond b (Some (content_of before s (take n inside))) None) (eq-eqb (n + quotes s) (n + quotes s) refl);
      longest = λ m lt le'. closed_front before s inside m n e (omega arith) le'
          ∙ ap (λ b. cond b (Some (content_of before s (take n inside))) None) (differs (n + quotes s) m lt);
    }

-- bytes with an opening
pub record IsTextual (c : ℕ) (rest : List ℕ) (o : ℕ × Style) : Type 0 where
  pub opens : opening (c ∷ rest) ≡ Some o
  pub reads : (m : ℕ) → opening (c ∷ take m rest) ≡ Some o → piece_of (c ∷ take m rest) ≡ text_of o (c ∷ take m rest)

text_front : (c : ℕ) (rest : List ℕ) (o : ℕ × Style) → IsTextual c rest o → (m j : ℕ) → m ≡ o.0 + j
    → piece_of (take m (c ∷ rest)) ≡ inside_of o.0 o.1 (take j (drop o.0 (c ∷ rest)))
text_front c rest o t zero j e = absurd (let h = (is_opening c rest o t.opens).some in omega arith)
text_front c rest o t (suc m) j e =
    t.reads m (opening_some c rest m o t.opens (omega arith))
    ∙ ap (λ (x : List ℕ). inside_of o.0 o.1 x) (ap (λ x. drop o.0 (take x (c ∷ rest))) e ∙ drop-take o.0 j (c ∷ rest))

next_by : (c : ℕ) (rest : List ℕ) (o : ℕ × Style) (n k : ℕ) (what : Piece) → IsTextual c rest o → n ≡ o.0 + k
    → Ends o.0 o.1 (drop o.0 (c ∷ rest)) k what → IsNext (c ∷ rest) n what
next_by c rest o n k what t e ends =
    let is = is_opening c rest o t.opens in
    let some = is.some in
    let within = is.within in
    let here = ends.here in
    let len = length-drop o.0 (c ∷ rest) in
    record {
      some = omega arith;
      here = omega arith;
      piece = text_front c rest o t n k e ∙ ends.is;
      longest = λ m lt le. text_front c rest o t m (m - o.0) (omega arith) ∙ ends.longest (m - o.0) (omega arith) (omega arith);
    }

text_by : (c : ℕ) (rest : List ℕ) (o : ℕ × Style) (closing : Option ℕ) → IsTextual c rest o
    → closed_at o.1 false (drop o.0 (c ∷ rest)) ≡ closing
    → IsNext (c ∷ rest) (literal_at o.0 o.1 (drop o.0 (c ∷ rest)) closing).0 (literal_at o.0 o.1 (drop o.0 (c ∷ rest)) closing).1
text_by c rest o None t e = next_by c rest o _ _ _ t refl (open_ends o.0 o.1 (drop o.0 (c ∷ rest)) e)
text_by c rest o (Some n) t e =
    next_by c rest o (o.0 + n + quotes o.1) (n + quotes o.1) _ t (omega arith) (closed_ends o.0 o.1 (drop o.0 (c ∷ rest)) n e)

pub text_next : (c : ℕ) (rest : List ℕ) (o : ℕ × Style) → IsTextual c rest o
    → IsNext (c ∷ rest) (text_at o.0 o.1 (drop o.0 (c ∷ rest))).0 (text_at o.0 o.1 (drop o.0 (c ∷ rest))).1
text_next c rest o t = text_by c rest o (closed_at o.1 false (drop o.0 (c ∷ rest))) t refl
