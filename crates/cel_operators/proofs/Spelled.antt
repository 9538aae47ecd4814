-- Where the bytes of a text occur in those of another, its code points occur in the other's, and the other way round.
use Rattle.std.proofs.Common.{◌≡◌, ◌≤◌, ◌↔◌, ℕ, Bool, true, false, List, [], ◌∷◌, ◌++◌, length, take, drop, get_or, ◌-◌, None, ap, sym, ◌∙◌}
use Rattle.std.proofs.Common.{refl, subst}
use Rattle.std.proofs.Common.{inl, inr, arith, length-append}
use Rattle.std.proofs.Math.Seq.{take-append_seam, get_or-append_seam}
use Rattle.std.proofs.lemmas.Bool.{or_cases, or_left, or_right}
use Rattle.std.proofs.lemmas.Bool.Decides.{Decides-eqb}
use Rattle.std.proofs.lemmas.Slice.Eq.{starts_is, ends_is}
use Rattle.std.proofs.lemmas.Str.{chars-nil, chars-append, encodes-append, encodes-chars, IsUtf8-take, IsCharBoundary-start}
use Rattle.std.proofs.lemmas.Str.{IsCharBoundary-at_seam}
use Rattle.std.proofs.lemmas.Str.Pattern.{starts_text, ends_text, contains_text}
use Rattle.std.specs.Bool.{MatchBool}
use Rattle.std.specs.Prelude.{nat_eq}
use Rattle.std.specs.Str.{chars, IsUtf8, IsCharBoundary}
use Rattle.std.specs.Str.Pattern.{HasMatch, FindsText, HasPrefixMatch, FindsTextPrefix, HasSuffixMatch, FindsTextSuffix}
use Rattle.std.specs.List.{starts_with as begins_with}
use lib.Utf8.{encodes}
use Rattle.cel_operators.specs.Parts.{starts_with, ends_with, contains, stand_in, StartsWith, EndsWith, Contains}

-- two tests of one fact give one answer
one_answer : (a b : Bool) (P : Type 0) → (a ≡ true) ↔ P → (b ≡ true → P) → (P → b ≡ true) → a ≡ b
one_answer true b P f g h = sym (h (f.0 refl))
one_answer false true P f g h = f.1 (g refl)
one_answer false false P f g h = refl

module _ (text part : List ℕ) (of_text : IsUtf8 text) (of_part : IsUtf8 part) where
  -- code points that are there, as bytes
  first_bytes : (rest : List ℕ) → chars text ≡ chars part ++ rest → text ≡ part ++ encodes rest
  first_bytes rest e =
      sym (encodes-chars text of_text) ∙ ap encodes e ∙ encodes-append (chars part) rest
      ∙ ap (λ l. l ++ encodes rest) (encodes-chars part of_part)

  last_bytes : (front : List ℕ) → chars text ≡ front ++ chars part → text ≡ encodes front ++ part
  last_bytes front e =
      sym (encodes-chars text of_text) ∙ ap encodes e ∙ encodes-append front (chars part)
      ∙ ap (λ l. encodes front ++ l) (encodes-chars part of_part)

  inner_bytes : (front rest : List ℕ) → chars text ≡ front ++ (chars part ++ rest) → text ≡ encodes front ++ (part ++ encodes rest)
  inner_bytes front rest e =
      sym (encodes-chars text of_text) ∙ ap encodes e ∙ encodes-append front (chars part ++ rest)
      ∙ ap (λ l. encodes front ++ l) (encodes-append (chars part) rest ∙ ap (λ l. l ++ encodes rest) (encodes-chars part of_part))

  -- what is before a place where the text may be cut
  before : (front rest : List ℕ) → text ≡ front ++ rest → IsCharBoundary text (length front) → IsUtf8 front
  before front rest e cut = subst IsUtf8 (ap (take (length front)) e ∙ take-append_seam front rest)
      (IsUtf8-take text (length front) of_text cut)

  -- bytes that are there, as code points
  first_spelled : (rest : List ℕ) → text ≡ part ++ rest → StartsWith text part
  first_spelled rest e = (chars rest, ap chars e ∙ chars-append part rest of_part)

  last_spelled : (front : List ℕ) → text ≡ front ++ part → EndsWith text part
  last_spelled front e =
      (chars front, ap chars e ∙ chars-append front part (before front part e (IsCharBoundary-at_seam text front part e of_part)))

  pub first : (r : Bool) → MatchBool r (HasPrefixMatch (FindsTextPrefix part) text) (FindsTextPrefix part text None)
      → (r ≡ true) ↔ StartsWith text part
  first r m =
      let d = starts_is Decides-eqb text part r (starts_text r part text m) in
      (λ t. first_spelled (drop (length part) text) (d.0 t), λ h. d.1 (encodes h.0) (first_bytes h.0 h.1))

  pub last : (r : Bool) → MatchBool r (HasSuffixMatch (FindsTextSuffix part) text) (FindsTextSuffix part text None)
      → (r ≡ true) ↔ EndsWith text part
  last r m =
      let d = ends_is Decides-eqb text part r (ends_text r part text m) in
      (λ t. last_spelled (take (length text - length part) text) (d.0 t), λ h. d.1 (encodes h.0) (last_bytes h.0 h.1))

-- a text that has another's bytes somewhere has its code points there: a byte at which a character begins is no byte further on in one
inner_spelled : (text part : List ℕ) → IsUtf8 text → IsUtf8 part → (front rest : List ℕ) → text ≡ front ++ (part ++ rest)
    → Contains text part
inner_spelled text [] of_text of_part front rest e = ([], chars text, ap (λ l. l ++ chars text) (sym chars-nil))
inner_spelled text (b ∷ bs) of_text of_part front rest e =
    let at : get_or text (length front) 0 ≡ b = ap (λ l. get_or l (length front) 0) e ∙ get_or-append_seam front b (bs ++ rest) 0 in
    let lead = (IsCharBoundary-start (b ∷ bs) of_part).1 in
    let cut : IsCharBoundary text (length front) = (
      omega (arith, ap length e, length-append front ((b ∷ bs) ++ rest)),
      λ within high. subst (λ n. 192 ≤ n) (sym at)
          (lead (omega arith) (subst (λ n. 128 ≤ n) at high)),
    ) in (
      chars front,
      chars rest,
      ap chars e ∙ chars-append front ((b ∷ bs) ++ rest) (before text (b ∷ bs) of_text of_part front ((b ∷ bs) ++ rest) e cut)
          ∙ ap (λ l. chars front ++ l) (chars-append (b ∷ bs) rest of_part),
    )

pub inner : (text part : List ℕ) → IsUtf8 text → IsUtf8 part → (r : Bool)
    → MatchBool r (HasMatch (FindsText part) text) (FindsText part text None) → (r ≡ true) ↔ Contains text part
inner text part of_text of_part r m =
    let d = contains_text r part text m in (
      λ t. let h = d.0 t in inner_spelled text part of_text of_part h.0 h.1 h.2,
      λ h. d.1 (encodes h.0, encodes h.1, inner_bytes text part of_text of_part h.0 h.1 h.2),
    )

-- the tests say what the relations do
stands : (part cs : List ℕ) → stand_in part cs ≡ true → (front : List ℕ) × (rest : List ℕ) × (cs ≡ front ++ (part ++ rest))
stands part [] t = ([], drop (length part) [], (starts_is Decides-eqb [] part _ refl).0 t)
stands part (c ∷ cs) t = elim (or_cases (begins_with nat_eq (c ∷ cs) part) (stand_in part cs) t) [
  | inl h ↦ ([], drop (length part) (c ∷ cs), (starts_is Decides-eqb (c ∷ cs) part _ refl).0 h)
  | inr h ↦ let w = stands part cs h in (c ∷ w.0, w.1, ap (λ l. c ∷ l) w.2)
]

at_head : (part cs : List ℕ) → begins_with nat_eq cs part ≡ true → stand_in part cs ≡ true
at_head part [] h = h
at_head part (c ∷ cs) h = or_left _ _ h

further_on : (part front rest : List ℕ) → stand_in part (front ++ (part ++ rest)) ≡ true
further_on part [] rest = at_head part (part ++ rest) ((starts_is Decides-eqb (part ++ rest) part _ refl).1 rest refl)
further_on part (x ∷ front) rest = or_right _ _ (further_on part front rest)

pub first_is : (text part : List ℕ) (r : Bool) → (r ≡ true) ↔ StartsWith text part → r ≡ starts_with text part
first_is text part r law =
    let d = starts_is Decides-eqb (chars text) (chars part) (starts_with text part) refl in
    one_answer r (starts_with text part) (StartsWith text part) law (λ t. (drop (length (chars part)) (chars text), d.0 t))
    (λ h. d.1 h.0 h.1)

pub last_is : (text part : List ℕ) (r : Bool) → (r ≡ true) ↔ EndsWith text part → r ≡ ends_with text part
last_is text part r law =
    let d = ends_is Decides-eqb (chars text) (chars part) (ends_with text part) refl in
    one_answer r (ends_with text part) (EndsWith text part) law
    (λ t. (take (length (chars text) - length (chars part)) (chars text), d.0 t)) (λ h. d.1 h.0 h.1)

pub inner_is : (text part : List ℕ) (r : Bool) → (r ≡ true) ↔ Contains text part → r ≡ contains text part
inner_is text part r law =
    one_answer r (contains text part) (Contains text part) law (stands (chars part) (chars text))
    (λ h. subst (λ l. stand_in (chars part) l ≡ true) (sym h.2) (further_on (chars part) h.0 h.1))
