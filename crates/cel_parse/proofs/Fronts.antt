-- What comes first among tokens, as a reader that goes from left to right asks for it.
use Rattle.std.proofs.Common.{◌≡◌, ℕ, ◌<◌, Bool, true, false, List, [], ◌∷◌}
use Rattle.std.proofs.Common.{Option, Some, None, refl, ap, ◌∙◌, inl, inr, arith}
use Rattle.std.specs.Prelude.{nat_lt, max, ◌⊎◌}
use Rattle.std.proofs.lemmas.Bool.{eq-eqb}
use Rattle.std.proofs.lemmas.Bool.Decides.{eqb_tells}
use Rattle.cel_lex.specs.declared.token.Infix.TheVariants as op
use Rattle.cel_lex.specs.declared.token.TokenKind.{TokenKind}
use Rattle.cel_lex.specs.declared.token.TokenKind.TheVariants as kind
use Rattle.cel_lex.specs.declared.token.Token.{Token}
use Rattle.cel_parse.specs.declared.heads.Closer.{Closer}
use Rattle.cel_parse.specs.declared.heads.Closer.TheVariants as closer
use Rattle.cel_parse.specs.declared.tree.Joint.{Joint}
use Rattle.cel_parse.specs.declared.tree.Joint.TheVariants as joint
use Rattle.cel_parse.specs.declared.tree.Tree.{Tree}
use Rattle.cel_parse.specs.Grammar.{Part, looseness, joint_kind, closes, takes_comma, Ends, end, comma_end, Joins}
use Rattle.cel_parse.specs.Grammar.{Derives, whole, chosen, or_one, or_more, and_one, and_more, relation_one, relation_more}
use Rattle.cel_parse.specs.Grammar.{sum_one, sum_more, product_one, product_more, bare, nots, minuses, not_one, not_more}
use Rattle.cel_parse.specs.Grammar.{negative, minus_one, minus_more, alone, selected, method_called, indexed, none, yes}
use Rattle.cel_parse.specs.Grammar.{no, int, uint, string, named, called, within, listed, mapped}
use Rattle.cel_parse.specs.Descent.{kept, head_if, is_open, is_comma, is_question, suffix_of, suffix_at}
use Rattle.cel_parse.specs.Descent.{chosen_operator, joint_of, operator_at, if_at, comma_if, spare_comma_at, end_at}

-- whether a kind of token comes first
pub head_kept : (t : Token) (p : TokenKind → Bool) (ts : List Token) → p t.kind ≡ true → head_if p (t ∷ ts) ≡ Some (t.start, ts)
head_kept t p ts h = ap (λ b. kept b t ts) h

pub head_not : (t : Token) (p : TokenKind → Bool) (ts : List Token) → p t.kind ≡ false → head_if p (t ∷ ts) ≡ None
head_not t p ts h = ap (λ b. kept b t ts) h

-- how loosely what comes first binds, if it goes on an expression
abbrev pub front_of : TokenKind → ℕ
front_of (kind.Operator o) = looseness (joint.Infix o)
front_of kind.In = 3
front_of kind.Question = 6
front_of kind.Dot = 0
front_of kind.Open = 0
front_of kind.OpenBracket = 0
front_of _ = 9

abbrev pub front : List Token → ℕ
front [] = 9
front (t ∷ ts) = front_of t.kind

pub joint_front : (o : Joint) → front_of (joint_kind o) ≡ looseness o
joint_front (joint.Infix o) = refl
joint_front joint.In = refl

no_operator : (n : ℕ) (o : Joint) (place : ℕ) (ts : List Token) → n < looseness o
    → chosen_operator (Rattle.std.specs.Prelude.nat_eq (looseness o) n) o place ts ≡ None
no_operator n o place ts lt =
    elim (eqb_tells (looseness o) n) [
      | inl h ↦ let e = h.1 in absurd (omega arith)
      | inr h ↦ ap (λ b. chosen_operator b o place ts) h.0
    ]

abbrev chosen_at : ℕ → Option (Joint × ℕ × List Token) → Option (Joint × ℕ × List Token)
chosen_at n o = if_at o None (λ x. chosen_operator (Rattle.std.specs.Prelude.nat_eq (looseness x.0) n) x.0 x.1 x.2)

front_none_of : (n : ℕ) (k : TokenKind) (place : ℕ) (ts : List Token) → n < front_of k → chosen_at n (joint_of k place ts) ≡ None
front_none_of n (kind.Operator o) place ts lt = no_operator n (joint.Infix o) place ts lt
front_none_of n kind.In place ts lt = no_operator n joint.In place ts lt
front_none_of n _ place ts lt = refl

pub front_none : (n : ℕ) (ts : List Token) → n < front ts → operator_at n ts ≡ None
front_none n [] lt = refl
front_none n (t ∷ ts) lt = front_none_of n t.kind t.start ts lt

no_question_of : (k : TokenKind) → 6 < front_of k → is_question k ≡ false
no_question_of kind.Question lt = absurd (omega arith)
no_question_of _ lt = refl

pub no_question : (ts : List Token) → 6 < front ts → head_if is_question ts ≡ None
no_question [] lt = refl
no_question (t ∷ ts) lt = head_not t is_question ts (no_question_of t.kind lt)

no_open_of : (k : TokenKind) → 0 < front_of k → is_open k ≡ false
no_open_of kind.Open lt = absurd (omega arith)
no_open_of _ lt = refl

pub no_open : (ts : List Token) → 0 < front ts → head_if is_open ts ≡ None
no_open [] lt = refl
no_open (t ∷ ts) lt = head_not t is_open ts (no_open_of t.kind lt)

no_suffix_of : (k : TokenKind) (place : ℕ) (ts : List Token) → 0 < front_of k → suffix_of k place ts ≡ None
no_suffix_of kind.Dot place ts lt = absurd (omega arith)
no_suffix_of kind.OpenBracket place ts lt = absurd (omega arith)
no_suffix_of _ place ts lt = refl

pub no_suffix : (ts : List Token) → 0 < front ts → suffix_at ts ≡ None
no_suffix [] lt = refl
no_suffix (t ∷ ts) lt = no_suffix_of t.kind t.start ts lt

joint_kept : (o : Joint) (n place : ℕ) (mid : List Token) → looseness o ≡ n
    → chosen_at n (joint_of (joint_kind o) place mid) ≡ Some (o, place, mid)
joint_kept (joint.Infix o) n place mid h = ap (λ b. chosen_operator b (joint.Infix o) place mid) (eq-eqb (looseness (joint.Infix o)) n h)
joint_kept joint.In n place mid h = ap (λ b. chosen_operator b joint.In place mid) (eq-eqb 3 n h)

pub operator_kept : {t : Token} {o : Joint} (n : ℕ) (mid : List Token) → Joins t o n
    → operator_at n (t ∷ mid) ≡ Some (o, t.start, mid)
operator_kept {t} {o} n mid j = ap (λ k. chosen_at n (joint_of k t.start mid)) j.kind ∙ joint_kept o n t.start mid j.loose

-- a token with which an expression begins
abbrev is_start : TokenKind → Bool
is_start kind.Null = true
is_start kind.True = true
is_start kind.False = true
is_start (kind.Int n) = true
is_start (kind.Uint n) = true
is_start (kind.Text s) = true
is_start kind.Name = true
is_start kind.Open = true
is_start kind.OpenBracket = true
is_start kind.OpenBrace = true
is_start kind.Bang = true
is_start (kind.Operator op.Subtract) = true
is_start _ = false

pub data Begins : List Token → Type 0 where
  begins : {t : Token} {ts : List Token} → is_start t.kind ≡ true → Begins (t ∷ ts)

starts : {t : Token} {ts : List Token} {k : TokenKind} → t.kind ≡ k → is_start k ≡ true → Begins (t ∷ ts)
starts q h = begins (ap is_start q ∙ h)

pub begins_of : {p : Part} {ts rest : List Token} {e : Tree} → Derives p ts rest e → Begins ts
begins_of (whole d) = begins_of d
begins_of (chosen dc hq da hk db) = begins_of dc
begins_of (or_one d) = begins_of d
begins_of (or_more d j r) = begins_of d
begins_of (and_one d) = begins_of d
begins_of (and_more d j r) = begins_of d
begins_of (relation_one d) = begins_of d
begins_of (relation_more d j r) = begins_of d
begins_of (sum_one d) = begins_of d
begins_of (sum_more d j r) = begins_of d
begins_of (product_one d) = begins_of d
begins_of (product_more d j r) = begins_of d
begins_of (bare d) = begins_of d
begins_of (nots d) = begins_of d
begins_of (minuses d) = begins_of d
begins_of (not_one q d) = starts q refl
begins_of (not_more q d) = starts q refl
begins_of (negative q h) = starts q refl
begins_of (minus_one q l d) = starts q refl
begins_of (minus_more q d) = starts q refl
begins_of (alone d) = begins_of d
begins_of (selected d q h) = begins_of d
begins_of (method_called d q h z r) = begins_of d
begins_of (indexed d q r h) = begins_of d
begins_of (none q) = starts q refl
begins_of (yes q) = starts q refl
begins_of (no q) = starts q refl
begins_of (int q) = starts q refl
begins_of (uint q) = starts q refl
begins_of (string q) = starts q refl
begins_of (named q) = starts q refl
begins_of (called q h r) = starts q refl
begins_of (within q d h) = starts q refl
begins_of (listed q r) = starts q refl
begins_of (mapped q r) = starts q refl

start_shuts : (c : Closer) (k : TokenKind) → is_start k ≡ true → closes c k ≡ false
start_shuts closer.Parenthesis kind.Close h = absurd cc
start_shuts closer.Bracket kind.CloseBracket h = absurd cc
start_shuts closer.Brace kind.CloseBrace h = absurd cc
start_shuts c k h = grind (arith)

start_comma : (k : TokenKind) → is_start k ≡ true → is_comma k ≡ false
start_comma kind.Comma h = absurd cc
start_comma _ h = refl

begins_shut : (c : Closer) (ts : List Token) → Begins ts → head_if (closes c) ts ≡ None
begins_shut c [] h = elim h [ ]
begins_shut c (t ∷ ts) (begins h) = head_not t (closes c) ts (start_shuts c t.kind h)

begins_comma : (ts : List Token) → Begins ts → head_if is_comma ts ≡ None
begins_comma [] h = elim h [ ]
begins_comma (t ∷ ts) (begins h) = head_not t is_comma ts (start_comma t.kind h)

pub begins_spare : (b : Bool) (ts : List Token) → Begins ts → comma_if b ts ≡ None
begins_spare true ts h = begins_comma ts h
begins_spare false ts h = refl

pub begins_end : (c : Closer) (ts : List Token) → Begins ts → end_at c ts ≡ None
begins_end c ts h =
    ap (λ (o : Option (ℕ × List Token)). if_at o (if_at (spare_comma_at c ts) None (λ x. head_if (closes c) x.1)) Some)
    (begins_shut c ts h)
    ∙ ap (λ (o : Option (ℕ × List Token)). if_at o None (λ x. head_if (closes c) x.1)) (begins_spare (takes_comma c) ts h)

comma_shuts : (c : Closer) → closes c kind.Comma ≡ false
comma_shuts closer.Parenthesis = refl
comma_shuts closer.Bracket = refl
comma_shuts closer.Brace = refl

-- after a comma that an item follows
spare_by : (b : Bool) (c : Closer) (m : Token) (mid : List Token) → m.kind ≡ kind.Comma → Begins mid
    → if_at (comma_if b (m ∷ mid)) None (λ x. head_if (closes c) x.1) ≡ None
spare_by true c m mid q h =
    ap (λ (o : Option (ℕ × List Token)). if_at o None (λ x. head_if (closes c) x.1)) (head_kept m is_comma mid (ap is_comma q))
    ∙ begins_shut c mid h
spare_by false c m mid q h = refl

pub comma_no_end : (c : Closer) (m : Token) (mid : List Token) → m.kind ≡ kind.Comma → Begins mid → end_at c (m ∷ mid) ≡ None
comma_no_end c m mid q h =
    ap (λ (o : Option (ℕ × List Token)). if_at o (if_at (spare_comma_at c (m ∷ mid)) None (λ x. head_if (closes c) x.1)) Some)
    (head_not m (closes c) mid (ap (closes c) q ∙ comma_shuts c))
    ∙ spare_by (takes_comma c) c m mid q h

-- what closes a list is found
pub end_kept : {c : Closer} {ts rest : List Token} → Ends c ts rest → (place : ℕ) × (end_at c ts ≡ Some (place, rest))
end_kept {c} (end {k = t} {rest} q) = (
  t.start,
  ap
      (λ (o : Option (ℕ × List Token)). if_at o (if_at (spare_comma_at c (t ∷ rest)) None (λ x. head_if (closes c) x.1)) Some)
      (head_kept t (closes c) rest q),
)
end_kept {c} (comma_end {m} {k = t} {rest} z h q) = (
  t.start,
  ap (λ (o : Option (ℕ × List Token)). if_at o (if_at (spare_comma_at c (m ∷ t ∷ rest)) None (λ x. head_if (closes c) x.1)) Some)
      (head_not m (closes c) (t ∷ rest) (ap (closes c) h ∙ comma_shuts c))
      ∙ ap (λ (b : Bool). if_at (comma_if b (m ∷ t ∷ rest)) None (λ x. head_if (closes c) x.1)) z
      ∙ ap (λ (o : Option (ℕ × List Token)). if_at o None (λ x. head_if (closes c) x.1))
      (head_kept m is_comma (t ∷ rest) (ap is_comma h))
      ∙ head_kept t (closes c) rest q,
)

pub closing_front : (c : Closer) (k : TokenKind) → closes c k ≡ true → front_of k ≡ 9
closing_front closer.Parenthesis kind.Close h = refl
closing_front closer.Bracket kind.CloseBracket h = refl
closing_front closer.Brace kind.CloseBrace h = refl
closing_front _ _ h = absurd cc

pub end_front : {c : Closer} {ts rest : List Token} → Ends c ts rest → front ts ≡ 9
end_front {c} (end {k = t} q) = closing_front c t.kind q
end_front (comma_end z h q) = ap front_of h
