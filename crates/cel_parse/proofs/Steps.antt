-- What the steps of reading say if they succeed.
use Rattle.std.proofs.Common.{◌≡◌, ℕ, zero, suc, ◌≤◌, Bool, true, false, List, [], ◌∷◌}
use Rattle.std.proofs.Common.{Option, Some, None, Result, Ok, Err, refl, sym, ap, ◌∙◌, arith}
use Rattle.std.specs.Prelude.{nat_eq}
use Rattle.std.proofs.lemmas.Bool.{eqb-true}
use Rattle.cel_lex.specs.declared.token.Infix.{Infix}
use Rattle.cel_lex.specs.declared.token.Infix.TheVariants as op
use Rattle.cel_lex.specs.declared.token.TokenKind.{TokenKind}
use Rattle.cel_lex.specs.declared.token.TokenKind.TheVariants as kind
use Rattle.cel_lex.specs.declared.token.Token.{Token}
use Rattle.cel_parse.specs.declared.fault.ParseFault.{ParseFault}
use Rattle.cel_parse.specs.declared.heads.Closer.{Closer}
use Rattle.cel_parse.specs.declared.heads.Closer.TheVariants as closer
use Rattle.cel_parse.specs.declared.heads.Suffix.{Suffix}
use Rattle.cel_parse.specs.declared.heads.Suffix.TheVariants as suffix
use Rattle.cel_parse.specs.declared.tree.Joint.{Joint}
use Rattle.cel_parse.specs.declared.tree.Joint.TheVariants as joint
use Rattle.cel_parse.specs.declared.tree.Tree.{Tree, Binary as binary}
use Rattle.cel_parse.specs.Grammar.{Part, ConditionalOr, ConditionalAnd, Relation, Addition, Multiplication, Unary}
use Rattle.cel_parse.specs.Grammar.{looseness_of, looseness, joint_kind, closes, takes_comma, Joins, Ends}
use Rattle.cel_parse.specs.Grammar.{end, comma_end, IsLone, Derives, or_one, or_more, and_one}
use Rattle.cel_parse.specs.Grammar.{and_more, relation_one, relation_more, sum_one, sum_more, product_one, product_more}
use Rattle.cel_parse.specs.Descent.{◌>>=◌, Found, Read, more, if_at, kept, head_if, is_bang, is_open}
use Rattle.cel_parse.specs.Descent.{is_comma, is_question, is_colon, is_subtract, is_minus, number_of, number_at, suffix_of, suffix_at}
use Rattle.cel_parse.specs.Descent.{lone_at, chosen_operator, joint_of, operator_at, comma_if, spare_comma_at, end_at}

pub bang_is : (k : TokenKind) → is_bang k ≡ true → k ≡ kind.Bang
bang_is kind.Bang e = refl
bang_is _ e = absurd cc

pub open_is : (k : TokenKind) → is_open k ≡ true → k ≡ kind.Open
open_is kind.Open e = refl
open_is _ e = absurd cc

pub comma_is : (k : TokenKind) → is_comma k ≡ true → k ≡ kind.Comma
comma_is kind.Comma e = refl
comma_is _ e = absurd cc

pub close_is : (k : TokenKind) → closes closer.Parenthesis k ≡ true → k ≡ kind.Close
close_is kind.Close e = refl
close_is _ e = absurd cc

pub bracket_is : (k : TokenKind) → closes closer.Bracket k ≡ true → k ≡ kind.CloseBracket
bracket_is kind.CloseBracket e = refl
bracket_is _ e = absurd cc

pub question_is : (k : TokenKind) → is_question k ≡ true → k ≡ kind.Question
question_is kind.Question e = refl
question_is _ e = absurd cc

pub colon_is : (k : TokenKind) → is_colon k ≡ true → k ≡ kind.Colon
colon_is kind.Colon e = refl
colon_is _ e = absurd cc

subtract_is : (o : Infix) → is_subtract o ≡ true → o ≡ op.Subtract
subtract_is op.Subtract e = refl
subtract_is _ e = absurd cc

pub minus_is : (k : TokenKind) → is_minus k ≡ true → k ≡ kind.Operator op.Subtract
minus_is (kind.Operator o) e = ap kind.Operator (subtract_is o e)
minus_is _ e = absurd cc

-- the part whose operators bind so loosely
abbrev pub part : ℕ → Part
part zero = Unary
part (suc zero) = Multiplication
part (suc (suc zero)) = Addition
part (suc (suc (suc zero))) = Relation
part (suc (suc (suc (suc zero)))) = ConditionalAnd
part (suc (suc (suc (suc (suc n))))) = ConditionalOr

pub one_operand : (n : ℕ) {ts rest : List Token} {e : Tree} → Derives (part n) ts rest e → Derives (part (suc n)) ts rest e
one_operand zero d = product_one d
one_operand (suc zero) d = sum_one d
one_operand (suc (suc zero)) d = relation_one d
one_operand (suc (suc (suc zero))) d = and_one d
one_operand (suc (suc (suc (suc zero)))) d = or_one d
one_operand (suc (suc (suc (suc (suc n))))) d = d

infix_le : (o : Infix) → looseness_of o ≤ 5
infix_le op.Or = omega arith
infix_le op.And = omega arith
infix_le op.Less = omega arith
infix_le _ = omega arith

pub looseness_le : (o : Joint) → looseness o ≤ 5
looseness_le (joint.Infix o) = infix_le o
looseness_le joint.In = omega arith

pub two_operands : (n : ℕ) {ts mid rest : List Token} {t : Token} {o : Joint} {a b : Tree} → Derives (part (suc n)) ts (t ∷ mid) a
    → Joins t o (suc n) → Derives (part n) mid rest b → Derives (part (suc n)) ts rest (binary t.start o a b)
two_operands zero d j r = product_more d j r
two_operands (suc zero) d j r = sum_more d j r
two_operands (suc (suc zero)) d j r = relation_more d j r
two_operands (suc (suc (suc zero))) d j r = and_more d j r
two_operands (suc (suc (suc (suc zero)))) d j r = or_more d j r
two_operands (suc (suc (suc (suc (suc n))))) {ts} {mid} {rest} {t} {o} d j r =
    let le = looseness_le o in let l = j.loose in absurd (omega arith)

kept_cases : (P : Option (ℕ × List Token) → Type 0) (b : Bool) (t : Token) (ts : List Token) → (b ≡ false → P None)
    → (b ≡ true → P (Some (t.start, ts))) → P (kept b t ts)
kept_cases P true t ts if_not if_so = if_so refl
kept_cases P false t ts if_not if_so = if_not refl

-- whether the first token is of a kind
pub head_cases : (test : TokenKind → Bool) (P : List Token → Option (ℕ × List Token) → Type 0)
    → ((ts : List Token) → P ts None) → ((t : Token) (ts : List Token) → test t.kind ≡ true → P (t ∷ ts) (Some (t.start, ts)))
    → (ts : List Token) → P ts (head_if test ts)
head_cases test P if_not if_so [] = if_not []
head_cases test P if_not if_so (t ∷ ts) = kept_cases (P (t ∷ ts)) (test t.kind) t ts (λ h. if_not (t ∷ ts)) (if_so t ts)

number_of_cases : (k : TokenKind) (ts : List Token) (P : Option (ℕ × List Token) → Type 0) → (number_of k ts ≡ None → P None)
    → ((n : ℕ) → k ≡ kind.Int n → P (Some (n, ts))) → P (number_of k ts)
number_of_cases (kind.Int n) ts P if_not if_so = if_so n refl
number_of_cases _ ts P if_not if_so = if_not refl

-- whether a number comes first
pub number_cases : (P : List Token → Option (ℕ × List Token) → Type 0)
    → ((ts : List Token) → number_at ts ≡ None → P ts None)
    → ((t : Token) (n : ℕ) (ts : List Token) → t.kind ≡ kind.Int n → P (t ∷ ts) (Some (n, ts))) → (ts : List Token)
    → P ts (number_at ts)
number_cases P if_not if_so [] = if_not [] refl
number_cases P if_not if_so (t ∷ ts) = number_of_cases t.kind ts (P (t ∷ ts)) (if_not (t ∷ ts)) (λ n. if_so t n ts)

suffix_of_cases : (k : TokenKind) (place : ℕ) (ts : List Token) (P : Option (Suffix × ℕ × List Token) → Type 0)
    → (suffix_of k place ts ≡ None → P None) → (k ≡ kind.Dot → P (Some (suffix.Selector, place, ts)))
    → (k ≡ kind.OpenBracket → P (Some (suffix.Index, place, ts))) → P (suffix_of k place ts)
suffix_of_cases kind.Dot place ts P if_not if_dot if_bracket = if_dot refl
suffix_of_cases kind.OpenBracket place ts P if_not if_dot if_bracket = if_bracket refl
suffix_of_cases _ place ts P if_not if_dot if_bracket = if_not refl

-- whether what goes on a member comes first
pub suffix_cases : (P : List Token → Option (Suffix × ℕ × List Token) → Type 0)
    → ((ts : List Token) → suffix_at ts ≡ None → P ts None)
    → ((t : Token) (ts : List Token) → t.kind ≡ kind.Dot → P (t ∷ ts) (Some (suffix.Selector, t.start, ts)))
    → ((t : Token) (ts : List Token) → t.kind ≡ kind.OpenBracket → P (t ∷ ts) (Some (suffix.Index, t.start, ts)))
    → (ts : List Token) → P ts (suffix_at ts)
suffix_cases P if_not if_dot if_bracket [] = if_not [] refl
suffix_cases P if_not if_dot if_bracket (t ∷ ts) =
    suffix_of_cases t.kind t.start ts (P (t ∷ ts)) (if_not (t ∷ ts)) (if_dot t ts) (if_bracket t ts)

chosen_cases : (P : Option (Joint × ℕ × List Token) → Type 0) (b : Bool) (o : Joint) (place : ℕ) (ts : List Token) → P None
    → (b ≡ true → P (Some (o, place, ts))) → P (chosen_operator b o place ts)
chosen_cases P true o place ts if_not if_so = if_so refl
chosen_cases P false o place ts if_not if_so = if_not

abbrev chosen_of : ℕ → TokenKind → ℕ → List Token → Option (Joint × ℕ × List Token)
chosen_of n k place ts = if_at (joint_of k place ts) None (λ x. chosen_operator (nat_eq (looseness x.0) n) x.0 x.1 x.2)

joint_of_cases : (n : ℕ) (k : TokenKind) (place : ℕ) (ts : List Token) (P : Option (Joint × ℕ × List Token) → Type 0) → P None
    → ((o : Joint) → k ≡ joint_kind o → looseness o ≡ n → P (Some (o, place, ts))) → P (chosen_of n k place ts)
joint_of_cases n (kind.Operator o) place ts P if_not if_so =
    chosen_cases P (nat_eq (looseness_of o) n) (joint.Infix o) place ts if_not
    (λ h. if_so (joint.Infix o) refl (eqb-true (looseness_of o) n h))
joint_of_cases n kind.In place ts P if_not if_so =
    chosen_cases P (nat_eq 3 n) joint.In place ts if_not (λ h. if_so joint.In refl (eqb-true 3 n h))
joint_of_cases n _ place ts P if_not if_so = if_not

-- whether an operator of this looseness comes first
pub operator_cases : (n : ℕ) (P : List Token → Option (Joint × ℕ × List Token) → Type 0) → ((ts : List Token) → P ts None)
    → ((t : Token) (o : Joint) (ts : List Token) → Joins t o n → P (t ∷ ts) (Some (o, t.start, ts))) → (ts : List Token)
    → P ts (operator_at n ts)
operator_cases n P if_not if_so [] = if_not []
operator_cases n P if_not if_so (t ∷ ts) =
    joint_of_cases n t.kind t.start ts (P (t ∷ ts)) (if_not (t ∷ ts)) (λ o h l. if_so t o ts (record { kind = h; loose = l }))

-- whether what closes a list comes first, and a comma in front of it
module _ (c : Closer) (P : List Token → Option (ℕ × List Token) → Type 0) (if_not : (ts : List Token) → P ts None)
    (if_so : (place : ℕ) (ts rest : List Token) → Ends c ts rest → P ts (Some (place, rest))) where
  comma_by : (b : Bool) → takes_comma c ≡ b → (ts : List Token) → P ts (if_at (comma_if b ts) None (λ x. head_if (closes c) x.1))
  comma_by false h ts = if_not ts
  comma_by true h ts =
      head_cases is_comma (λ us o. P us (if_at o None (λ x. head_if (closes c) x.1))) if_not
      (λ m us q. head_cases (closes c) (λ vs o. P (m ∷ vs) o) (λ vs. if_not (m ∷ vs))
      (λ k vs z. if_so k.start (m ∷ k ∷ vs) vs (comma_end h (comma_is m.kind q) z)) us)
      ts

  pub end_cases : (ts : List Token) → P ts (end_at c ts)
  end_cases =
      head_cases (closes c) (λ us o. P us (if_at o (if_at (spare_comma_at c us) None (λ x. head_if (closes c) x.1)) Some))
      (comma_by (takes_comma c) refl) (λ k us z. if_so k.start (k ∷ us) us (end z))

-- what there may be
pub option_cases : {A : Type 0} (P : Option A → Type 0) (o : Option A) → (o ≡ None → P None)
    → ((x : A) → o ≡ Some x → P (Some x)) → P o
option_cases P None if_not if_so = if_not refl
option_cases P (Some x) if_not if_so = if_so x refl

-- whether a number that nothing goes on comes first
module _ (P : List Token → Option (ℕ × List Token) → Type 0) (if_not : (ts : List Token) → lone_at ts ≡ None → P ts None)
    (if_so : (t : Token) (n : ℕ) (ts : List Token) → t.kind ≡ kind.Int n → suffix_at ts ≡ None → P (t ∷ ts)
    (Some (n, ts))) where
  lone_by : (k : TokenKind) (t : Token) (ts : List Token) → t.kind ≡ k
      → P (t ∷ ts) (if_at (number_of k ts) None (λ n. if_at (suffix_at n.1) (Some n) (λ s. None)))
  lone_by (kind.Int n) t ts q =
      option_cases (λ o. P (t ∷ ts) (if_at o (Some (n, ts)) (λ s. None))) (suffix_at ts) (λ h. if_so t n ts q h)
      (λ s h. if_not (t ∷ ts) (ap (λ k. if_at (number_of k ts) None (λ n. if_at (suffix_at n.1) (Some n) (λ s. None))) q
      ∙ ap (λ (o : Option (Suffix × ℕ × List Token)). if_at o (Some (n, ts)) (λ s. None)) h))
  lone_by _ t ts q = if_not (t ∷ ts) (ap (λ k. if_at (number_of k ts) None (λ n. if_at (suffix_at n.1) (Some n) (λ s. None))) q)

  pub lone_cases : (ts : List Token) → P ts (lone_at ts)
  lone_cases [] = if_not [] refl
  lone_cases (t ∷ ts) = lone_by t.kind t ts refl

-- a number alone is one that nothing goes on
pub lone_kept : (ts rest : List Token) → suffix_at rest ≡ None → lone_at ts ≡ None → ¬ (IsLone ts rest)
lone_kept ts rest h none l =
    let first : number_at ts ≡ Some (l.magnitude, rest) = ap number_at l.alone ∙ ap (λ (k : TokenKind). number_of k rest) l.kind in
    let one : lone_at ts ≡ Some (l.magnitude, rest) =
    ap (λ (o : Option (ℕ × List Token)). if_at o None (λ n. if_at (suffix_at n.1) (Some n) (λ s. None))) first
    ∙ ap (λ (o : Option (Suffix × ℕ × List Token)). if_at o (Some (l.magnitude, rest)) (λ s. None)) h in
    cc

-- what a step that succeeded was made of
pub bind_ok : {A B : Type 0} (r : Result A ParseFault) (go : A → Result B ParseFault) (y : B) → (r >>= go) ≡ Ok y
    → (x : A) × (r ≡ Ok x) × (go x ≡ Ok y)
bind_ok (Ok x) go y e = (x, refl, e)
bind_ok (Err f) go y e = absurd cc

-- what is read further and further ends if nothing that is asked for comes first
pub more_ends : {A : Type 0} (ask : List Token → Option A) (act : A → Found Tree → Read) (turns : ℕ) (left f : Found Tree)
    → more ask act turns left ≡ Ok f → ask f.rest ≡ None
unfolding more
more_ends ask act zero left f e = absurd cc
more_ends ask act (suc turns) left f e =
    option_cases
    (λ o. ask left.rest ≡ o → if_at o (Ok left) (λ x. act x left >>= more ask act turns) ≡ Ok f → ask f.rest ≡ None)
    (ask left.rest)
    (λ h q e. let same : left ≡ f = cc in ap (λ (g : Found Tree). ask g.rest) (sym same) ∙ q)
    (λ x h q e. let b = bind_ok (act x left) (more ask act turns) f e in more_ends ask act turns b.0 f b.2)
    refl e
