-- A text spells one expression, or is refused.
use Rattle.std.proofs.Common.{◌≡◌, ◌≤◌, ℕ, List, [], length, refl, sym, ap, subst, ◌∙◌, arith}
use Rattle.cel_lex.specs.declared.token.Token.{Token}
use Rattle.cel_lex.specs.declared.fault.LexFault.{LexFault}
use Rattle.cel_value.specs.declared.expr.Expr.{Expr}
use Rattle.cel_parse.specs.declared.fault.ParseFault.{ParseFault}
use Rattle.cel_parse.specs.declared.fault.ParseFault.TheVariants.{Lex, Unexpected, BadMacro}
use Rattle.cel_parse.specs.declared.tree.Tree.{Tree}
use Rattle.cel_lex.specs.Lexis.{IsCut}
use Rattle.cel_parse.specs.Limits.{depth}
use Rattle.cel_value.specs.Sizes.{depth_of, nodes_of}
use Rattle.cel_parse.specs.Macros.{first_wrong}
use Rattle.cel_parse.specs.Expansion.{expanded}
use Rattle.cel_parse.proofs.FewTokens.{few_tokens}
use Rattle.cel_parse.specs.Trees.{IsTree, IsUnexpected, HasNoTree, unexpected, too_deep}
use Rattle.cel_parse.specs.Parsing.{IsAsDeep, IsParsed, IsRefused, no_cut, no_tree, bad_macro, no_expression}
use Rattle.cel_lex.proofs.Cutting.{one_cut, one_refusal, no_refusal}
use Rattle.cel_parse.specs.Grammar.{Derives, Expression}
use Rattle.cel_parse.proofs.Stages.{agrees_self}
use Rattle.cel_parse.proofs.Ranges.{expanded_lexical}
use Rattle.cel_parse.proofs.ExpandedDepths.{expanded_depth}
use Rattle.cel_parse.proofs.ExpandedSizes.{expanded_size}
use Rattle.cel_parse.proofs.Sizes.{sized}
use Rattle.cel_parse.proofs.OnePlace.{one_place}
use Rattle.cel_parse.proofs.Answered.{one_tree}

same_tokens : {text : List ℕ} {ts us : List Token} → IsCut text ts → IsCut text us → ts ≡ us
same_tokens p q = one_cut p.cut q.cut

same_tree : {text : List ℕ} {ts us : List Token} {a b : Tree} → IsCut text ts → IsCut text us → IsTree text ts a
    → IsTree text us b → a ≡ b
same_tree {text} {ts} {us} {a} {b} p q t u = one_tree text ts a b (few_tokens p) t (subst (λ x. IsTree text x b) (sym (same_tokens p q)) u)

pub same_expression : (text : List ℕ) (a b : Expr) → IsParsed text a → IsParsed text b → a ≡ b
same_expression text a b p q =
    let e = ap (expanded text) (same_tree p.cut q.cut p.is_tree q.is_tree) in
    let x = p.expanded in
    let y = q.expanded in
    cc

-- tokens with a tree have one
has_tree : {text : List ℕ} {ts : List Token} {e : Tree} {f : ParseFault} → HasNoTree text ts f → IsTree text ts e → ⊥
has_tree {e = e} (unexpected u) t = u.stops u.rest (agrees_self u.rest) e (subst (λ x. Derives Expression x [] e) u.tokens t.derived)
has_tree {e = e} (too_deep d) t = d.none_within e t.derived t.within

tree_or_none : {text : List ℕ} {ts us : List Token} {e : Tree} {f : ParseFault} → IsCut text ts → IsCut text us
    → HasNoTree text ts f → IsTree text us e → ⊥
tree_or_none {text} {e = e} p q n t = has_tree n (subst (λ x. IsTree text x e) (same_tokens q p) t)

pub not_both : (text : List ℕ) (e : Expr) (f : ParseFault) → IsParsed text e → IsRefused text f → ⊥
not_both text e f p (no_cut r) = no_refusal text p.tokens _ p.cut r
not_both text e f p (no_tree c n) = tree_or_none c p.cut n p.is_tree
not_both text e f p (bad_macro c t w) =
    let s = ap (first_wrong text) (same_tree p.cut c p.is_tree t) in
    let y = p.macros in
    cc
not_both text e f p (no_expression c t m x) =
    let s = ap (expanded text) (same_tree p.cut c p.is_tree t) in
    let y = p.expanded in
    cc

lexical_none : {text : List ℕ} {ts : List Token} {g : ParseFault} {f : LexFault} → HasNoTree text ts g → g ≡ Lex f → ⊥
lexical_none (unexpected u) h = cc
lexical_none (too_deep d) h = cc

-- what refuses a text in one of its numbers, or in its characters, is the only fault
first_fault : (text : List ℕ) (f : LexFault) (g h : ParseFault) → IsRefused text h → IsRefused text g → h ≡ Lex f → g ≡ h
first_fault text f g h (no_cut {f = a} r) (no_cut {f = b} s) q = ap Lex (one_refusal text b a s r)
first_fault text f g h (no_cut r) (no_tree c n) q = absurd (no_refusal text _ _ c r)
first_fault text f g h (no_cut r) (bad_macro c t w) q = absurd (no_refusal text _ _ c r)
first_fault text f g h (no_cut r) (no_expression c t m x) q = absurd (no_refusal text _ _ c r)
first_fault text f g h (no_tree c n) s q = absurd (lexical_none n q)
first_fault text f g h (bad_macro c t w) s q = absurd cc
first_fault text f g h (no_expression c t m x) (no_cut r) q = absurd (no_refusal text _ _ c r)
first_fault text f g h (no_expression c t m x) (no_tree d n) q = absurd (tree_or_none d c n t)
first_fault text f g h (no_expression c t m x) (bad_macro d u w) q = let e = ap (first_wrong text) (same_tree c d t u) in absurd cc
first_fault text f g h (no_expression c t m x) (no_expression d u k y) q = let e = ap (expanded text) (same_tree c d t u) in cc

pub only_fault : (text : List ℕ) (f : LexFault) (g : ParseFault) → IsRefused text (Lex f) → IsRefused text g → g ≡ Lex f
only_fault text f g r s = first_fault text f g (Lex f) r s refl

unexpected_of : {text : List ℕ} {ts : List Token} (f : ParseFault) (p : ℕ) → HasNoTree text ts f → f ≡ Unexpected p
    → IsUnexpected (length text) ts p
unexpected_of {text} {ts} f p (unexpected {place} u) h = subst (λ x. IsUnexpected (length text) ts x) (cc) u
unexpected_of f p (too_deep d) h = absurd cc

-- if a text is refused for an unexpected token, the token is at one place
unexpected_place : (text : List ℕ) (f g : ParseFault) (p q : ℕ) → IsRefused text f → IsRefused text g → f ≡ Unexpected p
    → g ≡ Unexpected q → p ≡ q
unexpected_place text f g p q (no_cut r) s h i = absurd cc
unexpected_place text f g p q (bad_macro c t w) s h i = absurd cc
unexpected_place text f g p q (no_expression {e = e} c t m x) s h i = absurd (let l = expanded_lexical text e f x in let k = l.1 in cc)
unexpected_place text f g p q (no_tree c n) (no_cut r) h i = absurd cc
unexpected_place text f g p q (no_tree c n) (bad_macro d u w) h i = absurd cc
unexpected_place text f g p q (no_tree c n) (no_expression {e = e} d u m y) h i =
    absurd (let l = expanded_lexical text e g y in let k = l.1 in cc)
unexpected_place text f g p q (no_tree {ts = ts} c n) (no_tree {ts = us} d m) h i =
    one_place (unexpected_of f p n h) (subst (λ x. IsUnexpected (length text) x q) (same_tokens d c) (unexpected_of g q m i))

pub one_unexpected : (text : List ℕ) (p q : ℕ) → IsRefused text (Unexpected p) → IsRefused text (Unexpected q) → p ≡ q
one_unexpected text p q r s = unexpected_place text (Unexpected p) (Unexpected q) p q r s refl refl

macro_none : {text : List ℕ} {ts : List Token} {g : ParseFault} {p : ℕ} → HasNoTree text ts g → g ≡ BadMacro p → ⊥
macro_none (unexpected u) h = cc
macro_none (too_deep d) h = cc

-- a macro that is wrong is the only fault
first_macro : (text : List ℕ) (p : ℕ) (g h : ParseFault) → IsRefused text h → IsRefused text g → h ≡ BadMacro p → g ≡ h
first_macro text p g h (no_cut r) s q = absurd cc
first_macro text p g h (no_tree c n) s q = absurd (macro_none n q)
first_macro text p g h (no_expression {e = e} c t m x) s q = absurd (let l = expanded_lexical text e h x in let k = l.1 in cc)
first_macro text p g h (bad_macro c t w) (no_cut r) q = absurd (no_refusal text _ _ c r)
first_macro text p g h (bad_macro c t w) (no_tree d n) q = absurd (tree_or_none d c n t)
first_macro text p g h (bad_macro c t w) (bad_macro d u v) q = let e = ap (first_wrong text) (same_tree c d t u) in cc
first_macro text p g h (bad_macro c t w) (no_expression d u m y) q = let e = ap (first_wrong text) (same_tree c d t u) in absurd cc

pub only_macro : (text : List ℕ) (p : ℕ) (g : ParseFault) → IsRefused text (BadMacro p) → IsRefused text g → g ≡ BadMacro p
only_macro text p g r s = first_macro text p g (BadMacro p) r s refl

-- the expression of a text is as deep as its tree, which is 100 at most
pub parsed_depth : {text : List ℕ} {e : Expr} → IsParsed text e → IsAsDeep text e
parsed_depth {text} {e} p = λ ts tree c t. expanded_depth text p.tree e p.expanded ∙ ap (depth text) (same_tree p.cut c p.is_tree t)

pub parsed_shallow : {text : List ℕ} {e : Expr} → IsParsed text e → depth_of e ≤ 100
parsed_shallow {text} {e} p = subst (λ n. n ≤ 100) (sym (expanded_depth text p.tree e p.expanded)) p.is_tree.within.shallow

-- the expression has no more nodes than the text has tokens
pub parsed_small : {text : List ℕ} {e : Expr} → IsParsed text e → nodes_of e ≤ 16384
parsed_small {text} {e} p =
    let a = expanded_size text p.tree e p.expanded in
    let b = sized p.is_tree.derived in
    let c = few_tokens p.cut in
    omega arith
