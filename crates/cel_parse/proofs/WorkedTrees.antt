-- Worked rows of the definitions.
use Rattle.std.proofs.Common.{◌≡◌, ℕ, ◌+◌, List, [], ◌∷◌, true, false, refl, ◌∙◌}
use Rattle.std.specs.Prelude.{max, codes}
use Rattle.cel_lex.specs.declared.token.Infix.TheVariants as op
use Rattle.cel_lex.specs.declared.token.TokenKind.{TokenKind}
use Rattle.cel_lex.specs.declared.token.TokenKind.TheVariants as kind
use Rattle.cel_lex.specs.declared.token.Token.{Token}
use Rattle.cel_value.specs.declared.expr.UnaryOperator.TheVariants.{Not}
use Rattle.cel_parse.specs.declared.tree.Joint.TheVariants.{Infix}
use Rattle.cel_parse.specs.declared.tree.Tree.{Number as number, Truth as truth, Unary as unary, Binary as binary, List as list}
use Rattle.cel_parse.specs.Words.{word_at}
use Rattle.cel_parse.specs.Grammar.{Expression, Derives, whole, or_one, and_one, relation_one, sum_one, sum_more}
use Rattle.cel_parse.specs.Grammar.{product_one, bare, nots, minuses, not_more, not_one, negative, alone}
use Rattle.cel_parse.specs.Grammar.{int, yes, listed, comma_end, no_items, items, last_item}
use Rattle.cel_parse.specs.Limits.{depth, nests}
use Rattle.cel_parse.proofs.Depths.{depth-number, depth-binary}

abbrev token_at : TokenKind → ℕ → ℕ → Token
token_at kind start finish = record { kind = kind; start = start; end = finish }

-- "-9223372036854775808"
pub least_number : (t n : Token) → t.kind ≡ kind.Operator op.Subtract → n.kind ≡ kind.Int 9223372036854775808
    → Derives Expression (t ∷ n ∷ []) [] (number t.start true 9223372036854775808)
least_number t n h k = whole (or_one (and_one (relation_one (sum_one (product_one (minuses (negative h k)))))))

-- "!!true"
pub signs_nest : (s t u : Token) → s.kind ≡ kind.Bang → t.kind ≡ kind.Bang → u.kind ≡ kind.True
    → Derives Expression (s ∷ t ∷ u ∷ []) [] (unary s.start Not (unary t.start Not (truth u.start true)))
signs_nest s t u h k l = whole (or_one (and_one (relation_one (sum_one (product_one (nots (not_more h (not_one k (alone (yes l))))))))))

-- "1 - 2 - 3" is "(1 - 2) - 3"
pub left_first : (a s b t c : Token) → a.kind ≡ kind.Int 1 → s.kind ≡ kind.Operator op.Subtract → b.kind ≡ kind.Int 2
    → t.kind ≡ kind.Operator op.Subtract → c.kind ≡ kind.Int 3 → Derives Expression (a ∷ s ∷ b ∷ t ∷ c ∷ []) []
    (binary t.start (Infix op.Subtract) (binary s.start (Infix op.Subtract) (number a.start false 1) (number b.start false 2))
    (number c.start false 3))
left_first a s b t c h i j k l =
    whole
    (or_one (and_one (relation_one (sum_more
    (sum_more (sum_one (product_one (bare (alone (int h))))) (record { kind = i; loose = refl }) (product_one (bare (alone (int j)))))
    (record { kind = k; loose = refl }) (product_one (bare (alone (int l))))))))

pub sum_is_one_deeper : (source : List ℕ) → depth source (binary 2 (Infix op.Add) (number 0 false 1) (number 4 false 2)) ≡ 2
sum_is_one_deeper source =
    depth-binary source 2 (Infix op.Add) (number 0 false 1) (number 4 false 2)
    ∙ both (depth-number source 0 false 1) (depth-number source 4 false 2)
  where
    both : {a b : ℕ} → a ≡ 1 → b ≡ 1 → max a b + 1 ≡ 2
    both p q = rw (p, q) refl

-- "[1,]" and "[,]"
pub list_ends_in_a_comma : (o a m k : Token) → o.kind ≡ kind.OpenBracket → a.kind ≡ kind.Int 1 → m.kind ≡ kind.Comma
    → k.kind ≡ kind.CloseBracket → Derives Expression (o ∷ a ∷ m ∷ k ∷ []) [] (list o.start (number a.start false 1 ∷ []))
list_ends_in_a_comma o a m k h i j l =
    whole
    (or_one
    (and_one (relation_one (sum_one (product_one
    (bare (alone (listed h (items (last_item (whole (or_one (and_one (relation_one (sum_one (product_one (bare (alone (int i)))))))))
    (comma_end refl j (rw l refl))))))))))))

pub list_of_a_comma : (o m k : Token) → o.kind ≡ kind.OpenBracket → m.kind ≡ kind.Comma → k.kind ≡ kind.CloseBracket
    → Derives Expression (o ∷ m ∷ k ∷ []) [] (list o.start [])
list_of_a_comma o m k h j l =
    whole (or_one (and_one (relation_one (sum_one (product_one (bare (alone (listed h (no_items (comma_end refl j (rw l refl)))))))))))

-- "for.x" has the word "for" at 0, and none at 3
pub word_ends : word_at (codes "for.x") 0 ≡ codes "for"
unfolding word_at
word_ends = refl

pub dot_is_no_word : word_at (codes "for.x") 3 ≡ []
unfolding word_at
dot_is_no_word = refl

-- "(()" has two brackets open
pub brackets_count : nests 0 (token_at kind.Open 0 1 ∷ token_at kind.Open 1 2 ∷ token_at kind.Close 2 3 ∷ []) ≡ 2
brackets_count = refl
