-- What is read after signs is in the grammar and within the limits, and what is too deep exceeds them.
use Rattle.std.proofs.Common.{◌≡◌, ℕ, true, zero, suc, ◌+◌, ◌≤◌, List, ◌∷◌, Ok, refl, sym, ap, ◌∙◌, inl, inr}
use Rattle.std.specs.Prelude.{max, ◌⊎◌}
use Rattle.cel_lex.specs.declared.token.Infix.TheVariants as op
use Rattle.cel_lex.specs.declared.token.TokenKind.{TokenKind}
use Rattle.cel_lex.specs.declared.token.TokenKind.TheVariants as kind
use Rattle.cel_lex.specs.declared.token.Token.{Token}
use Rattle.cel_value.specs.declared.expr.UnaryOperator.{UnaryOperator}
use Rattle.cel_value.specs.declared.expr.UnaryOperator.TheVariants.{Not, Negate}
use Rattle.cel_parse.specs.declared.tree.Tree.{Tree, Number as number, Unary as unary}
use Rattle.cel_parse.specs.Grammar.{Part, Expression, Unary, Nots, Minuses, Derives, bare, nots, minuses, not_one, not_more}
use Rattle.cel_parse.specs.Grammar.{negative, minus_one, minus_more}
use Rattle.cel_parse.specs.Limits.{depth, open_after, nests, whole_text, behind, Signs, no_sign, sign, signs}
use Rattle.cel_parse.specs.Descent.{◌>>=◌, Found, Reader, head_if, is_bang, is_minus, if_at, lone_at, member, wrapped, nots_at}
use Rattle.cel_parse.specs.Descent.{minuses_at, unary_at}
use Rattle.cel_parse.proofs.Depths.{depth-number, depth-unary}
use Rattle.cel_parse.proofs.Steps.{head_cases, lone_cases, bang_is, minus_is, lone_kept}
use Rattle.cel_parse.proofs.Told.{Told, exceeded, Over, exceeds, over_from, told_then, told_past, told_as, told_node, told_leaf}
use Rattle.cel_parse.proofs.PartsTold.{within_then, Tells, ToldPast, on_plain, plain}
use Rattle.cel_parse.proofs.MembersTold.{member_told, member_ends}

module _ (source : List ℕ) (inner : Reader) (brackets opened : ℕ) (room : opened + brackets ≡ 100) (few : opened ≤ 100)
    (inner_told : (ts : List Token) → Told (Over source (opened + 1) ts) (Derives Expression) (depth source) (opened + 1) (opened + 1) ts
    (inner ts)) where
  -- a sign and its operand
  wrapped_told : {past : Type 0} {p : Part} {t : Token} {ts : List Token} {o : UnaryOperator} {k : TokenKind} (f : Found Tree)
      → t.kind ≡ k → open_after opened k ≡ opened → Derives p (t ∷ ts) f.rest (unary t.start o f.what)
      → f.deep ≡ depth source f.what → nests opened ts ≤ max 100 (nests opened f.rest) → (Over source opened (t ∷ ts) → past)
      → Told past (Derives p) (depth source) opened opened (t ∷ ts) (wrapped t.start o f)
  wrapped_told {t = t} {ts} f q e d deep w lift =
      told_node f.deep d d (ap (λ n. n + 1) deep ∙ sym (depth-unary source _ _ _)) few
      (within_then _ _ _ (plain opened few t ts q e) w) lift

  -- after a "!"
  nots_told : (turns : ℕ) (t : Token) (ts : List Token) → t.kind ≡ kind.Bang → ToldPast source opened
      (Over source opened (t ∷ ts) ⊎ Signs Not (suc turns) (t ∷ ts)) Nots (t ∷ ts)
      (nots_at inner source brackets turns ts >>= wrapped t.start Not)
  unfolding nots_at
  nots_told zero t ts q = exceeded (inr (sign q no_sign))
  nots_told (suc turns) t ts q =
      head_cases is_bang
      (λ us x. ToldPast source opened (Over source opened (t ∷ us) ⊎ Signs Not (suc (suc turns)) (t ∷ us)) Nots (t ∷ us)
      (if_at x (member inner source brackets us) (λ x. nots_at inner source brackets turns x.1 >>= wrapped x.0 Not) >>= wrapped t.start
      Not))
      (λ us. told_then (wrapped t.start Not) (member_told source inner brackets opened room few inner_told us)
      (λ x. inl (over_from (behind whole_text) (on_plain opened t us q refl) x))
      (λ f e r. wrapped_told f q refl (not_one q r.derives) r.deep r.within inl))
      (λ u us h. told_then (wrapped t.start Not) (nots_told turns u us (bang_is u.kind h))
      (λ x. elim x [ inl y ↦ inl (over_from (behind whole_text) (on_plain opened t (u ∷ us) q refl) y) | inr s ↦ inr (sign q s) ])
      (λ f e r. wrapped_told f q refl (not_more q r.derives) r.deep r.within inl))
      ts

  -- what follows the last "-"
  last_told : (past : List Token → Type 0) (t : Token) → t.kind ≡ kind.Operator op.Subtract
      → (lift : (ts : List Token) → Over source opened (t ∷ ts) → past ts) → (ts : List Token) → ToldPast source opened (past ts) Minuses
      (t ∷ ts)
      (if_at (lone_at ts) (member inner source brackets ts >>= wrapped t.start Negate)
      (λ n. Ok (record { what = number t.start true n.0; deep = 1; rest = n.1 })))
  last_told past t q lift =
      lone_cases
      (λ us x. ToldPast source opened (past us) Minuses (t ∷ us)
      (if_at x (member inner source brackets us >>= wrapped t.start Negate)
      (λ n. Ok (record { what = number t.start true n.0; deep = 1; rest = n.1 }))))
      (λ us h. told_then (wrapped t.start Negate) (member_told source inner brackets opened room few inner_told us)
      (λ x. lift us (over_from (behind whole_text) (on_plain opened t us q refl) x))
      (λ f e r. wrapped_told f q refl (minus_one q (lone_kept us f.rest (member_ends source inner brackets us f e) h) r.derives)
      r.deep r.within (lift us)))
      (λ u n us h z. told_leaf source (negative q h) (depth-number source _ _ _) few
      (within_then _ _ _ (plain opened few t (u ∷ us) q refl) (plain opened few u us h refl)))

  abbrev Minused : ℕ → Token → List Token → Type 0
  Minused turns t ts = Over source opened (t ∷ ts) ⊎ Signs Negate (suc turns) (t ∷ ts)

  -- after a "-"
  minuses_told : (turns : ℕ) (t : Token) (ts : List Token) → t.kind ≡ kind.Operator op.Subtract
      → ToldPast source opened (Minused turns t ts) Minuses (t ∷ ts) (minuses_at inner source brackets turns t.start ts)
  unfolding minuses_at
  minuses_told zero t ts q = exceeded (inr (sign q no_sign))
  minuses_told (suc turns) t ts q =
      head_cases is_minus
      (λ us x. ToldPast source opened (Minused (suc turns) t us) Minuses (t ∷ us)
      (if_at x (if_at (lone_at us) (member inner source brackets us >>= wrapped t.start Negate)
      (λ n. Ok (record { what = number t.start true n.0; deep = 1; rest = n.1 })))
      (λ x. minuses_at inner source brackets turns x.0 x.1 >>= wrapped t.start Negate)))
      (last_told (Minused (suc turns) t) t q (λ us x. inl x))
      (λ u us h. told_then (wrapped t.start Negate) (minuses_told turns u us (minus_is u.kind h))
      (λ x. elim x [ inl y ↦ inl (over_from (behind whole_text) (on_plain opened t (u ∷ us) q refl) y) | inr s ↦ inr (sign q s) ])
      (λ f e r. wrapped_told f q refl (minus_more q r.derives) r.deep r.within inl))
      ts

  signed_past : (o : UnaryOperator) (ts : List Token) → Over source opened ts ⊎ Signs o 101 ts → Over source opened ts
  signed_past o ts (inl x) = x
  signed_past o ts (inr s) = exceeds (signs o whole_text s)

  unsigned_told : (ts : List Token) → Tells source opened Unary ts
      (if_at (head_if is_minus ts) (member inner source brackets ts) (λ x. minuses_at inner source brackets 100 x.0 x.1))
  unsigned_told =
      head_cases is_minus
      (λ us x. Tells source opened Unary us (if_at x (member inner source brackets us) (λ x. minuses_at inner source brackets 100 x.0 x.1)))
      (λ us. told_as (λ rest e d. bare d) (member_told source inner brackets opened room few inner_told us))
      (λ u us h. told_as (λ rest e d. minuses d) (told_past (signed_past Negate (u ∷ us)) (minuses_told 100 u us (minus_is u.kind h))))

  pub unary_told : (ts : List Token) → Tells source opened Unary ts (unary_at inner source brackets ts)
  unfolding unary_at
  unary_told =
      head_cases is_bang
      (λ us x. Tells source opened Unary us (if_at x (if_at (head_if is_minus us) (member inner source brackets us)
      (λ x. minuses_at inner source brackets 100 x.0 x.1)) (λ x. nots_at inner source brackets 100 x.1 >>= wrapped x.0 Not)))
      unsigned_told
      (λ u us h. told_as (λ rest e d. nots d) (told_past (signed_past Not (u ∷ us)) (nots_told 100 u us (bang_is u.kind h))))
