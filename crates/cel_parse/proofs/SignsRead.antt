-- What is in the grammar of signs is read, unless it is past the limits.
use Rattle.std.proofs.Common.{◌≡◌, ℕ, zero, suc, ◌+◌, ◌-◌, ◌<◌, ◌≤◌, true, List, [], ◌∷◌, Option, Some, None, refl, sym, ap, ◌∙◌}
use Rattle.std.proofs.Common.{inl, inr, arith, le_refl}
use Rattle.std.specs.Prelude.{◌⊎◌}
use Rattle.cel_lex.specs.declared.token.Infix.TheVariants as op
use Rattle.cel_lex.specs.declared.token.TokenKind.TheVariants as kind
use Rattle.cel_lex.specs.declared.token.Token.{Token}
use Rattle.cel_value.specs.declared.expr.UnaryOperator.{UnaryOperator}
use Rattle.cel_value.specs.declared.expr.UnaryOperator.TheVariants.{Negate}
use Rattle.cel_parse.specs.declared.heads.Suffix.{Suffix}
use Rattle.cel_parse.specs.declared.tree.Tree.{Tree, Number as number, Unary as unary}
use Rattle.cel_parse.specs.Grammar.{IsLone}
use Rattle.cel_parse.specs.Limits.{depth, nests, open_after}
use Rattle.cel_parse.specs.Descent.{◌>>=◌, Read, is_bang, is_minus, number_of, number_at, suffix_at, lone_at, if_at, member}
use Rattle.cel_parse.specs.Descent.{wrapped, nots_at, minuses_at, unary_at, operators}
use Rattle.cel_parse.proofs.Depths.{depth-number, depth-unary, depth_pos}
use Rattle.cel_parse.proofs.Spans.{past_plain}
use Rattle.cel_parse.proofs.Fronts.{head_kept, head_not, front, no_open, no_suffix}
use Rattle.cel_parse.proofs.PastLimits.{IsPast, past_depth, Meets, gave_up, met, meets_past, meets_then, if_none, if_some}
use Rattle.cel_parse.proofs.PastLimits.{node_meets, goes_meets, leaf_deep, past_part, same_length}
use Rattle.cel_parse.proofs.Claims.{Inner, Operands, IsMember, NotsClaim, MinusesClaim}

module _ (source : List ℕ) where
  member_meets : (ts rest : List Token) (e : Tree) → IsMember source ts rest e → (brackets opened : ℕ) → opened + brackets ≡ 100
      → 0 < front rest
      → Meets (IsPast 100 opened ts (depth source e)) (member (Inner source brackets) source brackets ts) rest e (depth source e)
  member_meets ts rest e m brackets opened q lt =
      goes_meets source (m.by brackets opened q (no_open rest lt)) (λ p. p) past_depth (no_suffix rest lt)

  pub unary_bare : {ts rest : List Token} {e : Tree} → IsMember source ts rest e → Operands source 0 ts rest e
  unfolding operators unary_at
  unary_bare {ts} {rest} {e} m =
      record { by = λ brackets opened q lt. if_none _ m.bang (if_none _ m.minus (member_meets ts rest e m brackets opened q lt)) }

  pub unary_nots : (ts rest : List Token) (e : Tree) → NotsClaim source ts rest e → Operands source 0 ts rest e
  unfolding operators unary_at
  unary_nots [] rest e c = absurd c
  unary_nots (t ∷ us) rest e c =
      record {
        by = λ brackets opened q lt. if_some _ _ (head_kept t is_bang us (ap is_bang c.0))
            (c.1 brackets opened 100 100 q (omega arith) (omega arith) lt);
      }

  pub unary_minuses : (ts rest : List Token) (e : Tree) → MinusesClaim source ts rest e → Operands source 0 ts rest e
  unfolding operators unary_at
  unary_minuses [] rest e c = absurd c
  unary_minuses (t ∷ us) rest e c =
      record {
        by = λ brackets opened q lt. if_none _ (head_not t is_bang us (ap is_bang c.0))
            (if_some _ _ (head_kept t is_minus us (ap is_minus c.0)) (c.1 brackets opened 100 100 q (omega arith) (omega arith) lt));
      }

  pub wrapped_meets : {past past' : Type 0} {out : Read} {rest : List Token} {e : Tree} (place : ℕ) (o : UnaryOperator) → (past → past')
      → (100 < depth source (unary place o e) → past') → Meets past out rest e (depth source e)
      → Meets past' (out >>= wrapped place o) rest (unary place o e) (depth source (unary place o e))
  wrapped_meets {e = e} place o f g m =
      meets_then (wrapped place o) f m (node_meets (unary place o e) (depth source e) _ _ (sym (depth-unary source place o e)) g)

  pub nots_first : (ts rest : List Token) (e : Tree) → IsMember source ts rest e → (brackets opened turns limit : ℕ)
      → opened + brackets ≡ 100 → limit ≤ turns → limit ≤ 100 → 0 < front rest
      → Meets (IsPast limit opened ts (depth source e)) (nots_at (Inner source brackets) source brackets turns ts) rest e (depth source e)
  unfolding nots_at
  nots_first ts rest e p brackets opened zero limit q le le' lt = let pos = depth_pos source e in gave_up refl (past_depth (omega arith))
  nots_first ts rest e p brackets opened (suc turns) limit q le le' lt =
      if_none _ p.bang
      (meets_past (past_part (λ h. omega arith) (le_refl (nests opened ts)) (same_length ts))
      (member_meets ts rest e p brackets opened q lt))

  pub nots_next : (ts rest : List Token) (e : Tree) → NotsClaim source ts rest e → (brackets opened turns limit : ℕ)
      → opened + brackets ≡ 100 → limit ≤ turns → limit ≤ 100 → 0 < front rest
      → Meets (IsPast limit opened ts (depth source e)) (nots_at (Inner source brackets) source brackets turns ts) rest e (depth source e)
  unfolding nots_at
  nots_next [] rest e c brackets opened turns limit q le le' lt = absurd c
  nots_next (t ∷ us) rest e c brackets opened zero limit q le le' lt =
      let pos = depth_pos source e in gave_up refl (past_depth (omega arith))
  nots_next (t ∷ us) rest e c brackets opened (suc turns) limit q le le' lt =
      if_some _ _ (head_kept t is_bang us (ap is_bang c.0)) (c.1 brackets opened turns limit q le le' lt)

  alone_by : (ts rest : List Token) (o : Option (ℕ × List Token)) → number_at ts ≡ o
      → ((x : ℕ × List Token) → number_at ts ≡ Some x → IsLone ts rest ⊎ (suffix_at x.1 ≡ None → ⊥))
      → ¬ (IsLone ts rest) → if_at o None (λ n. if_at (suffix_at n.1) (Some n) (λ s. None)) ≡ None
  alone_by ts rest None q single not_lone = refl
  alone_by ts rest (Some x) q single not_lone =
      elim (single x q) [
        | inl l ↦ absurd (not_lone l)
        | inr h ↦ suffixed_by (suffix_at x.1) h
      ]
    where
      suffixed_by : (s : Option (Suffix × ℕ × List Token)) → (s ≡ None → ⊥) → if_at s (Some x) (λ s. None) ≡ None
      suffixed_by None h = absurd (h refl)
      suffixed_by (Some s) h = refl

  pub minuses_first : (t : Token) (ts rest : List Token) (e : Tree) → t.kind ≡ kind.Operator op.Subtract → ¬ (IsLone ts rest)
      → IsMember source ts rest e → (brackets opened turns limit : ℕ) → opened + brackets ≡ 100 → limit ≤ turns → limit ≤ 100
      → 0 < front rest → Meets (IsPast limit opened (t ∷ ts) (depth source (unary t.start Negate e)))
      (minuses_at (Inner source brackets) source brackets turns t.start ts) rest (unary t.start Negate e)
      (depth source (unary t.start Negate e))
  unfolding minuses_at
  minuses_first t ts rest e z l p brackets opened zero limit q le le' lt =
      let deep = depth-unary source t.start Negate e in gave_up refl (past_depth (omega arith))
  minuses_first t ts rest e z l p brackets opened (suc turns) limit q le le' lt =
      let deep = depth-unary source t.start Negate e in
      if_none _ p.minus
      (if_none _ (alone_by ts rest (number_at ts) refl p.single l)
      (wrapped_meets t.start Negate (past_part (λ h. omega arith)
      (past_plain opened t ts (ap (open_after opened) z) (le_refl (nests opened ts))) (omega arith)) (λ h. past_depth (omega arith))
      (member_meets ts rest e p brackets opened q lt)))

  pub minuses_next : (t : Token) (ts rest : List Token) (e : Tree) → t.kind ≡ kind.Operator op.Subtract → MinusesClaim source ts rest e
      → (brackets opened turns limit : ℕ) → opened + brackets ≡ 100 → limit ≤ turns → limit ≤ 100 → 0 < front rest
      → Meets (IsPast limit opened (t ∷ ts) (depth source (unary t.start Negate e)))
      (minuses_at (Inner source brackets) source brackets turns t.start ts) rest (unary t.start Negate e)
      (depth source (unary t.start Negate e))
  unfolding minuses_at
  minuses_next t [] rest e z c brackets opened turns limit q le le' lt = absurd c
  minuses_next t (u ∷ us) rest e z c brackets opened zero limit q le le' lt =
      let deep = depth-unary source t.start Negate e in gave_up refl (past_depth (omega arith))
  minuses_next t (u ∷ us) rest e z c brackets opened (suc turns) limit q le le' lt =
      let deep = depth-unary source t.start Negate e in
      if_some _ _ (head_kept u is_minus us (ap is_minus c.0))
      (wrapped_meets t.start Negate
      (past_part (λ h. omega arith) (past_plain opened t (u ∷ us) (ap (open_after opened) z) (le_refl (nests opened (u ∷ us))))
      (omega arith))
      (λ h. past_depth (omega arith)) (c.1 brackets opened turns (limit - 1) q (omega arith) (omega arith) lt))

  number_kept : (n : Token) (magnitude : ℕ) (rest : List Token) → n.kind ≡ kind.Int magnitude
      → number_at (n ∷ rest) ≡ Some (magnitude, rest)
  number_kept n magnitude rest h = ap (λ k. number_of k rest) h

  lone_number : (n : Token) (magnitude : ℕ) (rest : List Token) → n.kind ≡ kind.Int magnitude → suffix_at rest ≡ None
      → lone_at (n ∷ rest) ≡ Some (magnitude, rest)
  lone_number n magnitude rest h z =
      ap (λ (o : Option (ℕ × List Token)). if_at o None (λ n. if_at (suffix_at n.1) (Some n) (λ s. None)))
      (number_kept n magnitude rest h)
      ∙ ap (λ (o : Option (Suffix × ℕ × List Token)). if_at o (Some (magnitude, rest)) (λ s. None)) z

  pub minuses_last : (t n : Token) (magnitude : ℕ) (rest : List Token) → n.kind ≡ kind.Int magnitude
      → (brackets opened turns limit : ℕ) → opened + brackets ≡ 100 → limit ≤ turns → limit ≤ 100 → 0 < front rest
      → Meets (IsPast limit opened (t ∷ n ∷ rest) (depth source (number t.start true magnitude)))
      (minuses_at (Inner source brackets) source brackets turns t.start (n ∷ rest)) rest (number t.start true magnitude)
      (depth source (number t.start true magnitude))
  unfolding minuses_at
  minuses_last t n magnitude rest h brackets opened zero limit q le le' lt =
      let deep = depth-number source t.start true magnitude in gave_up refl (past_depth (omega arith))
  minuses_last t n magnitude rest h brackets opened (suc turns) limit q le le' lt =
      if_none _ (head_not n is_minus rest (ap is_minus h))
      (if_some _ _ (lone_number n magnitude rest h (no_suffix rest lt))
      (met (leaf_deep source (number t.start true magnitude) rest (depth-number source t.start true magnitude))))
