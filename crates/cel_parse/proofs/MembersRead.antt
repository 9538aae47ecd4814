-- What is in the grammar of members is read, unless it is past the limits.
use Rattle.std.proofs.Common.{◌≡◌, ℕ, ◌≤◌, true, List, ◌∷◌, length, Some, None, Ok, Err, refl, sym, ap, ◌∙◌, inl, inr, arith}
use Rattle.std.proofs.Common.{le_refl, le_trans}
use Rattle.std.specs.Prelude.{max, ◌⊎◌}
use Rattle.cel_lex.specs.declared.token.TokenKind.{TokenKind}
use Rattle.cel_lex.specs.declared.token.TokenKind.TheVariants as kind
use Rattle.cel_lex.specs.declared.token.Token.{Token}
use Rattle.cel_parse.specs.declared.heads.Closer.TheVariants as closer
use Rattle.cel_parse.specs.declared.heads.Suffix.TheVariants as suffix
use Rattle.cel_parse.specs.declared.tree.Tree.{Tree, Select as select, Method as method_tree, Index as index}
use Rattle.cel_parse.specs.Grammar.{Expression, is_selector, closes, IsLone}
use Rattle.cel_parse.specs.Limits.{depth, depth_of_items, nests, open_after}
use Rattle.cel_parse.specs.Descent.{◌>>=◌, Found, Read, head_if, is_open, number_of, number_at, suffix_of, suffix_at, closed}
use Rattle.cel_parse.specs.Descent.{method as method_at, indexed as indexed_at, suffixed, go_on_member, member}
use Rattle.cel_parse.proofs.Depths.{depth-select, depth-method, depth-index}
use Rattle.cel_parse.proofs.Spans.{past_plain, selector_plain}
use Rattle.cel_parse.proofs.Fronts.{head_kept, head_not}
use Rattle.cel_parse.proofs.PastLimits.{past_depth, meets_at, meets_then, if_none, if_some, node_meets, further, start_loop}
use Rattle.cel_parse.proofs.PastLimits.{past_part, same_length}
use Rattle.cel_parse.proofs.Claims.{Inner, IsMember, IsPrimary, Claim, ListsClaim}
use Rattle.cel_parse.proofs.PrimariesRead.{inside_meets}

module _ (source : List ℕ) where
  pub alone_member : (ts rest : List Token) (e : Tree) → IsPrimary source ts rest e → IsMember source ts rest e
  unfolding member
  alone_member ts rest e p = record {
    bang = p.bang;
    minus = p.minus;
    single = λ x h. inl (p.single x h);
    by = λ brackets opened q no_call. start_loop source suffix_at (go_on_member (Inner source brackets) source brackets)
        (p.by brackets opened q no_call);
  }

  suffix_some : (t : Token) (mid : List Token) → suffix_at (t ∷ mid) ≡ None → t.kind ≡ kind.Dot ⊎ (t.kind ≡ kind.OpenBracket)
      → ⊥
  suffix_some t mid h (inl q) =
      let e : suffix_of t.kind t.start mid ≡ Some (suffix.Selector, t.start, mid) = ap (λ (k : TokenKind). suffix_of k t.start mid) q in
      cc
  suffix_some t mid h (inr q) =
      let e : suffix_of t.kind t.start mid ≡ Some (suffix.Index, t.start, mid) = ap (λ (k : TokenKind). suffix_of k t.start mid) q in cc

  -- a number that something goes on
  still_single : (ts mid rest : List Token) (t : Token) → t.kind ≡ kind.Dot ⊎ (t.kind ≡ kind.OpenBracket)
      → ((x : ℕ × List Token) → number_at ts ≡ Some x → IsLone ts (t ∷ mid) ⊎ (suffix_at x.1 ≡ None → ⊥))
      → (x : ℕ × List Token) → number_at ts ≡ Some x → IsLone ts rest ⊎ (suffix_at x.1 ≡ None → ⊥)
  still_single ts mid rest t q single x h =
      elim (single x h) [
        | inl l ↦
            inr
            (λ z. suffix_some t mid (let e : number_at ts ≡ Some (l.magnitude, t ∷ mid) = ap number_at l.alone
            ∙ ap (λ (k : TokenKind). number_of k (t ∷ mid)) l.kind in let f : x.1 ≡ t ∷ mid =
            (let g : x ≡ (l.magnitude, t ∷ mid) = cc in ap (λ (y : ℕ × List Token). y.1) g) in ap suffix_at (sym f) ∙ z) q)
        | inr z ↦ inr z
      ]

  bracket_no_call : (o : Token) (mid : List Token) → o.kind ≡ kind.OpenBracket → head_if is_open (o ∷ mid) ≡ None
  bracket_no_call o mid q = head_not o is_open mid (ap is_open q)

  dot_no_call : (d : Token) (mid : List Token) → d.kind ≡ kind.Dot → head_if is_open (d ∷ mid) ≡ None
  dot_no_call d mid q = head_not d is_open mid (ap is_open q)

  pub index_member : (ts mid rest : List Token) (o k : Token) (a b : Tree) → ((n : ℕ) → nests n (o ∷ mid) ≤ nests n ts)
      → length (o ∷ mid) ≤ length ts → IsMember source ts (o ∷ mid) a → o.kind ≡ kind.OpenBracket
      → Claim source Expression mid (k ∷ rest) b → k.kind ≡ kind.CloseBracket → IsMember source ts rest (index o.start a b)
  unfolding suffixed indexed_at
  index_member ts mid rest o k a b bal short m q d z =
      let deep = depth-index source o.start a b in
      record {
        bang = m.bang;
        minus = m.minus;
        single = still_single ts mid rest o (inr q) m.single;
        by =
            λ brackets opened w no_call. further source (suffix.Index, o.start, mid) (m.by brackets opened w (bracket_no_call o mid q))
            (ap (λ (j : TokenKind). suffix_of j o.start mid) q)
            (meets_at (regroup (Inner source brackets mid) _)
            (meets_then (indexed_at o.start (record { what = a; deep = depth source a; rest = o ∷ mid }))
            (past_part (λ h. omega arith) (bal opened) short)
            (inside_meets source closer.Bracket o k mid rest b brackets opened (ap (open_after opened) q) d
            (ap (closes closer.Bracket) z) w)
            (node_meets (index o.start a b) (max (depth source a) (depth source b)) _ rest (sym deep) past_depth)))
            (omega arith) (past_part (λ h. omega arith) (le_refl (nests opened ts)) (same_length ts)) (λ p. p) past_depth;
      }
    where
      regroup : (r : Read) (go : Found Tree → Read)
          → (r >>= λ i. closed source closer.Bracket i >>= go) ≡ ((r >>= closed source closer.Bracket) >>= go)
      regroup (Ok f) go = refl
      regroup (Err f) go = refl

  pub select_member : (ts rest : List Token) (d f : Token) (e : Tree) → IsMember source ts (d ∷ f ∷ rest) e → d.kind ≡ kind.Dot
      → is_selector f.kind ≡ true → IsMember source ts rest (select f.start e)
  unfolding suffixed
  select_member ts rest d f e m q h =
      let deep = depth-select source f.start e in
      record {
        bang = m.bang;
        minus = m.minus;
        single = still_single ts (f ∷ rest) rest d (inl q) m.single;
        by =
            λ brackets opened w no_call. further source (suffix.Selector, d.start, f ∷ rest)
            (m.by brackets opened w (dot_no_call d (f ∷ rest) q)) (ap (λ (j : TokenKind). suffix_of j d.start (f ∷ rest)) q)
            (if_some _ _ (head_kept f is_selector rest h)
            (if_none _ no_call (node_meets (select f.start e) (depth source e) _ rest (sym deep) past_depth)))
            (omega arith) (past_part (λ h. omega arith) (le_refl (nests opened ts)) (same_length ts)) (λ p. p) past_depth;
      }

  pub method_member : (ts mid rest : List Token) (d f o : Token) (e : Tree) (es : List Tree)
      → ((n : ℕ) → nests n (d ∷ f ∷ o ∷ mid) ≤ nests n ts) → length (d ∷ f ∷ o ∷ mid) ≤ length ts
      → IsMember source ts (d ∷ f ∷ o ∷ mid) e → d.kind ≡ kind.Dot → is_selector f.kind ≡ true → o.kind ≡ kind.Open
      → ListsClaim source closer.Parenthesis mid rest es → IsMember source ts rest (method_tree f.start e es)
  unfolding suffixed method_at
  method_member ts mid rest d f o e es bal short m q h z l =
      let deep = depth-method source f.start e es in
      record {
        bang = m.bang;
        minus = m.minus;
        single = still_single ts (f ∷ o ∷ mid) rest d (inl q) m.single;
        by =
            λ brackets opened w no_call. further source (suffix.Selector, d.start, f ∷ o ∷ mid)
            (m.by brackets opened w (dot_no_call d (f ∷ o ∷ mid) q)) (ap (λ (j : TokenKind). suffix_of j d.start (f ∷ o ∷ mid)) q)
            (if_some _ _ (head_kept f is_selector (o ∷ mid) h) (if_some _ _ (head_kept o is_open mid (ap is_open z))
            (meets_then _ (past_part (λ h. omega arith)
            (le_trans (past_plain opened d (f ∷ o ∷ mid) (ap (open_after opened) q)
            (past_plain opened f (o ∷ mid) (selector_plain f.kind opened h) (le_refl (nests opened (o ∷ mid))))) (bal opened))
            (omega arith)) (l brackets opened o (ap (open_after opened) z) w)
            (node_meets (method_tree f.start e es) (max (depth source e) (depth_of_items source es)) _ rest (sym deep) past_depth))))
            (omega arith) (past_part (λ h. omega arith) (le_refl (nests opened ts)) (same_length ts)) (λ p. p) past_depth;
      }
