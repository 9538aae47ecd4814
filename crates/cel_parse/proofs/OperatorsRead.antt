-- What is in the grammar of operators and conditionals is read, unless it is past the limits.
use Rattle.std.proofs.Common.{◌≡◌, ℕ, zero, suc, ◌-◌, ◌≤◌, List, ◌∷◌, length, refl, sym, ap, ◌∙◌, arith, le_refl, le_trans}
use Rattle.std.specs.Prelude.{max}
use Rattle.cel_lex.specs.declared.token.TokenKind.TheVariants as kind
use Rattle.cel_lex.specs.declared.token.Token.{Token}
use Rattle.cel_parse.specs.declared.tree.Joint.{Joint}
use Rattle.cel_parse.specs.declared.tree.Tree.{Tree, Binary as binary, Conditional as conditional}
use Rattle.cel_parse.specs.Grammar.{Expression, looseness, Joins}
use Rattle.cel_parse.specs.Limits.{depth, nests, open_after}
use Rattle.cel_parse.specs.Descent.{Reader, is_question, is_colon, operator_at, joined, join, operators, conditional_at}
use Rattle.cel_parse.proofs.Depths.{depth-binary, depth-conditional, depth_pos}
use Rattle.cel_parse.proofs.Spans.{past_plain, past_operator}
use Rattle.cel_parse.proofs.Fronts.{head_kept, front_of, joint_front, front_none, no_question, operator_kept}
use Rattle.cel_parse.proofs.PastLimits.{IsPast, past_depth, Meets, gave_up, met, meets_then, if_none, if_some, node_meets}
use Rattle.cel_parse.proofs.PastLimits.{goes_meets, further, start_loop, past_part, same_length}
use Rattle.cel_parse.proofs.Claims.{Inner, Loops, Operands, Claim}

module _ (source : List ℕ) where
  pub operands : {ts rest : List Token} {e : Tree} (n : ℕ) → Loops source n ts rest e → Operands source (suc n) ts rest e
  operands {rest = rest} n loops =
      record {
        by = λ brackets opened q lt. goes_meets source (loops.by brackets opened q (omega arith)) (λ p. p) past_depth
            (front_none (suc n) rest lt);
      }

  -- one operand is enough
  pub one : {ts rest : List Token} {e : Tree} (n : ℕ) → Operands source n ts rest e → Loops source n ts rest e
  unfolding operators
  one {ts} n m =
      record {
        by = λ brackets opened q le. start_loop source (operator_at (suc n)) (join (operators (Inner source brackets) source brackets n))
            (m.by brackets opened q (omega arith));
      }

  join_meets : {ts mid rest : List Token} {t : Token} {o : Joint} {b : Tree} (a : Tree) (n opened : ℕ) (operand : Reader)
      → ((k : ℕ) → nests k (t ∷ mid) ≤ nests k ts) → length (t ∷ mid) ≤ length ts → Joins t o (suc n)
      → Meets (IsPast 100 opened mid (depth source b)) (operand mid) rest b (depth source b) → Meets
      (IsPast 100 opened ts (depth source (binary t.start o a b)))
      (join operand (o, t.start, mid) (record { what = a; deep = depth source a; rest = t ∷ mid })) rest (binary t.start o a b)
      (depth source (binary t.start o a b))
  unfolding joined
  join_meets {ts} {mid} {rest} {t} {o} {b} a n opened operand bal short j m =
      let deep = depth-binary source t.start o a b in
      meets_then _ (past_part (λ h. omega arith) (past_operator mid opened j (bal opened) (le_refl (nests opened mid))) (omega arith)) m
      (node_meets (binary t.start o a b) (max (depth source a) (depth source b)) _ rest (sym deep) past_depth)

  pub two : {ts mid rest : List Token} {t : Token} {o : Joint} {a b : Tree} (n : ℕ) → ((k : ℕ) → nests k (t ∷ mid) ≤ nests k ts)
      → length (t ∷ mid) ≤ length ts → Loops source n ts (t ∷ mid) a → Joins t o (suc n) → Operands source n mid rest b
      → Loops source n ts rest (binary t.start o a b)
  two {ts} {mid} {t = t} {o} {a} {b} n bal short l j m =
      let loose = j.loose in
      let deep = depth-binary source t.start o a b in
      let here : front_of t.kind ≡ looseness o = ap front_of j.kind ∙ joint_front o in
      record {
        by = λ brackets opened q le. further source (o, t.start, mid) (l.by brackets opened q (omega arith)) (operator_kept (suc n) mid j)
            (join_meets a n opened (operators (Inner source brackets) source brackets n) bal short j (m.by brackets opened q (omega arith)))
            (omega arith)
            (past_part (λ h. omega arith) (le_refl (nests opened ts)) (same_length ts))
            (λ p. p)
            past_depth;
      }

  pub whole_meets : (ts rest : List Token) (e : Tree) → Loops source 4 ts rest e → Claim source Expression ts rest e
  unfolding conditional_at
  whole_meets ts rest e l brackets opened zero limit q le le' lt = let pos = depth_pos source e in gave_up refl (past_depth (omega arith))
  whole_meets ts rest e l brackets opened (suc turns) limit q le le' lt =
      meets_then _ (past_part (λ h. omega arith) (le_refl (nests opened ts)) (same_length ts))
      ((operands 4 l).by brackets opened q (omega arith)) (if_none _ (no_question rest lt) (met refl))

  pub chosen_meets : (ts mid last rest : List Token) (q k : Token) (c a b : Tree) → ((n : ℕ) → nests n (q ∷ mid) ≤ nests n ts)
      → length (q ∷ mid) ≤ length ts → ((n : ℕ) → nests n (k ∷ last) ≤ nests n mid) → length (k ∷ last) ≤ length mid
      → Loops source 4 ts (q ∷ mid) c → q.kind ≡ kind.Question → Loops source 4 mid (k ∷ last) a → k.kind ≡ kind.Colon
      → Claim source Expression last rest b → Claim source Expression ts rest (conditional q.start c a b)
  unfolding conditional_at
  chosen_meets ts mid last rest q k c a b bal short bal' short' lc hq la hk lb brackets opened zero limit w le le' lt =
      let deep = depth-conditional source q.start c a b in gave_up refl (past_depth (omega arith))
  chosen_meets ts mid last rest q k c a b bal short bal' short' lc hq la hk lb brackets opened (suc turns) limit w le le' lt =
      let deep = depth-conditional source q.start c a b in
      let at_q : front_of q.kind ≡ 6 = ap front_of hq in
      let at_k : front_of k.kind ≡ 9 = ap front_of hk in
      let mid_le : nests opened mid ≤ nests opened ts =
      le_trans (past_plain opened q mid (ap (open_after opened) hq) (le_refl (nests opened mid))) (bal opened) in
      let last_le : nests opened last ≤ nests opened ts =
      le_trans (le_trans (past_plain opened k last (ap (open_after opened) hk) (le_refl (nests opened last))) (bal' opened)) mid_le in
      meets_then _ (past_part (λ h. omega arith) (le_refl (nests opened ts)) (same_length ts))
      ((operands 4 lc).by brackets opened w (omega arith)) (if_some _ _ (head_kept q is_question mid (ap is_question hq))
      (meets_then _ (past_part (λ h. omega arith) mid_le (omega arith)) ((operands 4 la).by brackets opened w (omega arith))
      (if_some _ _ (head_kept k is_colon last (ap is_colon hk))
      (meets_then _ (past_part (λ h. omega arith) last_le (omega arith))
      (lb brackets opened turns (limit - 1) w (omega arith) (omega arith) lt)
      (node_meets _ (max (depth source c) (max (depth source a) (depth source b))) _ rest (sym deep)
      (λ h. past_depth (omega arith)))))))
