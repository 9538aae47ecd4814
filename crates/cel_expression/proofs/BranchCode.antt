-- Where the code of `&&`, `||` and conditionals is.
use Rattle.std.proofs.Common.{◌≡◌, ℕ, ◌+◌, ◌<◌, length, sym, ◌∙◌, arith}
use Rattle.std.proofs.Math.ListN.{length-set}
use Rattle.cel_check.specs.declared.tree.TypedTree.{TypedTree, out-TypedTree}
use Rattle.cel_check.specs.declared.tree.Form.TheVariants as form
use Rattle.cel_code.specs.declared.instr.Instr.{Instr}
use Rattle.cel_code.specs.declared.instr.Instr.TheVariants.{AndTest, OrTest, And, Or, Cond, Jump}
use Rattle.cel_expression.specs.Placed.{Code, with_instr, patched, Has, Stands, both, either, conditional, Same, Keeps, Emits}
use Rattle.cel_expression.proofs.Elements.{get_set}
use Rattle.cel_expression.proofs.SameCode.{narrow, same_on, same_put, same_before, same_after, has_moved, moved}
use Rattle.cel_expression.proofs.KeptCode.{length_put, keeps_put, keeps_on, keeps_patched, has_put}

-- where both sides of `&&` or `||` are, with the jump patched
record TwoSides (new : Code) (a b : TypedTree) (j : ℕ → Instr) (last : Instr) (from : ℕ) : Type 0 where
  m : ℕ
  n : ℕ
  left : Stands new a from m
  test : Has new m (j (length new.instrs))
  right : Stands new b (m + 1) n
  join : Has new n last
  next : length new.instrs ≡ n + 1

two_sides : (old c1 c3 : Code) (a b : TypedTree) (j : ℕ → Instr) (last : Instr) → Emits old c1 a → Emits (with_instr c1 (j 0)) c3 b
    → let new = patched (with_instr c3 last) (length c1.instrs) (j (length (with_instr c3 last).instrs)) in TwoSides new a b j last
    (length old.instrs) × Keeps old new
two_sides old c1 c3 a b j last ea eb =
    let c2 = with_instr c1 (j 0) in
    let c4 = with_instr c3 last in
    let m = length c1.instrs in
    let n = length c3.instrs in
    let to = length c4.instrs in
    let new = patched c4 m (j to) in
    let l2 = length_put c1 (j 0) in
    let l4 = length_put c3 last in
    let l5 = length-set c4.instrs m (j to) in
    let g = eb.keeps.grows in
    let put = same_put c3 last in
    let s24 : Same c2 c4 0 (length c2.instrs) = same_on c2 c3 c4 0 _ eb.keeps.same (narrow c3 c4 0 n 0 _ put (omega arith) g) in
    let s14 : Same c1 c4 0 m = same_on c1 c2 c4 0 m (same_put c1 (j 0)) (narrow c2 c4 0 _ 0 m s24 (omega arith) (omega (arith, l2))) in
    let s1 : Same c1 new 0 m = same_on c1 c4 new 0 m s14 (same_before c4 m (j to)) in
    let s3 : Same c3 new (m + 1) n =
    same_on c3 c4 new (m + 1) n (narrow c3 c4 0 n (m + 1) n put (omega arith) (omega arith)) (same_after c4 m n (j to)) in
    let sb : Stands c3 b (m + 1) n = rw (sym l2) eb.stands in
    let within : m < length c4.instrs = omega (arith, l2, l4, g) in
    let here : Has new m (j (length new.instrs)) = rw l5 (record { is = get_set c4.instrs m (j to) within }) in
    let there : Has new n last =
    has_moved c4 new last n (m + 1) (n + 1) (has_put c3 last) (same_after c4 m (n + 1) (j to)) (omega (arith, l2, g)) (omega arith) in (
      record {
        m = m;
        n = n;
        left = moved c1 new a _ _ ea.stands (narrow c1 new 0 m _ _ s1 (omega arith) (omega arith));
        test =
            here;
        right = moved c3 new b (m + 1) n sb s3;
        join = there;
        next = l5 ∙ l4;
      },
      keeps_patched old c4 m (j to) ea.keeps.grows
          (keeps_on old c1 c4 ea.keeps (keeps_on c1 c2 c4 (keeps_put c1 (j 0)) (keeps_on c2 c3 c4 eb.keeps (keeps_put c3 last)))),
    )

pub emits_both : (old c1 c2 c3 c4 new : Code) (e a b a' b' : TypedTree) (m to : ℕ) → (out-TypedTree e).form ≡ form.And a b
    → a' ≡ a → b' ≡ b → Emits old c1 a' → m ≡ length c1.instrs → c2 ≡ with_instr c1 (AndTest 0) → Emits c2 c3 b'
    → c4 ≡ with_instr c3 And → to ≡ length c4.instrs → new ≡ patched c4 m (AndTest to) → Emits old new e
emits_both old c1 c2 c3 c4 new e a b a' b' m to is sa sb ea em e2 eb e4 et e5 =
    let ea : Emits old c1 a = rw (sym sa) ea in
    let eb : Emits (with_instr c1 (AndTest 0)) c3 b = rw (sym sb, sym e2) eb in
    let r = two_sides old c1 c3 a b AndTest And ea eb in
    let s = r.0 in
    rw (e5, em, et, e4) (record { stands = both a b s.m s.n (record { is = is }) s.left s.test s.right s.join s.next; keeps = r.1 })

pub emits_either : (old c1 c2 c3 c4 new : Code) (e a b a' b' : TypedTree) (m to : ℕ) → (out-TypedTree e).form ≡ form.Or a b
    → a' ≡ a → b' ≡ b → Emits old c1 a' → m ≡ length c1.instrs → c2 ≡ with_instr c1 (OrTest 0) → Emits c2 c3 b'
    → c4 ≡ with_instr c3 Or → to ≡ length c4.instrs → new ≡ patched c4 m (OrTest to) → Emits old new e
emits_either old c1 c2 c3 c4 new e a b a' b' m to is sa sb ea em e2 eb e4 et e5 =
    let ea : Emits old c1 a = rw (sym sa) ea in
    let eb : Emits (with_instr c1 (OrTest 0)) c3 b = rw (sym sb, sym e2) eb in
    let r = two_sides old c1 c3 a b OrTest Or ea eb in
    let s = r.0 in
    rw (e5, em, et, e4) (record { stands = either a b s.m s.n (record { is = is }) s.left s.test s.right s.join s.next; keeps = r.1 })

-- where a condition and its two branches are, with both jumps patched
record ThreeParts (new : Code) (c a b : TypedTree) (from : ℕ) : Type 0 where
  m : ℕ
  n : ℕ
  condition : Stands new c from m
  test : Has new m (Cond (n + 1) (length new.instrs))
  yes : Stands new a (m + 1) n
  jump : Has new n (Jump (length new.instrs))
  no_branch : Stands new b (n + 1) (length new.instrs)

three_parts : (old c1 c3 c5 : Code) (c a b : TypedTree) → Emits old c1 c → Emits (with_instr c1 (Cond 0 0)) c3 a
    → Emits (with_instr c3 (Jump 0)) c5 b
    → let new = patched (patched c5 (length c1.instrs) (Cond (length c3.instrs + 1) (length c5.instrs))) (length c3.instrs)
    (Jump (length c5.instrs)) in ThreeParts new c a b (length old.instrs) × Keeps old new
three_parts old c1 c3 c5 c a b ec ea eb =
    let m = length c1.instrs in
    let n = length c3.instrs in
    let to = length c5.instrs in
    let i = Cond (n + 1) to in
    let j = Jump to in
    let c2 = with_instr c1 (Cond 0 0) in
    let c4 = with_instr c3 (Jump 0) in
    let c6 = patched c5 m i in
    let new = patched c6 n j in
    let l2 = length_put c1 (Cond 0 0) in
    let l4 = length_put c3 (Jump 0) in
    let l6 = length-set c5.instrs m i in
    let l7 : length new.instrs ≡ to = length-set c6.instrs n j ∙ l6 in
    let ga = ea.keeps.grows in
    let gb = eb.keeps.grows in
    let s35 : Same c3 c5 0 n =
    same_on c3 c4 c5 0 n (same_put c3 (Jump 0)) (narrow c4 c5 0 _ 0 n eb.keeps.same (omega arith) (omega (arith, l4))) in
    let s15 : Same c1 c5 0 m =
    same_on c1 c2 c5 0 m (same_put c1 (Cond 0 0))
    (narrow c2 c5 0 _ 0 m (same_on c2 c3 c5 0 _ ea.keeps.same (narrow c3 c5 0 n 0 _ s35 (omega arith) ga)) (omega arith)
    (omega (arith, l2))) in
    let s1 : Same c1 new 0 m =
    same_on c1 c6 new 0 m (same_on c1 c5 c6 0 m s15 (same_before c5 m i))
    (narrow c6 new 0 n 0 m (same_before c6 n j) (omega arith) (omega (arith, l2, ga))) in
    let s3 : Same c3 new (m + 1) n =
    same_on c3 c6 new (m + 1) n
    (same_on c3 c5 c6 (m + 1) n (narrow c3 c5 0 n (m + 1) n s35 (omega arith) (omega arith)) (same_after c5 m n i))
    (narrow c6 new 0 n (m + 1) n (same_before c6 n j) (omega arith) (omega arith)) in
    let s5 : Same c5 new (n + 1) to =
    same_on c5 c6 new (n + 1) to (narrow c5 c6 (m + 1) to (n + 1) to (same_after c5 m to i) (omega (arith, l2, ga)) (omega arith))
    (same_after c6 n to j) in
    let sa : Stands c3 a (m + 1) n = rw (sym l2) ea.stands in
    let sb : Stands c5 b (n + 1) to = rw (sym l4) eb.stands in
    let at_m : m < length c5.instrs = omega (arith, l2, l4, ga, gb) in
    let at_n : n < length c6.instrs = omega (arith, l4, l6, gb) in
    let h6 : Has c6 m i = record { is = get_set c5.instrs m i at_m } in
    let hm : Has new m (Cond (n + 1) (length new.instrs)) =
    rw l7 (has_moved c6 new i m 0 n h6 (same_before c6 n j) (omega arith) (omega (arith, l2, ga))) in
    let hn : Has new n (Jump (length new.instrs)) = rw l7 (record { is = get_set c6.instrs n j at_n }) in
    let sb' : Stands new b (n + 1) (length new.instrs) = rw l7 (moved c5 new b (n + 1) to sb s5) in
    let k5 =
    keeps_on old c1 c5 ec.keeps
    (keeps_on c1 c2 c5 (keeps_put c1 (Cond 0 0)) (keeps_on c2 c3 c5 ea.keeps (keeps_on c3 c4 c5 (keeps_put c3 (Jump 0)) eb.keeps))) in (
      record {
        m = m;
        n = n;
        condition = moved c1 new c _ _ ec.stands (narrow c1 new 0 m _ _ s1 (omega arith) (omega arith));
        test =
            hm;
        yes = moved c3 new a (m + 1) n sa s3;
        jump = hn;
        no_branch = sb';
      },
      keeps_patched old c6 n j
          (omega (arith, ec.keeps.grows, l2, ga)) (keeps_patched old c5 m i ec.keeps.grows k5),
    )

pub emits_conditional : (old c1 c2 c3 c4 c4' c5 c6 new : Code) (e c a b : TypedTree) (m n to : ℕ)
    → (out-TypedTree e).form ≡ form.Conditional c a b → Emits old c1 c → m ≡ length c1.instrs → c2 ≡ with_instr c1 (Cond 0 0)
    → Emits c2 c3 a → n ≡ length c3.instrs → c4 ≡ with_instr c3 (Jump 0) → c4' ≡ c4 → Emits c4' c5 b
    → to ≡ length c5.instrs → c6 ≡ patched c5 m (Cond (n + 1) to) → new ≡ patched c6 n (Jump to) → Emits old new e
emits_conditional old c1 c2 c3 c4 c4' c5 c6 new e c a b m n to is ec em e2 ea en e4 e4' eb et e6 e7 =
    let ea : Emits (with_instr c1 (Cond 0 0)) c3 a = rw (sym e2) ea in
    let eb : Emits (with_instr c3 (Jump 0)) c5 b = rw (sym e4, sym e4') eb in
    let r = three_parts old c1 c3 c5 c a b ec ea eb in
    let s = r.0 in
    rw (e7, e6, em, en, et)
    (record { stands = conditional c a b s.m s.n (record { is = is }) s.condition s.test s.yes s.jump s.no_branch; keeps = r.1 })
