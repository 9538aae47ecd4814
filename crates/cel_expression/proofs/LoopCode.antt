-- Where the code of loops is.
use Rattle.std.proofs.Common.{◌≡◌, ℕ, ◌+◌, ◌<◌, ◌≤◌, length, sym, ◌∙◌, subst, arith}
use Rattle.std.proofs.Math.ListN.{length-set}
use Rattle.cel_check.specs.declared.tree.TypedTree.{TypedTree, out-TypedTree}
use Rattle.cel_check.specs.declared.tree.Form.TheVariants as form
use Rattle.cel_code.specs.LoopNumbers.{loop_number}
use Rattle.cel_code.specs.declared.instr.Instr.{Instr}
use Rattle.cel_code.specs.declared.instr.Instr.TheVariants.{Item, When}
use Rattle.cel_expression.specs.Placed.{Code, with_instr, patched, Has, Stands, Same, Keeps, Emits, looped, mapped, OpensLoop}
use Rattle.cel_value.specs.declared.expr.Loop.{Loop}
use Rattle.cel_value.specs.declared.expr.Loop.TheVariants as loop
use Rattle.cel_code.specs.declared.instr.Instr.TheVariants as instr
use Rattle.cel_expression.proofs.Elements.{get_set}
use Rattle.cel_expression.proofs.SameCode.{narrow, same_on, same_before, same_after, has_moved, moved}
use Rattle.cel_expression.proofs.KeptCode.{length_put, keeps_put, keeps_on, keeps_patched, has_put}

-- what was kept is still there if an instruction in front of it, or after it, is another
same_behind : (c d : Code) (m : ℕ) (i : Instr) → Keeps c d → Same c (patched d m i) (m + 1) (length c.instrs)
same_behind c d m i k =
    same_on c d _ (m + 1) (length c.instrs) (narrow c d 0 (length c.instrs) (m + 1) (length c.instrs) k.same (omega arith) (omega arith))
    (same_after d m (length c.instrs) i)

same_front : (c d : Code) (m : ℕ) (i : Instr) → Keeps c d → m ≤ length c.instrs → Same c (patched d m i) 0 m
same_front c d m i k le = same_on c d _ 0 m (narrow c d 0 (length c.instrs) 0 m k.same (omega arith) le) (same_before d m i)

-- a loop's beginning
abbrev pub begun : Code → Loop → Code
begun c l = with_instr (with_instr c (instr.Loop (loop_number l) 0)) Item

begun_long : (c : Code) (l : Loop) → length (begun c l).instrs ≡ length c.instrs + 2
begun_long c l = omega (arith, length_put c (instr.Loop (loop_number l) 0), length_put (with_instr c (instr.Loop (loop_number l) 0)) Item)

keeps_begun : (c : Code) (l : Loop) → Keeps c (begun c l)
keeps_begun c l =
    let begins = with_instr c (instr.Loop (loop_number l) 0) in
    keeps_on c begins _ (keeps_put c _) (keeps_put begins Item)

-- what is kept after it, and where the loop leads
opens : (c d : Code) (l : Loop) (to : ℕ) → Keeps (begun c l) d
    → OpensLoop (patched d (length c.instrs) (instr.Loop (loop_number l) to)) (length c.instrs) l to
opens c d l to k =
    let m = length c.instrs in
    let i = instr.Loop (loop_number l) to in
    let c1 = with_instr c (instr.Loop (loop_number l) 0) in
    let l1 = length_put c (instr.Loop (loop_number l) 0) in
    let l2 = begun_long c l in
    let within : m < length d.instrs = omega (arith, l2, k.grows) in
    let last : Has (begun c l) (m + 1) Item = subst (λ k. Has (begun c l) k Item) l1 (has_put c1 Item) in
    record {
      begins = record { is = get_set d.instrs m i within };
      item =
          has_moved (begun c l) (patched d m i) Item (m + 1) (m + 1) (length (begun c l).instrs) last (same_behind (begun c l) d m i k)
          (omega arith) (omega (arith, l2));
    }

pub emits_loop : (old c1 c2 c3 new : Code) (e a b : TypedTree) (l : Loop) (start exit : ℕ) → (out-TypedTree e).form ≡ form.Loop l a b
    → Emits old c1 a → start ≡ length c1.instrs → c2 ≡ begun c1 l → Emits c2 c3 b → exit ≡ length c3.instrs + 1
    → new ≡ patched (with_instr c3 instr.Next) start (instr.Loop (loop_number l) exit) → Emits old new e
emits_loop old c1 c2 c3 new e a b l start exit is ea em e2 eb et e4 =
    let m = length c1.instrs in
    let n = length c3.instrs in
    let eb : Emits (begun c1 l) c3 b = rw (sym e2) eb in
    let i = instr.Loop (loop_number l) (n + 1) in
    let c4 = with_instr c3 instr.Next in
    let l2 = begun_long c1 l in
    let l4 = length_put c3 instr.Next in
    let l5 : length (patched c4 m i).instrs ≡ n + 1 = length-set c4.instrs m i ∙ l4 in
    let k34 = keeps_put c3 instr.Next in
    let k24 = keeps_on (begun c1 l) c3 c4 eb.keeps k34 in
    let k14 = keeps_on c1 (begun c1 l) c4 (keeps_begun c1 l) k24 in
    let sb : Stands c3 b (m + 2) n = rw (sym l2) eb.stands in
    let s1 = same_front c1 c4 m i k14 (omega arith) in
    let s3 = narrow c3 (patched c4 m i) (m + 1) n (m + 2) n (same_behind c3 c4 m i k34) (omega arith) (omega arith) in
    let next : Has (patched c4 m i) n instr.Next =
    has_moved c4 (patched c4 m i) instr.Next n (m + 1) (n + 1) (has_put c3 instr.Next) (same_after c4 m (n + 1) i)
    (omega (arith, l2, eb.keeps.grows)) (omega arith) in
    let begins : OpensLoop (patched c4 m i) m l (length (patched c4 m i).instrs) = rw l5 (opens c1 c4 l (n + 1) k24) in
    rw (e4, em, et)
    (record {
      stands =
          looped l a b m n (record { is = is })
          (moved c1 (patched c4 m i) a _ _ ea.stands (narrow c1 (patched c4 m i) 0 m _ _ s1 (omega arith) (omega arith)))
          begins (moved c3 (patched c4 m i) b (m + 2) n sb s3) next l5;
      keeps = keeps_patched old c4 m i ea.keeps.grows (keeps_on old c1 c4 ea.keeps k14);
    })

pub emits_map_where : (old c1 c2 c3 c4 c5 new : Code) (e a p b : TypedTree) (start exit : ℕ) → (out-TypedTree e).form ≡ form.MapWhere a p b
    → Emits old c1 a → start ≡ length c1.instrs → c2 ≡ begun c1 loop.Map → Emits c2 c3 p → c4 ≡ with_instr c3 When → Emits c4 c5 b
    → exit ≡ length c5.instrs + 1 → new ≡ patched (with_instr c5 instr.Next) start (instr.Loop (loop_number loop.Map) exit)
    → Emits old new e
emits_map_where old c1 c2 c3 c4 c5 new e a p b start exit is ea em e2 ep e4 eb et e6 =
    let m = length c1.instrs in
    let k = length c3.instrs in
    let n = length c5.instrs in
    let ep : Emits (begun c1 loop.Map) c3 p = rw (sym e2) ep in
    let eb : Emits (with_instr c3 When) c5 b = rw (sym e4) eb in
    let i = instr.Loop (loop_number loop.Map) (n + 1) in
    let w = with_instr c3 When in
    let c6 = with_instr c5 instr.Next in
    let l2 = begun_long c1 loop.Map in
    let l4 = length_put c3 When in
    let l6 = length_put c5 instr.Next in
    let l7 : length (patched c6 m i).instrs ≡ n + 1 = length-set c6.instrs m i ∙ l6 in
    let k56 = keeps_put c5 instr.Next in
    let k46 = keeps_on w c5 c6 eb.keeps k56 in
    let k36 = keeps_on c3 w c6 (keeps_put c3 When) k46 in
    let k26 = keeps_on (begun c1 loop.Map) c3 c6 ep.keeps k36 in
    let k16 = keeps_on c1 (begun c1 loop.Map) c6 (keeps_begun c1 loop.Map) k26 in
    let sp : Stands c3 p (m + 2) k = rw (sym l2) ep.stands in
    let sb : Stands c5 b (k + 1) n = rw (sym l4) eb.stands in
    let s1 = same_front c1 c6 m i k16 (omega arith) in
    let s3 = narrow c3 (patched c6 m i) (m + 1) k (m + 2) k (same_behind c3 c6 m i k36) (omega arith) (omega arith) in
    let s5 =
    narrow c5 (patched c6 m i) (m + 1) n (k + 1) n (same_behind c5 c6 m i k56) (omega (arith, l2, ep.keeps.grows)) (omega arith) in
    let when : Has (patched c6 m i) k When =
    has_moved w (patched c6 m i) When k (m + 1) (length w.instrs) (has_put c3 When) (same_behind w c6 m i k46)
    (omega (arith, l2, ep.keeps.grows)) (omega (arith, l4)) in
    let next : Has (patched c6 m i) n instr.Next =
    has_moved c6 (patched c6 m i) instr.Next n (m + 1) (n + 1) (has_put c5 instr.Next) (same_after c6 m (n + 1) i)
    (omega (arith, l2, l4, ep.keeps.grows, eb.keeps.grows)) (omega arith) in
    let begins : OpensLoop (patched c6 m i) m loop.Map (length (patched c6 m i).instrs) = rw l7 (opens c1 c6 loop.Map (n + 1) k26) in
    rw (e6, em, et)
    (record {
      stands =
          mapped a p b m k n (record { is = is })
          (moved c1 (patched c6 m i) a _ _ ea.stands (narrow c1 (patched c6 m i) 0 m _ _ s1 (omega arith) (omega arith)))
          begins (moved c3 (patched c6 m i) p (m + 2) k sp s3) when
          (moved c5 (patched c6 m i) b (k + 1) n sb s5) next l7;
      keeps = keeps_patched old c6 m i ea.keeps.grows (keeps_on old c1 c6 ea.keeps k16);
    })
