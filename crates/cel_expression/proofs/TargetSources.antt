-- To each target there is a jump.
use Rattle.std.proofs.Common.{◌≡◌, ℕ, ◌+◌, true, false, List, [], ◌∷◌, ◌++◌, refl, sym, ◌∙◌, subst, inl, inr, arith}
use Rattle.cel_value.specs.declared.cel_type.CelType.{CelType}
use Rattle.cel_check.specs.declared.tree.TypedTree.{TypedTree}
use Rattle.cel_value.specs.Turns.{by_turns}
use Rattle.cel_code.specs.LoopNumbers.{loop_number}
use Rattle.cel_code.specs.declared.instr.Instr.TheVariants.{AndTest, OrTest, Cond, Jump}
use Rattle.cel_code.specs.declared.instr.Instr.TheVariants as instr
use Rattle.cel_value.specs.declared.expr.Loop.TheVariants as loop
use Rattle.cel_expression.specs.Compiled.{Layout, target, target_at_end, targets_from, layout_of, targets_of}
use Rattle.cel_expression.specs.Drafts.{layouts_of}
use Rattle.cel_expression.specs.Jumps.{IsJumpedTo, IsTarget}
use Rattle.cel_expression.specs.Placed.{Code, Stands, literal, unary, binary, both, either, conditional}
use Rattle.cel_expression.specs.Placed.{items, StandEach, no_items, first_item, slot, entries, with_text, local, looped, mapped}
use Rattle.cel_expression.proofs.Written.{laid, laid_map}
use Rattle.cel_expression.proofs.TargetLists.{target_cases, end_is}
use Rattle.cel_expression.proofs.TargetOrder.{sized}

module _ (code : Code) where
  -- an end is jumped to if the layout says so
  pub come_end : (e : TypedTree) (from to : ℕ) → Stands code e from to → (layout_of e).joins ≡ true → IsJumpedTo code.instrs to
  come_end e from to (literal v f h) q = let no_join : false ≡ true = rw (laid e _ f.is) at q in cc
  come_end e from to (slot n f h next) q = let no_join : false ≡ true = rw (laid e _ f.is) at q in cc
  come_end e from to (unary op a m f h i next) q = let no_join : false ≡ true = rw (laid e _ f.is) at q in cc
  come_end e from to (binary op a b m n f h k i next) q = let no_join : false ≡ true = rw (laid e _ f.is) at q in cc
  come_end e from to (both a b m n f h i k j next) q = record { from = m; instr = AndTest to; stands = i.is; jumps = refl }
  come_end e from to (either a b m n f h i k j next) q = record { from = m; instr = OrTest to; stands = i.is; jumps = refl }
  come_end e from to (items xs m f hs i after) q = let no_join : false ≡ true = rw (laid e _ f.is) at q in cc
  come_end e from to (entries es m f hs i after) q = let no_join : false ≡ true = rw (laid e _ f.is) at q in cc
  come_end e from to (with_text op a text m f h i after) q = let no_join : false ≡ true = rw (laid e _ f.is) at q in cc
  come_end e from to (conditional c a b m n f h i k j l) q = record { from = n; instr = Jump to; stands = j.is; jumps = refl }
  come_end e from to (local d f h next) q = let no_join : false ≡ true = rw (laid e _ f.is) at q in cc
  come_end e from to (looped l a b m n f h i k j next) q =
      record { from = m; instr = instr.Loop (loop_number l) to; stands = i.begins.is; jumps = refl }
  come_end e from to (mapped a p b m k n f h i hp hw hb hn next) q =
      record { from = m; instr = instr.Loop (loop_number loop.Map) to; stands = i.begins.is; jumps = refl }

  pub all_come : (l : Layout) (at to : ℕ) (below : List CelType) (x : ℕ) → at + l.size ≡ to
      → (IsTarget (l.within at below) x → IsJumpedTo code.instrs x) → (l.joins ≡ true → IsJumpedTo code.instrs to)
      → IsTarget (targets_from l at below) x → IsJumpedTo code.instrs x
  all_come l at to below x e f g h = elim (target_cases (l.within at below) (target_at_end l at below) x h) [
    | inl p ↦ f p
    | inr p ↦ let q = end_is l.joins (at + l.size) x (below ++ l.type ∷ []) p in subst (IsJumpedTo code.instrs) (sym e ∙ q.1) (g q.0)
  ]

  mutual
    pub come : (e : TypedTree) (from to : ℕ) → Stands code e from to → (at : ℕ) → at ≡ from → (below : List CelType) → (x : ℕ)
        → IsTarget ((layout_of e).within at below) x → IsJumpedTo code.instrs x
    come e from to (literal v f h) at same below x t = absurd (rw (laid e _ f.is) at t)
    come e from to (slot n f h next) at same below x t = absurd (rw (laid e _ f.is) at t)
    come e from to (unary op a m f h i next) at same below x t =
        let u = sized code a from m h in
        all_come (layout_of a) at m below x (omega arith) (come a from m h at same below x) (come_end a from m h) (rw (laid e _ f.is) at t)
    come e from to (binary op a b m n f h k i next) at same below x t =
        let u = sized code a from m h in
        let v = sized code b m n k in
        let under = below ++ (layout_of a).type ∷ [] in
        elim (target_cases (targets_from (layout_of a) at below) (targets_from (layout_of b) (at + (layout_of a).size) under) x
        (rw (laid e _ f.is) at t)) [
          | inl p ↦ all_come (layout_of a) at m below x (omega arith) (come a from m h at same below x) (come_end a from m h) p
          | inr p ↦
              all_come (layout_of b) _ n under x (omega arith) (come b m n k (at + (layout_of a).size) (omega arith) under x)
              (come_end b m n k) p
        ]
    come e from to (both a b m n f h i k j next) at same below x t =
        let u = sized code a from m h in
        let v = sized code b (m + 1) n k in
        let under = below ++ (layout_of a).type ∷ [] in
        elim (target_cases (targets_from (layout_of a) at below) (targets_from (layout_of b) (at + (layout_of a).size + 1) under) x
        (rw (laid e _ f.is) at t)) [
          | inl p ↦ all_come (layout_of a) at m below x (omega arith) (come a from m h at same below x) (come_end a from m h) p
          | inr p ↦
              all_come (layout_of b) _ n under x (omega arith) (come b (m + 1) n k (at + (layout_of a).size + 1) (omega arith) under x)
              (come_end b (m + 1) n k) p
        ]
    come e from to (either a b m n f h i k j next) at same below x t =
        let u = sized code a from m h in
        let v = sized code b (m + 1) n k in
        let under = below ++ (layout_of a).type ∷ [] in
        elim (target_cases (targets_from (layout_of a) at below) (targets_from (layout_of b) (at + (layout_of a).size + 1) under) x
        (rw (laid e _ f.is) at t)) [
          | inl p ↦ all_come (layout_of a) at m below x (omega arith) (come a from m h at same below x) (come_end a from m h) p
          | inr p ↦
              all_come (layout_of b) _ n under x (omega arith) (come b (m + 1) n k (at + (layout_of a).size + 1) (omega arith) under x)
              (come_end b (m + 1) n k) p
        ]
    come e from to (conditional c a b m n f h i k j l) at same below x t =
        let u = sized code c from m h in
        let v = sized code a (m + 1) n k in
        let yes_at = at + (layout_of c).size + 1 in
        let no_at = yes_at + (layout_of a).size + 1 in
        let no_is : no_at ≡ n + 1 = omega arith in
        let first = targets_from (layout_of c) at below in
        let second = targets_from (layout_of a) yes_at below in
        elim (target_cases (first ++ second) (target no_at below ∷ (layout_of b).within no_at below) x (rw (laid e _ f.is) at t)) [
          | inl p ↦ elim (target_cases first second x p) [
            | inl q ↦ all_come (layout_of c) at m below x (omega arith) (come c from m h at same below x) (come_end c from m h) q
            | inr q ↦
                all_come (layout_of a) yes_at n below x (omega arith) (come a (m + 1) n k yes_at (omega arith) below x)
                (come_end a (m + 1) n k) q
          ]
          | inr p ↦ elim p [
            | inl q ↦ record { from = m; instr = Cond (n + 1) to; stands = i.is; jumps = inl (sym no_is ∙ q) }
            | inr q ↦ come b (n + 1) to l no_at no_is below x q
          ]
        ]
    come e from to (items xs m f hs i after) at same below x t = come_each xs from m hs at same below x (rw (laid e _ f.is) at t)
    come e from to (entries es m f hs i after) at same below x t =
        come_each (by_turns es) from m hs at same below x (rw (laid_map e es f.is) at t)
    come e from to (with_text op a text m f h i after) at same below x t =
        let u = sized code a from m h in
        all_come (layout_of a) at m below x (omega arith) (come a from m h at same below x) (come_end a from m h) (rw (laid e _ f.is) at t)
    come e from to (local d f h next) at same below x t = absurd (rw (laid e _ f.is) at t)
    come e from to (looped l a b m n f h i k j next) at same below x t =
        let u = sized code a from m h in
        let v = sized code b (m + 2) n k in
        let body_at = at + (layout_of a).size + 2 in
        elim (target_cases (targets_from (layout_of a) at below) (targets_from (layout_of b) body_at []) x (rw (laid e _ f.is) at t)) [
          | inl p ↦ all_come (layout_of a) at m below x (omega arith) (come a from m h at same below x) (come_end a from m h) p
          | inr p ↦
              all_come (layout_of b) body_at n [] x (omega arith) (come b (m + 2) n k body_at (omega arith) [] x) (come_end b (m + 2) n k) p
        ]
    come e from to (mapped a p b m k n f h i hp hw hb hn next) at same below x t =
        let u = sized code a from m h in
        let v = sized code p (m + 2) k hp in
        let w = sized code b (k + 1) n hb in
        let test_at = at + (layout_of a).size + 2 in
        let body_at = test_at + (layout_of p).size + 1 in
        let first = targets_from (layout_of a) at below in
        let second = targets_from (layout_of p) test_at [] in
        elim (target_cases (first ++ second) (targets_from (layout_of b) body_at []) x (rw (laid e _ f.is) at t)) [
          | inl q ↦ elim (target_cases first second x q) [
            | inl r ↦ all_come (layout_of a) at m below x (omega arith) (come a from m h at same below x) (come_end a from m h) r
            | inr r ↦
                all_come (layout_of p) test_at k [] x (omega arith) (come p (m + 2) k hp test_at (omega arith) [] x)
                (come_end p (m + 2) k hp) r
          ]
          | inr q ↦
              all_come (layout_of b) body_at n [] x (omega arith) (come b (k + 1) n hb body_at (omega arith) [] x)
              (come_end b (k + 1) n hb) q
        ]

    come_each : (xs : List TypedTree) (from to : ℕ) → StandEach code xs from to → (at : ℕ) → at ≡ from → (below : List CelType) → (x : ℕ)
        → IsTarget (targets_of (layouts_of xs) at below) x → IsJumpedTo code.instrs x
    come_each xs from to (no_items none same') at same below x t = absurd (rw none at t)
    come_each xs from to (first_item a rest m is h hs) at same below x t =
        let u = sized code a from m h in
        let under = below ++ (layout_of a).type ∷ [] in
        elim (target_cases (targets_from (layout_of a) at below) (targets_of (layouts_of rest) (at + (layout_of a).size) under) x
        (rw is at t)) [
          | inl p ↦ all_come (layout_of a) at m below x (omega arith) (come a from m h at same below x) (come_end a from m h) p
          | inr p ↦ come_each rest m to hs (at + (layout_of a).size) (omega arith) under x p
        ]
