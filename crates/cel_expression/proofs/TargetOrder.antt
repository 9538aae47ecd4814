-- Targets are in increasing order.
use Rattle.std.proofs.Common.{◌≡◌, ℕ, ◌+◌, List, [], ◌∷◌, ◌++◌, sym, arith}
use Rattle.cel_value.specs.declared.cel_type.CelType.{CelType}
use Rattle.cel_check.specs.declared.tree.TypedTree.{TypedTree}
use Rattle.cel_value.specs.Turns.{by_turns}
use Rattle.cel_expression.specs.Compiled.{layout_of, sizes_of, targets_of}
use Rattle.cel_expression.specs.Drafts.{layouts_of}
use Rattle.cel_expression.specs.Jumps.{Rises}
use Rattle.cel_expression.specs.Placed.{Code, Stands, literal, unary, binary, both, either, conditional}
use Rattle.cel_expression.specs.Placed.{items, StandEach, no_items, first_item, slot, entries, with_text, local, looped, mapped}
use Rattle.cel_expression.proofs.Written.{laid, laid_map}
use Rattle.cel_expression.proofs.TargetLists.{rises_from, rises_on, all_rise}

module _ (code : Code) where
  mutual
    pub sized : (e : TypedTree) (from to : ℕ) → Stands code e from to → from + (layout_of e).size ≡ to
    sized e from to (literal v f h) = rw (laid e _ f.is) (sym h.next)
    sized e from to (slot n f h next) = rw (laid e _ f.is) (sym next)
    sized e from to (unary op a m f h i next) = let x = sized a from m h in rw (laid e _ f.is) (omega (arith, x, next))
    sized e from to (binary op a b m n f h k i next) =
        let x = sized a from m h in let y = sized b m n k in rw (laid e _ f.is) (omega (arith, x, y, next))
    sized e from to (both a b m n f h i k j next) =
        let x = sized a from m h in let y = sized b (m + 1) n k in rw (laid e _ f.is) (omega (arith, x, y, next))
    sized e from to (either a b m n f h i k j next) =
        let x = sized a from m h in let y = sized b (m + 1) n k in rw (laid e _ f.is) (omega (arith, x, y, next))
    sized e from to (conditional c a b m n f h i k j l) =
        let x = sized c from m h in let y = sized a (m + 1) n k in let z = sized b (n + 1) to l
        in rw (laid e _ f.is) (omega (arith, x, y, z))
    sized e from to (items xs m f hs i after) = let x = sized_each xs from m hs in rw (laid e _ f.is) (omega (arith, x, after))
    sized e from to (entries es m f hs i after) =
        let x = sized_each (by_turns es) from m hs in rw (laid_map e es f.is) (omega (arith, x, after))
    sized e from to (with_text op a text m f h i after) = let x = sized a from m h in rw (laid e _ f.is) (omega (arith, x, after))
    sized e from to (local d f h next) = rw (laid e _ f.is) (sym next)
    sized e from to (looped l a b m n f h i k j next) =
        let x = sized a from m h in let y = sized b (m + 2) n k in rw (laid e _ f.is) (omega (arith, x, y, next))
    sized e from to (mapped a p b m k n f h i hp hw hb hn next) =
        let x = sized a from m h in
        let y = sized p (m + 2) k hp in let z = sized b (k + 1) n hb in rw (laid e _ f.is) (omega (arith, x, y, z, next))

    sized_each : (xs : List TypedTree) (from to : ℕ) → StandEach code xs from to → from + sizes_of (layouts_of xs) ≡ to
    sized_each xs from to (no_items none same) = rw none (omega (arith, same))
    sized_each xs from to (first_item a rest m is h hs) =
        let x = sized a from m h in let y = sized_each rest m to hs in rw is (omega (arith, x, y))

  -- the targets before the end are after the first instruction, in increasing order
  mutual
    pub rise : (e : TypedTree) (from to : ℕ) → Stands code e from to → (at : ℕ) → at ≡ from → (below : List CelType)
        → Rises (from + 1) ((layout_of e).within at below) to
    rise e from to (literal v f h) at same below = rw (laid e _ f.is) (omega (arith, h.next))
    rise e from to (slot n f h next) at same below = rw (laid e _ f.is) (omega (arith, next))
    rise e from to (unary op a m f h i next) at same below =
        let x = sized a from m h in
        rw (laid e _ f.is, next) (all_rise (layout_of a) (from + 1) at m below (omega arith) (rise a from m h at same below))
    rise e from to (binary op a b m n f h k i next) at same below =
        let x = sized a from m h in
        let y = sized b m n k in
        let p = all_rise (layout_of a) (from + 1) at m below (omega arith) (rise a from m h at same below) in
        let q =
        all_rise (layout_of b) (m + 1) (at + (layout_of a).size) n (below ++ (layout_of a).type ∷ []) (omega arith)
        (rise b m n k _ (omega arith) _) in
        rw (laid e _ f.is, next) (rises_on _ _ (from + 1) (m + 1) (n + 1) p q)
    rise e from to (both a b m n f h i k j next) at same below =
        let x = sized a from m h in
        let y = sized b (m + 1) n k in
        let p = all_rise (layout_of a) (from + 1) at m below (omega arith) (rise a from m h at same below) in
        let q =
        all_rise (layout_of b) (m + 1 + 1) (at + (layout_of a).size + 1) n (below ++ (layout_of a).type ∷ []) (omega arith)
        (rise b (m + 1) n k _ (omega arith) _) in
        rw (laid e _ f.is, next) (rises_on _ _ (from + 1) (m + 1) (n + 1) p (rises_from _ (m + 1) (m + 1 + 1) (n + 1) (omega arith) q))
    rise e from to (either a b m n f h i k j next) at same below =
        let x = sized a from m h in
        let y = sized b (m + 1) n k in
        let p = all_rise (layout_of a) (from + 1) at m below (omega arith) (rise a from m h at same below) in
        let q =
        all_rise (layout_of b) (m + 1 + 1) (at + (layout_of a).size + 1) n (below ++ (layout_of a).type ∷ []) (omega arith)
        (rise b (m + 1) n k _ (omega arith) _) in
        rw (laid e _ f.is, next) (rises_on _ _ (from + 1) (m + 1) (n + 1) p (rises_from _ (m + 1) (m + 1 + 1) (n + 1) (omega arith) q))
    rise e from to (conditional c a b m n f h i k j l) at same below =
        let x = sized c from m h in
        let y = sized a (m + 1) n k in
        let no_at = at + (layout_of c).size + 1 + (layout_of a).size + 1 in
        let no_is : no_at ≡ n + 1 = omega arith in
        let p = all_rise (layout_of c) (from + 1) at m below (omega arith) (rise c from m h at same below) in
        let q =
        all_rise (layout_of a) (m + 1 + 1) (at + (layout_of c).size + 1) n below (omega arith) (rise a (m + 1) n k _ (omega arith) _) in
        let r = rise b (n + 1) to l no_at no_is below in
        rw (laid e _ f.is)
        (rises_on _ _ (from + 1) (n + 1) to
        (rises_on _ _ (from + 1) (m + 1) (n + 1) p (rises_from _ (m + 1) (m + 1 + 1) (n + 1) (omega arith) q))
        (omega arith, rises_from _ (no_at + 1) (n + 1 + 1) to (omega arith) r))
    rise e from to (items xs m f hs i after) at same below = rw (laid e _ f.is, after) (rise_each xs from m hs at same below)
    rise e from to (entries es m f hs i after) at same below =
        rw (laid_map e es f.is, after) (rise_each (by_turns es) from m hs at same below)
    rise e from to (with_text op a text m f h i after) at same below =
        let x = sized a from m h in
        rw (laid e _ f.is, after) (all_rise (layout_of a) (from + 1) at m below (omega arith) (rise a from m h at same below))
    rise e from to (local d f h next) at same below = rw (laid e _ f.is) (omega (arith, next))
    rise e from to (looped l a b m n f h i k j next) at same below =
        let x = sized a from m h in
        let y = sized b (m + 2) n k in
        let p = all_rise (layout_of a) (from + 1) at m below (omega arith) (rise a from m h at same below) in
        let q =
        all_rise (layout_of b) (m + 2 + 1) (at + (layout_of a).size + 2) n [] (omega arith) (rise b (m + 2) n k _ (omega arith) []) in
        rw (laid e _ f.is, next) (rises_on _ _ (from + 1) (m + 1) (n + 1) p (rises_from _ (m + 1) (m + 2 + 1) (n + 1) (omega arith) q))
    rise e from to (mapped a p b m k n f h i hp hw hb hn next) at same below =
        let x = sized a from m h in
        let y = sized p (m + 2) k hp in
        let z = sized b (k + 1) n hb in
        let q = all_rise (layout_of a) (from + 1) at m below (omega arith) (rise a from m h at same below) in
        let r =
        all_rise (layout_of p) (m + 2 + 1) (at + (layout_of a).size + 2) k [] (omega arith) (rise p (m + 2) k hp _ (omega arith) []) in
        let t =
        all_rise (layout_of b) (k + 1 + 1) (at + (layout_of a).size + 2 + (layout_of p).size + 1) n [] (omega arith)
        (rise b (k + 1) n hb _ (omega arith) []) in
        rw (laid e _ f.is, next)
        (rises_on _ _ (from + 1) (k + 1) (n + 1)
        (rises_on _ _ (from + 1) (m + 1) (k + 1) q (rises_from _ (m + 1) (m + 2 + 1) (k + 1) (omega arith) r))
        (rises_from _ (k + 1) (k + 1 + 1) (n + 1) (omega arith) t))

    rise_each : (xs : List TypedTree) (from to : ℕ) → StandEach code xs from to → (at : ℕ) → at ≡ from → (below : List CelType)
        → Rises (from + 1) (targets_of (layouts_of xs) at below) (to + 1)
    rise_each xs from to (no_items none same') at same below = rw none (omega (arith, same'))
    rise_each xs from to (first_item a rest m is h hs) at same below =
        let x = sized a from m h in
        let p = all_rise (layout_of a) (from + 1) at m below (omega arith) (rise a from m h at same below) in
        let q = rise_each rest m to hs (at + (layout_of a).size) (omega arith) (below ++ (layout_of a).type ∷ []) in
        rw is (rises_on _ _ (from + 1) (m + 1) (to + 1) p q)
