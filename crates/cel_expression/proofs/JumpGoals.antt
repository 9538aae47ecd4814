-- Each jump goes to a target.
use Rattle.std.proofs.Common.{◌≡◌, ℕ, ◌+◌, ◌<◌, ◌≤◌, List, [], ◌∷◌, ◌++◌, Some, refl, sym, ap, ◌∙◌, subst, inl, inr, arith}
use Rattle.std.specs.Prelude.{slice_get}
use Rattle.std.proofs.lemmas.Bool.{cases_lt}
use Rattle.cel_value.specs.declared.cel_type.CelType.{CelType}
use Rattle.cel_check.specs.declared.tree.TypedTree.{TypedTree}
use Rattle.cel_value.specs.Turns.{by_turns}
use Rattle.cel_code.specs.LoopNumbers.{loop_number}
use Rattle.cel_code.specs.declared.instr.Instr.{Instr}
use Rattle.cel_code.specs.declared.instr.Instr.TheVariants.{Const, AndTest, OrTest, Cond, Jump, Item, When}
use Rattle.cel_code.specs.declared.instr.Instr.TheVariants as instr
use Rattle.cel_value.specs.declared.expr.Loop.TheVariants as loop
use Rattle.cel_expression.specs.Compiled.{targets_from, layout_of, targets_of}
use Rattle.cel_expression.specs.Drafts.{layouts_of}
use Rattle.cel_expression.specs.Jumps.{Jumps, IsTarget}
use Rattle.cel_expression.specs.Placed.{Code, Has, Stands, literal, unary, binary, both, either, conditional, items, StandEach, no_items}
use Rattle.cel_expression.specs.Placed.{first_item, slot, entries, with_text, local, looped, mapped}
use Rattle.cel_expression.proofs.Written.{laid, laid_map}
use Rattle.cel_expression.proofs.TargetLists.{target_left, target_right, Goes, all_go}
use Rattle.cel_expression.proofs.TargetOrder.{sized}

module _ (code : Code) where
  -- wherever an instruction jumps, the instruction at the same place jumps
  pub here : (k m : ℕ) (i j : Instr) → Has code k i → Has code m j → m ≡ k → (x : ℕ) → Jumps i x → Jumps j x
  here k m i j p q e x h =
      let same : Some i ≡ Some j = sym p.is ∙ ap (slice_get code.instrs) (sym e) ∙ q.is in
      let is : i ≡ j = cc in
      subst (λ z. Jumps z x) is h

  mutual
    pub go : (e : TypedTree) (from to : ℕ) → Stands code e from to → (at : ℕ) → at ≡ from → (below : List CelType) → (s : ℕ)
        → from ≤ s → s < to → (instr : Instr) → Has code s instr → (x : ℕ) → Jumps instr x
        → Goes (layout_of e) at to below x
    go e from to (literal v f h) at same below s le lt instr has x j =
        absurd (here s from instr (Const h.number) has h.instr (omega (arith, h.next)) x j)
    go e from to (slot n f h next) at same below s le lt instr has x j =
        absurd (here s from instr _ has h (omega (arith, next)) x j)
    go e from to (unary op a m f h i next) at same below s le lt instr has x j =
        let u = sized code a from m h in
        rw (laid e _ f.is) (elim (cases_lt s m) [
          | inl less ↦ inl (all_go (layout_of a) at m below x (omega arith) (go a from m h at same below s le less instr has x j))
          | inr more ↦ absurd (here s m instr _ has i (omega arith) x j)
        ])
    go e from to (binary op a b m n f h k i next) at same below s le lt instr has x j =
        let u = sized code a from m h in
        let v = sized code b m n k in
        rw (laid e _ f.is) (elim (cases_lt s m) [
          | inl less ↦
              inl (target_left _ _ x (all_go (layout_of a) at m below x (omega arith)
              (go a from m h at same below s le less instr has x j)))
          | inr more ↦ elim (cases_lt s n) [
            | inl less ↦
                inl
                (target_right (targets_from (layout_of a) at below) _ x
                (all_go (layout_of b) _ n _ x (omega arith) (go b m n k _ (omega arith) _ s more less instr has x j)))
            | inr last ↦ absurd (here s n instr _ has i (omega arith) x j)
          ]
        ])
    go e from to (both a b m n f h i k j' next) at same below s le lt instr has x j =
        let u = sized code a from m h in
        let v = sized code b (m + 1) n k in
        rw (laid e _ f.is) (elim (cases_lt s m) [
          | inl less ↦
              inl (target_left _ _ x (all_go (layout_of a) at m below x (omega arith)
              (go a from m h at same below s le less instr has x j)))
          | inr more ↦ elim (cases_lt s (m + 1)) [
            | inl less ↦ inr (sym (here s m instr (AndTest to) has i (omega arith) x j), refl)
            | inr right ↦ elim (cases_lt s n) [
              | inl less ↦
                  inl
                  (target_right (targets_from (layout_of a) at below) _ x
                  (all_go (layout_of b) _ n _ x (omega arith) (go b (m + 1) n k _ (omega arith) _ s right less instr has x j)))
              | inr last ↦ absurd (here s n instr _ has j' (omega arith) x j)
            ]
          ]
        ])
    go e from to (either a b m n f h i k j' next) at same below s le lt instr has x j =
        let u = sized code a from m h in
        let v = sized code b (m + 1) n k in
        rw (laid e _ f.is) (elim (cases_lt s m) [
          | inl less ↦
              inl (target_left _ _ x (all_go (layout_of a) at m below x (omega arith)
              (go a from m h at same below s le less instr has x j)))
          | inr more ↦ elim (cases_lt s (m + 1)) [
            | inl less ↦ inr (sym (here s m instr (OrTest to) has i (omega arith) x j), refl)
            | inr right ↦ elim (cases_lt s n) [
              | inl less ↦
                  inl
                  (target_right (targets_from (layout_of a) at below) _ x
                  (all_go (layout_of b) _ n _ x (omega arith) (go b (m + 1) n k _ (omega arith) _ s right less instr has x j)))
              | inr last ↦ absurd (here s n instr _ has j' (omega arith) x j)
            ]
          ]
        ])
    go e from to (conditional c a b m n f h i k j' l) at same below s le lt instr has x j =
        let u = sized code c from m h in
        let v = sized code a (m + 1) n k in
        let no_at = at + (layout_of c).size + 1 + (layout_of a).size + 1 in
        let no_is : no_at ≡ n + 1 = omega arith in
        let first = targets_from (layout_of c) at below in
        let second = targets_from (layout_of a) (at + (layout_of c).size + 1) below in
        rw (laid e _ f.is) (elim (cases_lt s m) [
          | inl less ↦
              inl
              (target_left (first ++ second) _ x
              (target_left first second x
              (all_go (layout_of c) at m below x (omega arith) (go c from m h at same below s le less instr has x j))))
          | inr more ↦ elim (cases_lt s (m + 1)) [
            | inl less ↦ elim (here s m instr (Cond (n + 1) to) has i (omega arith) x j) [
              | inl on_false ↦ inl (target_right (first ++ second) _ x (inl (no_is ∙ on_false)))
              | inr on_error ↦ inr (sym on_error, refl)
            ]
            | inr later ↦ elim (cases_lt s n) [
              | inl less ↦
                  inl
                  (target_left (first ++ second) _ x
                  (target_right first second x
                  (all_go (layout_of a) _ n below x (omega arith) (go a (m + 1) n k _ (omega arith) below s later less instr has x j))))
              | inr jump ↦ elim (cases_lt s (n + 1)) [
                | inl less ↦ inr (sym (here s n instr (Jump to) has j' (omega arith) x j), refl)
                | inr no_branch ↦ elim (go b (n + 1) to l no_at no_is below s no_branch lt instr has x j) [
                  | inl t ↦ inl (target_right (first ++ second) _ x (inr t))
                  | inr t ↦ inr (t.0, refl)
                ]
              ]
            ]
          ]
        ])
    go e from to (items xs m f hs i after) at same below s le lt instr' has x j =
        rw (laid e _ f.is) (elim (cases_lt s m) [
          | inl less ↦ inl (go_each xs from m hs at same below s le less instr' has x j)
          | inr more ↦ absurd (here s m instr' _ has i (omega arith) x j)
        ])
    go e from to (entries es m f hs i after) at same below s le lt instr' has x j =
        rw (laid_map e es f.is) (elim (cases_lt s m) [
          | inl less ↦ inl (go_each (by_turns es) from m hs at same below s le less instr' has x j)
          | inr more ↦ absurd (here s m instr' _ has i (omega arith) x j)
        ])
    go e from to (with_text op a text m f h i after) at same below s le lt instr has x j =
        let u = sized code a from m h in
        rw (laid e _ f.is) (elim (cases_lt s m) [
          | inl less ↦ inl (all_go (layout_of a) at m below x (omega arith) (go a from m h at same below s le less instr has x j))
          | inr more ↦ absurd (here s m instr _ has i.instr (omega arith) x j)
        ])
    go e from to (local d f h next) at same below s le lt instr has x j =
        absurd (here s from instr _ has h (omega (arith, next)) x j)
    go e from to (looped l a b m n f h i k j' next) at same below s le lt instr' has x j =
        let u = sized code a from m h in
        let v = sized code b (m + 2) n k in
        rw (laid e _ f.is) (elim (cases_lt s m) [
          | inl less ↦
              inl (target_left _ _ x (all_go (layout_of a) at m below x (omega arith)
              (go a from m h at same below s le less instr' has x j)))
          | inr more ↦ elim (cases_lt s (m + 1)) [
            | inl less ↦ inr (sym (here s m instr' (instr.Loop (loop_number l) to) has i.begins (omega arith) x j), refl)
            | inr behind ↦ elim (cases_lt s (m + 2)) [
              | inl less ↦ absurd (here s (m + 1) instr' Item has i.item (omega arith) x j)
              | inr inside ↦ elim (cases_lt s n) [
                | inl less ↦
                    inl
                    (target_right (targets_from (layout_of a) at below) _ x
                    (all_go (layout_of b) _ n [] x (omega arith) (go b (m + 2) n k _ (omega arith) [] s inside less instr' has x j)))
                | inr last ↦ absurd (here s n instr' _ has j' (omega arith) x j)
              ]
            ]
          ]
        ])
    go e from to (mapped a p b m k n f h i hp hw hb hn next) at same below s le lt instr' has x j =
        let u = sized code a from m h in
        let v = sized code p (m + 2) k hp in
        let w = sized code b (k + 1) n hb in
        let first = targets_from (layout_of a) at below in
        let second = targets_from (layout_of p) (at + (layout_of a).size + 2) [] in
        rw (laid e _ f.is) (elim (cases_lt s m) [
          | inl less ↦
              inl
              (target_left (first ++ second) _ x
              (target_left first second x
              (all_go (layout_of a) at m below x (omega arith) (go a from m h at same below s le less instr' has x j))))
          | inr more ↦ elim (cases_lt s (m + 1)) [
            | inl less ↦ inr (sym (here s m instr' (instr.Loop (loop_number loop.Map) to) has i.begins (omega arith) x j), refl)
            | inr behind ↦ elim (cases_lt s (m + 2)) [
              | inl less ↦ absurd (here s (m + 1) instr' Item has i.item (omega arith) x j)
              | inr inside ↦ elim (cases_lt s k) [
                | inl less ↦
                    inl
                    (target_left (first ++ second) _ x
                    (target_right first second x
                    (all_go (layout_of p) _ k [] x (omega arith) (go p (m + 2) k hp _ (omega arith) [] s inside less instr' has x j))))
                | inr tested ↦ elim (cases_lt s (k + 1)) [
                  | inl less ↦ absurd (here s k instr' When has hw (omega arith) x j)
                  | inr later ↦ elim (cases_lt s n) [
                    | inl less ↦
                        inl
                        (target_right (first ++ second) _ x
                        (all_go (layout_of b) _ n [] x (omega arith) (go b (k + 1) n hb _ (omega arith) [] s later less instr' has x j)))
                    | inr last ↦ absurd (here s n instr' _ has hn (omega arith) x j)
                  ]
                ]
              ]
            ]
          ]
        ])

    go_each : (xs : List TypedTree) (from to : ℕ) → StandEach code xs from to → (at : ℕ) → at ≡ from → (below : List CelType) → (s : ℕ)
        → from ≤ s → s < to → (instr : Instr) → Has code s instr → (x : ℕ) → Jumps instr x
        → IsTarget (targets_of (layouts_of xs) at below) x
    go_each xs from to (no_items none same') at same below s le lt i has x j = absurd (omega (arith, same'))
    go_each xs from to (first_item a rest m is h hs) at same below s le lt i has x j =
        let u = sized code a from m h in
        rw is (elim (cases_lt s m) [
          | inl less ↦ target_left _ _ x (all_go (layout_of a) at m below x (omega arith) (go a from m h at same below s le less i has x j))
          | inr more ↦
              target_right (targets_from (layout_of a) at below) _ x
              (go_each rest m to hs (at + (layout_of a).size) (omega arith) (below ++ (layout_of a).type ∷ []) s more lt i has x j)
        ])
