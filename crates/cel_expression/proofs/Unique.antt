-- An expression compiles to one image.
use Rattle.std.proofs.Common.{◌≡◌, ℕ, zero, suc, ◌+◌, ◌<◌, ◌≤◌, List, [], ◌∷◌, ◌++◌}
use Rattle.std.proofs.Common.{length, Some, ◌⊎◌, refl, sym, ap, ◌∙◌, subst, inl, inr, arith}
use Rattle.std.specs.Prelude.{slice_get}
use Rattle.std.proofs.lemmas.Bool.{cases_lt}
use Rattle.cel_value.specs.declared.cel_type.CelType.{CelType}
use Rattle.cel_value.specs.declared.value.Value.{Value}
use Rattle.cel_value.specs.declared.value.Value as value
use Rattle.cel_value.specs.Turns.{by_turns}
use Rattle.cel_check.specs.declared.tree.TypedTree.{TypedTree, out-TypedTree}
use Rattle.cel_check.specs.declared.tree.Form.{Form}
use Rattle.cel_check.specs.declared.tree.Form.TheVariants as form
use Rattle.cel_code.specs.LoopNumbers.{loop_number}
use Rattle.cel_code.specs.declared.image.Image.{Image}
use Rattle.cel_code.specs.declared.instr.Instr.{Instr}
use Rattle.cel_code.specs.declared.instr.Instr.TheVariants.{Const, Slot, Local, Op, AndTest, OrTest, And, Or, Cond, Jump, When}
use Rattle.cel_expression.specs.Compiled.{EachOnce, nothing, first, again, IsCompiled, layout_of}
use Rattle.cel_operators.specs.Operators.{code_of}
use Rattle.cel_expression.specs.Placed.{Code, code_in, Has, Pushes, Stands, literal, unary, binary, both, either, conditional, items}
use Rattle.cel_expression.specs.Placed.{StandEach, no_items, first_item, slot, entries, with_text, HasText, local, looped, mapped}
use Rattle.cel_expression.specs.Placed.{OpensLoop}
use Rattle.cel_value.specs.declared.expr.Loop.{Loop}
use Rattle.cel_value.specs.declared.expr.Loop.TheVariants as loop
use Rattle.cel_code.specs.declared.instr.Instr.TheVariants as instr
use Rattle.cel_expression.proofs.Place.{contains_at, get_last}

-- a list that ends with an element is not empty, and has one front and one last element
front : {X : Type 0} → List X → List X
front [] = []
front (x ∷ []) = []
front (x ∷ y ∷ xs) = x ∷ front (y ∷ xs)

front_is : {X : Type 0} (xs : List X) (x : X) → front (xs ++ x ∷ []) ≡ xs
unfolding front
front_is [] x = refl
front_is (y ∷ []) x = refl
front_is (y ∷ z ∷ xs) x = ap (λ l. y ∷ l) (front_is (z ∷ xs) x)

one_front : {X : Type 0} (xs ys : List X) (x y : X) → xs ++ x ∷ [] ≡ ys ++ y ∷ [] → xs ≡ ys
one_front xs ys x y e = sym (front_is xs x) ∙ (ap front e ∙ front_is ys y)

one_last : {X : Type 0} (xs ys : List X) (x y : X) → xs ++ x ∷ [] ≡ ys ++ y ∷ [] → x ≡ y
one_last xs ys x y e =
    let same = one_front xs ys x y e in
    let at_end : slice_get (ys ++ y ∷ []) (length xs) ≡ Some x = ap (λ l. slice_get l (length xs)) (sym e) ∙ get_last xs x in
    let there : slice_get (ys ++ y ∷ []) (length xs) ≡ Some y =
    ap (λ l. slice_get (ys ++ y ∷ []) (length l)) same ∙ get_last ys y in
    cc

no_end : {X : Type 0} (xs : List X) (x : X) → xs ++ x ∷ [] ≡ [] → ⊥
no_end [] x e = cc
no_end (y ∷ xs) x e = cc

-- the constants are one list
one_list : (vs us ws : List Value) → EachOnce vs us → EachOnce vs ws → us ≡ ws
one_list vs us ws (nothing e f) (nothing g h) = f ∙ sym h
one_list vs us ws (nothing e f) (first vs' us' v once fresh g h) = absurd (no_end vs' v (sym g ∙ e))
one_list vs us ws (nothing e f) (again vs' v once there g) = absurd (no_end vs' v (sym g ∙ e))
one_list vs us ws (first vs' us' v once fresh e f) (nothing g h) = absurd (no_end vs' v (sym e ∙ g))
one_list vs us ws (first vs' us' v once fresh e f) (first vs2 us2 v2 once2 fresh2 e2 f2) =
    let e3 = sym e ∙ e2 in
    let once3 : EachOnce vs' us2 = rw (one_front vs' vs2 v v2 e3) once2 in
    let same = one_list vs' us' us2 once once3 in
    let last = one_last vs' vs2 v v2 e3 in
    f ∙ (ap (λ l. l ++ v ∷ []) same ∙ ap (λ x. us2 ++ x ∷ []) last) ∙ sym f2
one_list vs us ws (first vs' us' v once fresh e f) (again vs2 v2 once2 there2 e2) =
    let e3 = sym e ∙ e2 in
    let once3 : EachOnce vs' ws = rw (one_front vs' vs2 v v2 e3) once2 in
    let same = one_list vs' us' ws once once3 in
    absurd (fresh (rw (same, one_last vs' vs2 v v2 e3) there2))
one_list vs us ws (again vs' v once there e) (nothing g h) = absurd (no_end vs' v (sym e ∙ g))
one_list vs us ws (again vs' v once there e) (first vs2 us2 v2 once2 fresh2 e2 f2) =
    let e3 = sym e ∙ e2 in
    let once3 : EachOnce vs' us2 = rw (one_front vs' vs2 v v2 e3) once2 in
    let same = one_list vs' us us2 once once3 in
    absurd (fresh2 (rw (sym same, sym (one_last vs' vs2 v v2 e3)) there))
one_list vs us ws (again vs' v once there e) (again vs2 v2 once2 there2 e2) =
    one_list vs' us ws once (rw (one_front vs' vs2 v v2 (sym e ∙ e2)) once2)

last_cases : (us : List Value) (w v : Value) (m : ℕ) → slice_get (us ++ w ∷ []) m ≡ Some v
    → (slice_get us m ≡ Some v) ⊎ ((m ≡ length us) × (w ≡ v))
last_cases [] w v zero h = inr (refl, cc)
last_cases [] w v (suc m) h = cc
last_cases (u ∷ us) w v zero h = inl h
last_cases (u ∷ us) w v (suc m) h = elim (last_cases us w v m h) [
  | inl p ↦ inl p
  | inr q ↦ inr (ap suc q.0, q.1)
]

-- each constant is at one place
one_place : (vs us : List Value) → EachOnce vs us → (v : Value) (m n : ℕ) → slice_get us m ≡ Some v → slice_get us n ≡ Some v
    → m ≡ n
one_place vs us (nothing e f) v m n h k = let none = ap (λ l. slice_get l m) f in cc
one_place vs us (again vs' w once there e) v m n h k = one_place vs' us once v m n h k
one_place vs us (first vs' us' w once fresh e f) v m n h k =
    let absent : (i : ℕ) → slice_get us' i ≡ Some v → w ≡ v → ⊥ = λ i p q. fresh (contains_at us' i w (rw q p)) in
    elim (last_cases us' w v m (rw f at h)) [
      | inl p ↦ elim (last_cases us' w v n (rw f at k)) [
        | inl r ↦ one_place vs' us' once v m n p r
        | inr r ↦ absurd (absent m p r.1)
      ]
      | inr p ↦ elim (last_cases us' w v n (rw f at k)) [
        | inl r ↦ absurd (absent n r p.1)
        | inr r ↦ p.0 ∙ sym r.0
      ]
    ]

-- the parts of an expression's instructions, by its form
abbrev Parts : Code → Form TypedTree → ℕ → ℕ → Type 0
Parts code (form.Literal v) from to = Pushes code from to v
Parts code (form.Slot n) from to = Has code from (Slot n) × (to ≡ from + 1)
Parts code (form.Unary op a) from to = (m : ℕ) × Stands code a from m × Has code m (Op (code_of op)) × (to ≡ m + 1)
Parts code (form.Binary op a b) from to =
    (m n : ℕ) × Stands code a from m × Stands code b m n × Has code n (Op (code_of op)) × (to ≡ n + 1)
Parts code (form.And a b) from to =
    (m n : ℕ) × Stands code a from m × Has code m (AndTest to) × Stands code b (m + 1) n × Has code n And × (to ≡ n + 1)
Parts code (form.Or a b) from to =
    (m n : ℕ) × Stands code a from m × Has code m (OrTest to) × Stands code b (m + 1) n × Has code n Or × (to ≡ n + 1)
Parts code (form.Conditional c a b) from to =
    (m n : ℕ) × Stands code c from m × Has code m (Cond (n + 1) to) × Stands code a (m + 1) n × Has code n (Jump to)
    × Stands code b (n + 1) to
Parts code (form.ListOf xs) from to = (m : ℕ) × StandEach code xs from m × Has code m (instr.List (length xs)) × (to ≡ m + 1)
Parts code (form.MapOf es) from to = (m : ℕ) × StandEach code (by_turns es) from m × Has code m (instr.Map (length es)) × (to ≡ m + 1)
Parts code (form.WithText op a text) from to = (m : ℕ) × Stands code a from m × HasText code m op text × (to ≡ m + 1)
Parts code (form.Local d) from to = Has code from (Local d) × (to ≡ from + 1)
Parts code (form.Loop l a b) from to =
    (m n : ℕ) × Stands code a from m × OpensLoop code m l to × Stands code b (m + 2) n × Has code n instr.Next × (to ≡ n + 1)
Parts code (form.MapWhere a p b) from to =
    (m k n : ℕ) × Stands code a from m × OpensLoop code m loop.Map to × Stands code p (m + 2) k × Has code k When
    × Stands code b (k + 1) n × Has code n instr.Next × (to ≡ n + 1)

-- the parts of the instructions of expressions one after another, by the list
abbrev EachPart : Code → List TypedTree → ℕ → ℕ → Type 0
EachPart code [] from to = to ≡ from
EachPart code (a ∷ rest) from to = (m : ℕ) × Stands code a from m × StandEach code rest m to

each_part : (code : Code) (xs ys : List TypedTree) (from to : ℕ) → xs ≡ ys → StandEach code xs from to → EachPart code ys from to
each_part code xs ys from to e (no_items none same) = subst (λ z. EachPart code z from to) (sym none ∙ e) same
each_part code xs ys from to e (first_item a rest m is h hs) = subst (λ z. EachPart code z from to) (sym is ∙ e) (m, h, hs)

parts : (code : Code) (e : TypedTree) (f : Form TypedTree) (from to : ℕ) → (out-TypedTree e).form ≡ f → Stands code e from to
    → Parts code f from to
parts code e f from to is (literal v g h) = subst (λ x. Parts code x from to) (sym g.is ∙ is) h
parts code e f from to is (slot n g h i) = subst (λ x. Parts code x from to) (sym g.is ∙ is) (h, i)
parts code e f from to is (unary op a m g h i n) = subst (λ x. Parts code x from to) (sym g.is ∙ is) (m, h, i, n)
parts code e f from to is (binary op a b m n g h k i l) = subst (λ x. Parts code x from to) (sym g.is ∙ is) (m, n, h, k, i, l)
parts code e f from to is (both a b m n g h i k j l) = subst (λ x. Parts code x from to) (sym g.is ∙ is) (m, n, h, i, k, j, l)
parts code e f from to is (either a b m n g h i k j l) = subst (λ x. Parts code x from to) (sym g.is ∙ is) (m, n, h, i, k, j, l)
parts code e f from to is (conditional c a b m n g h i k j l) = subst (λ x. Parts code x from to) (sym g.is ∙ is) (m, n, h, i, k, j, l)
parts code e f from to is (items xs m g hs i n) = subst (λ x. Parts code x from to) (sym g.is ∙ is) (m, hs, i, n)
parts code e f from to is (entries es m g hs i n) = subst (λ x. Parts code x from to) (sym g.is ∙ is) (m, hs, i, n)
parts code e f from to is (with_text op a text m g h i n) = subst (λ x. Parts code x from to) (sym g.is ∙ is) (m, h, i, n)
parts code e f from to is (local d g h i) = subst (λ x. Parts code x from to) (sym g.is ∙ is) (h, i)
parts code e f from to is (looped l a b m n g h i k j o) = subst (λ x. Parts code x from to) (sym g.is ∙ is) (m, n, h, i, k, j, o)
parts code e f from to is (mapped a p b m k n g h i hp hw hb hn o) =
    subst (λ x. Parts code x from to) (sym g.is ∙ is) (m, k, n, h, i, hp, hw, hb, hn, o)

module _ (c d : Code) where
  -- the same instructions from one place up to another
  record Alike (from to : ℕ) : Type 0 where
    each : (k : ℕ) → from ≤ k → k < to → slice_get c.instrs k ≡ slice_get d.instrs k

  one : (at : ℕ) (i j : Instr) → Has c at i → Has d at j → i ≡ j → Alike at (at + 1)
  one at i j p q same =
      record {
        each = λ k le lt. let here : at ≡ k = omega arith
            in subst (λ n. slice_get c.instrs n ≡ slice_get d.instrs n) here (p.is ∙ (ap Some same ∙ sym q.is));
      }

  on : (from m to : ℕ) → Alike from m → Alike m to → Alike from to
  on from m to a b = record { each = λ k le lt. elim (cases_lt k m) [ inl less ↦ a.each k le less | inr more ↦ b.each k more lt ] }

  -- a loop begins alike in both
  opened : (m : ℕ) (l : Loop) (to to' : ℕ) → OpensLoop c m l to → OpensLoop d m l to' → to ≡ to' → Alike m (m + 2)
  opened m l to to' p q same =
      let first = one m _ _ p.begins q.begins (ap (instr.Loop (loop_number l)) same) in
      let two : m + 1 + 1 ≡ m + 2 = omega arith in
      subst (Alike m) two (on m (m + 1) (m + 1 + 1) first (one (m + 1) _ _ p.item q.item refl))

  -- an expression's instructions are alike in both, and end in one where they do in the other
  record Twins (from to to' : ℕ) : Type 0 where
    ends : to' ≡ to
    alike : Alike from to

  module _ (same : c.constants ≡ d.constants)
      (once : (v : Value) (m n : ℕ) → slice_get d.constants m ≡ Some v → slice_get d.constants n ≡ Some v → m ≡ n) where
    mutual
      twins : (e : TypedTree) (from to to' : ℕ) → Stands c e from to → Stands d e from to' → Twins from to to'
      twins e from to to' (literal v f h) s =
          let p = parts d e (form.Literal v) from to' f.is s in
          let there : slice_get d.constants h.number ≡ Some v = rw (sym same) h.constant in
          record {
            ends = p.next ∙ sym h.next;
            alike =
                rw h.next (one from _ _ h.instr p.instr (ap Const (once v h.number p.number there p.constant)));
          }
      twins e from to to' (slot n f h next) s =
          let p = parts d e (form.Slot n) from to' f.is s in
          record { ends = p.1 ∙ sym next; alike = rw next (one from _ _ h p.0 refl) }
      twins e from to to' (unary op a m f h i next) s =
          let p = parts d e (form.Unary op a) from to' f.is s in
          let t = twins a from m p.0 h p.1 in
          record {
            ends = omega (arith, next, p.3, t.ends);
            alike =
                rw next (on from m (m + 1) t.alike (one m _ _ i (rw t.ends at p.2) refl));
          }
      twins e from to to' (binary op a b m n f h k i next) s =
          let p = parts d e (form.Binary op a b) from to' f.is s in
          let t = twins a from m p.0 h p.2 in
          let u = twins b m n p.1 k (rw t.ends at p.3) in
          record {
            ends = omega (arith, next, p.5, u.ends);
            alike =
                rw next (on from n (n + 1) (on from m n t.alike u.alike) (one n _ _ i (rw u.ends at p.4) refl));
          }
      twins e from to to' (both a b m n f h i k j next) s =
          let p = parts d e (form.And a b) from to' f.is s in
          let t = twins a from m p.0 h p.2 in
          let u = twins b (m + 1) n p.1 k (rw t.ends at p.4) in
          let ends : to' ≡ to = omega (arith, next, p.6, u.ends) in
          let left = on from m (m + 1) t.alike (one m _ _ i (rw t.ends at p.3) (ap AndTest (sym ends))) in
          record { ends = ends; alike = rw next (on from n (n + 1) (on from (m + 1) n left u.alike) (one n _ _ j (rw u.ends at p.5) refl)) }
      twins e from to to' (either a b m n f h i k j next) s =
          let p = parts d e (form.Or a b) from to' f.is s in
          let t = twins a from m p.0 h p.2 in
          let u = twins b (m + 1) n p.1 k (rw t.ends at p.4) in
          let ends : to' ≡ to = omega (arith, next, p.6, u.ends) in
          let left = on from m (m + 1) t.alike (one m _ _ i (rw t.ends at p.3) (ap OrTest (sym ends))) in
          record { ends = ends; alike = rw next (on from n (n + 1) (on from (m + 1) n left u.alike) (one n _ _ j (rw u.ends at p.5) refl)) }
      twins e from to to' (conditional a b c' m n f h i k j l) s =
          let p = parts d e (form.Conditional a b c') from to' f.is s in
          let t = twins a from m p.0 h p.2 in
          let u = twins b (m + 1) n p.1 k (rw t.ends at p.4) in
          let w = twins c' (n + 1) to to' l (rw u.ends at p.6) in
          let test =
          on from m (m + 1) t.alike
          (one m _ _ i (rw t.ends at p.3) (ap (λ x. Cond (x + 1) to) (sym u.ends) ∙ ap (λ x. Cond (p.1 + 1) x) (sym w.ends))) in
          let jump = on from n (n + 1) (on from (m + 1) n test u.alike) (one n _ _ j (rw u.ends at p.5) (ap Jump (sym w.ends))) in
          record { ends = w.ends; alike = on from (n + 1) to jump w.alike }
      twins e from to to' (items xs m f hs i after) s =
          let p = parts d e (form.ListOf xs) from to' f.is s in
          let t = each_twins xs from m p.0 hs p.1 in
          record {
            ends = omega (arith, after, p.3, t.ends);
            alike =
                rw after (on from m (m + 1) t.alike (one m _ _ i (rw t.ends at p.2) refl));
          }
      twins e from to to' (entries es m f hs i after) s =
          let p = parts d e (form.MapOf es) from to' f.is s in
          let t = each_twins (by_turns es) from m p.0 hs p.1 in
          record {
            ends = omega (arith, after, p.3, t.ends);
            alike =
                rw after (on from m (m + 1) t.alike (one m _ _ i (rw t.ends at p.2) refl));
          }
      twins e from to to' (with_text op a text m f h i after) s =
          let p = parts d e (form.WithText op a text) from to' f.is s in
          let t = twins a from m p.0 h p.1 in
          let q : HasText d m op text = rw t.ends at p.2 in
          let there : slice_get d.constants i.number ≡ Some (value.Text text) = rw (sym same) i.constant in
          let number = once (value.Text text) i.number q.number there q.constant in
          record {
            ends = omega (arith, after, p.3, t.ends);
            alike = rw after (on from m (m + 1) t.alike (one m _ _ i.instr q.instr (ap (instr.WithText op) number)));
          }
      twins e from to to' (local d' f h next) s =
          let p = parts d e (form.Local d') from to' f.is s in
          record { ends = p.1 ∙ sym next; alike = rw next (one from _ _ h p.0 refl) }
      twins e from to to' (looped l a b m n f h i k j next) s =
          let p = parts d e (form.Loop l a b) from to' f.is s in
          let t = twins a from m p.0 h p.2 in
          let q : OpensLoop d m l to' = rw t.ends at p.3 in
          let u = twins b (m + 2) n p.1 k (rw t.ends at p.4) in
          let ends : to' ≡ to = omega (arith, next, p.6, u.ends) in
          let begun = opened m l to to' i q (sym ends) in
          let body = on from (m + 2) n (on from m (m + 2) t.alike begun) u.alike in
          let whole = on from n (n + 1) body (one n _ _ j (rw u.ends at p.5) refl) in
          record { ends = ends; alike = rw next whole }
      twins e from to to' (mapped a c' b m k n f h i hp hw hb hn next) s =
          let p = parts d e (form.MapWhere a c' b) from to' f.is s in
          let t = twins a from m p.0 h p.3 in
          let q : OpensLoop d m loop.Map to' = rw t.ends at p.4 in
          let v = twins c' (m + 2) k p.1 hp (rw t.ends at p.5) in
          let u = twins b (k + 1) n p.2 hb (rw v.ends at p.7) in
          let ends : to' ≡ to = omega (arith, next, p.9, u.ends) in
          let begun = on from m (m + 2) t.alike (opened m loop.Map to to' i q (sym ends)) in
          let tested = on from k (k + 1) (on from (m + 2) k begun v.alike) (one k _ _ hw (rw v.ends at p.6) refl) in
          let whole = on from n (n + 1) (on from (k + 1) n tested u.alike) (one n _ _ hn (rw u.ends at p.8) refl) in
          record { ends = ends; alike = rw next whole }

      each_twins : (xs : List TypedTree) (from to to' : ℕ) → StandEach c xs from to → StandEach d xs from to' → Twins from to to'
      each_twins xs from to to' (no_items none same') s =
          let p = each_part d xs [] from to' none s in
          record { ends = p ∙ sym same'; alike = record { each = λ k le lt. absurd (omega (arith, same')) } }
      each_twins xs from to to' (first_item a rest m is h hs) s =
          let p = each_part d xs (a ∷ rest) from to' is s in
          let t = twins a from m p.0 h p.1 in
          let u = each_twins rest m to to' hs (rw t.ends at p.2) in
          record { ends = u.ends; alike = on from m to t.alike u.alike }

same_list : {X : Type 0} (xs ys : List X) → length xs ≡ length ys
    → ((k : ℕ) → k < length xs → slice_get xs k ≡ slice_get ys k) → xs ≡ ys
same_list [] [] e h = refl
same_list [] (y ∷ ys) e h = absurd (omega (arith, e))
same_list (x ∷ xs) [] e h = absurd (omega (arith, e))
same_list (x ∷ xs) (y ∷ ys) e h =
    let top : Some x ≡ Some y = h 0 (omega arith) in
    let rest = same_list xs ys (omega (arith, e)) (λ k lt. h (suc k) (omega arith)) in
    cc

-- the image that an expression compiles to is one
pub one_image : (image other : Image) (tree : TypedTree) (types : List CelType) → IsCompiled image tree types
    → IsCompiled other tree types → image ≡ other
one_image image other tree types p q =
    let size = (layout_of tree).size in
    let constants = one_list _ _ _ p.constants q.constants in
    let t = twins (code_in image) (code_in other) constants (one_place _ _ q.constants) tree 0 size size p.stands q.stands in
    let each : (k : ℕ) → k < length image.code → slice_get image.code k ≡ slice_get other.code k = λ k lt. elim (cases_lt k size) [
      | inl less ↦ t.alike.each k (omega arith) less
      | inr more ↦
          let here : size ≡ k = omega (arith, p.whole) in
          subst (λ n. slice_get image.code n ≡ slice_get other.code n) here (p.ends.is ∙ sym q.ends.is)
    ] in
    let code = same_list image.code other.code (p.whole ∙ sym q.whole) each in
    let slots = p.slots ∙ sym q.slots in
    let targets = p.targets ∙ sym q.targets in
    let result = p.result ∙ sym q.result in
    let declared = p.declared ∙ sym q.declared in
    λ i. record {
      slots = slots i;
      constants = constants i;
      targets = targets i;
      result = result i;
      declared = declared i;
      code = code i;
    }
