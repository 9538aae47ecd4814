-- The code of an expression that looks for no pattern has no instruction that does.
use Rattle.std.proofs.Common.{◌≡◌, ℕ, ◌+◌, ◌<◌, ◌≤◌, Bool, true, false, ◌||◌, List, map, Some, refl, sym, ap, ◌∙◌}
use Rattle.std.proofs.Common.{subst, inl, inr, arith}
use Rattle.std.specs.Prelude.{slice_get}
use Rattle.std.proofs.lemmas.Option.{same_Some, slice_get_within}
use Rattle.std.proofs.lemmas.Bool.{cases_lt, cases_Bool, or_parts, true≢false}
use Rattle.cel_value.specs.declared.cel_type.CelType.{CelType}
use Rattle.cel_operators.specs.declared.text_operator.TextOperator.{TextOperator}
use Rattle.cel_operators.specs.declared.text_operator.TextOperator.TheVariants.{Select, Has as HasField, Matches}
use Rattle.cel_value.specs.declared.expr.Loop.{Loop}
use Rattle.cel_value.specs.declared.expr.Loop.TheVariants as loop
use Rattle.cel_check.specs.declared.tree.TypedTree.{TypedTree}
use Rattle.cel_check.specs.declared.tree.Form.TheVariants as form
use Rattle.cel_value.specs.Turns.{by_turns}
use Rattle.cel_check.proofs.Levels.{turns_parts}
use Rattle.cel_code.specs.declared.image.Image.{Image}
use Rattle.cel_code.specs.declared.instr.Instr.{Instr}
use Rattle.cel_code.specs.declared.instr.Instr.TheVariants.{WithText, End}
use Rattle.cel_expression.specs.Compiled.{IsCompiled, layout_of}
use Rattle.cel_expression.specs.Placed.{Code, code_in, Has, Stands, literal, unary, binary, both, either, conditional, items}
use Rattle.cel_expression.specs.Placed.{StandEach, no_items, first_item, slot, entries, with_text, local, looped, mapped, OpensLoop}
use Rattle.cel_code.specs.Matches.{is_matches, HasMatches}
use Rattle.cel_machine.proofs.Matches.{some_of, looks_for, has_matches, matches_is}

looks : (op : TextOperator) (number : ℕ) → looks_for op ≡ false → is_matches (WithText op number) ≡ false
looks Select number h = refl
looks HasField number h = refl
looks Matches number h = h

module _ (code : Code) where
  -- no instruction from one place up to another looks for a pattern
  record Plain (from to : ℕ) : Type 0 where
    each : (k : ℕ) → from ≤ k → k < to → (i : Instr) → slice_get code.instrs k ≡ Some i → is_matches i ≡ false

  one : (at : ℕ) (i : Instr) → Has code at i → is_matches i ≡ false → Plain at (at + 1)
  one at i p free =
      record {
        each = λ k le lt j there.
            let here : at ≡ k = omega arith in
            let same : i ≡ j = same_Some _ _ (sym p.is ∙ (ap (slice_get code.instrs) here ∙ there)) in
            ap is_matches (sym same) ∙ free;
      }

  on : (from m to : ℕ) → Plain from m → Plain m to → Plain from to
  on from m to a b =
      record { each = λ k le lt. elim (cases_lt k m) [ inl less ↦ a.each k le less | inr more ↦ b.each k more lt ] }

  opened : (m : ℕ) (l : Loop) (to : ℕ) → OpensLoop code m l to → Plain m (m + 2)
  opened m l to p =
      let two : m + 1 + 1 ≡ m + 2 = omega arith in
      subst (Plain m) two (on m (m + 1) (m + 1 + 1) (one m _ p.begins refl) (one (m + 1) _ p.item refl))

  mutual
    plain : (e : TypedTree) (from to : ℕ) → Stands code e from to → has_matches e ≡ false → Plain from to
    plain e from to (literal v f h) free = rw h.next (one from _ h.instr refl)
    plain e from to (slot n f h next) free = rw next (one from _ h refl)
    plain e from to (unary op a m f h i next) free =
        let p = sym (matches_is e (form.Unary op a) f.is) ∙ free in
        rw next (on from m (m + 1) (plain a from m h p) (one m _ i refl))
    plain e from to (binary op a b m n f h k i next) free =
        let p = or_parts (has_matches a) (has_matches b) (sym (matches_is e (form.Binary op a b) f.is) ∙ free) in
        rw next (on from n (n + 1) (on from m n (plain a from m h p.0) (plain b m n k p.1)) (one n _ i refl))
    plain e from to (both a b m n f h i k j next) free =
        let p = or_parts (has_matches a) (has_matches b) (sym (matches_is e (form.And a b) f.is) ∙ free) in
        let left = on from m (m + 1) (plain a from m h p.0) (one m _ i refl) in
        rw next (on from n (n + 1) (on from (m + 1) n left (plain b (m + 1) n k p.1)) (one n _ j refl))
    plain e from to (either a b m n f h i k j next) free =
        let p = or_parts (has_matches a) (has_matches b) (sym (matches_is e (form.Or a b) f.is) ∙ free) in
        let left = on from m (m + 1) (plain a from m h p.0) (one m _ i refl) in
        rw next (on from n (n + 1) (on from (m + 1) n left (plain b (m + 1) n k p.1)) (one n _ j refl))
    plain e from to (conditional a b c m n f h i k j l) free =
        let p = or_parts (has_matches a) (has_matches b || has_matches c) (sym (matches_is e (form.Conditional a b c) f.is) ∙ free) in
        let q = or_parts (has_matches b) (has_matches c) p.1 in
        let test = on from m (m + 1) (plain a from m h p.0) (one m _ i refl) in
        let jump = on from n (n + 1) (on from (m + 1) n test (plain b (m + 1) n k q.0)) (one n _ j refl) in
        on from (n + 1) to jump (plain c (n + 1) to l q.1)
    plain e from to (items xs m f hs i next) free =
        let p = sym (matches_is e (form.ListOf xs) f.is) ∙ free in
        rw next (on from m (m + 1) (each_plain xs from m hs p) (one m _ i refl))
    plain e from to (entries es m f hs i next) free =
        let p = ap some_of (sym (turns_parts TypedTree Bool has_matches es)) ∙ (sym (matches_is e (form.MapOf es) f.is) ∙ free) in
        rw next (on from m (m + 1) (each_plain (by_turns es) from m hs p) (one m _ i refl))
    plain e from to (with_text op a text m f h i next) free =
        let p = or_parts (looks_for op) (has_matches a) (sym (matches_is e (form.WithText op a text) f.is) ∙ free) in
        rw next (on from m (m + 1) (plain a from m h p.1) (one m _ i.instr (looks op i.number p.0)))
    plain e from to (local d f h next) free = rw next (one from _ h refl)
    plain e from to (looped l a b m n f h i k j next) free =
        let p = or_parts (has_matches a) (has_matches b) (sym (matches_is e (form.Loop l a b) f.is) ∙ free) in
        let begun = on from m (m + 2) (plain a from m h p.0) (opened m l to i) in
        rw next (on from n (n + 1) (on from (m + 2) n begun (plain b (m + 2) n k p.1)) (one n _ j refl))
    plain e from to (mapped a c b m k n f h i hp hw hb hn next) free =
        let p = or_parts (has_matches a) (has_matches c || has_matches b) (sym (matches_is e (form.MapWhere a c b) f.is) ∙ free) in
        let q = or_parts (has_matches c) (has_matches b) p.1 in
        let begun = on from m (m + 2) (plain a from m h p.0) (opened m loop.Map to i) in
        let tested = on from k (k + 1) (on from (m + 2) k begun (plain c (m + 2) k hp q.0)) (one k _ hw refl) in
        rw next (on from n (n + 1) (on from (k + 1) n tested (plain b (k + 1) n hb q.1)) (one n _ hn refl))

    each_plain : (xs : List TypedTree) (from to : ℕ) → StandEach code xs from to → some_of (map has_matches xs) ≡ false → Plain from to
    each_plain xs from to (no_items none same) free = record { each = λ k le lt i there. absurd (omega (arith, same)) }
    each_plain xs from to (first_item a rest m is h hs) free =
        let p = or_parts (has_matches a) (some_of (map has_matches rest))
        (sym (ap (λ (ys : List TypedTree). some_of (map has_matches ys)) is) ∙ free) in
        on from m to (plain a from m h p.0) (each_plain rest m to hs p.1)

-- an expression whose image looks for a pattern does so itself
pub matches_in_tree : (image : Image) (tree : TypedTree) (types : List CelType) → IsCompiled image tree types → HasMatches image
    → has_matches tree ≡ true
matches_in_tree image tree types compiled h = elim (cases_Bool (has_matches tree)) [
  | inl found ↦ found
  | inr free ↦
      let size = (layout_of tree).size in
      let code = code_in image in
      let p = on code 0 size (size + 1) (plain code tree 0 size compiled.stands free) (one code size End compiled.ends refl) in
      let inside : h.at < size + 1 = omega (arith, slice_get_within image.code h.at h.instr h.stands, compiled.whole) in
      absurd (true≢false (sym h.matches ∙ p.each h.at (omega arith) inside h.instr h.stands))
]
