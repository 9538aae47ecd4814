-- What is measured, one instruction after another.
use Rattle.std.proofs.Common.{◌≡◌, ℕ, ◌+◌, ◌<◌, min, max, List, [], ◌∷◌, ◌++◌}
use Rattle.std.proofs.Common.{length, Some, refl, sym, ap, ◌∙◌, subst, ⊎_elim, arith, length-append, add-one}
use Rattle.std.specs.Prelude.{slice_get, slice_index}
use Rattle.std.proofs.lemmas.Bool.{cases_lt}
use Rattle.std.proofs.lemmas.List.{get_or_append_left}
use Rattle.std.proofs.Math.Seq.{get_or-append_seam}
use Rattle.cel_code.specs.declared.instr.Instr.{Instr}
use Rattle.cel_code.specs.declared.image.Image.{Image}
use Rattle.cel_verify.specs.declared.measures.Measures.{Measures}
use Rattle.cel_verify.specs.Sound.{Label, below_all, label_at}
use Rattle.cel_verify.specs.Paths.{charge_in, charge_at, items_on_top, times_at}
use Rattle.cel_verify.specs.Depths.{operands_of, depth_at, deepest, most_open}
use Rattle.cel_verify.specs.Walked.{AreMeasures, Measured, ceiling}

-- nothing is measured yet
pub none_measured : (m : Measures) → m.charges.items ≡ [] → m.times.items ≡ [] → m.depth ≡ 0 → m.nesting ≡ 0 → (image : Image)
    → AreMeasures image 0 m
none_measured m ec et ed en image =
    let none : deepest image 0 ≡ 0 = refl in
    record {
      charges = (ap length ec, λ i lt. absurd (omega arith));
      times = (ap length et, λ i lt. absurd (omega arith));
      depth = omega (arith, ed, none);
      nesting = en;
    }

-- what each instruction before one has
abbrev Have : (ℕ → ℕ) → ℕ → List ℕ → Type 0
Have f at xs = (length xs ≡ at) × ((i : ℕ) → i < at → slice_index xs i ≡ f i)

-- one more at the end
one_more : (f : ℕ → ℕ) (at c : ℕ) (xs : List ℕ) → Have f at xs → c ≡ f at → Have f (at + 1) (xs ++ c ∷ [])
one_more f at c xs h own =
    let seam : slice_index (xs ++ c ∷ []) at ≡ c = ap (slice_index (xs ++ c ∷ [])) (sym h.0) ∙ get_or-append_seam xs c [] 0 in
    let earlier : (j : ℕ) → j < at → slice_index (xs ++ c ∷ []) j ≡ f j =
    λ j less. get_or_append_left xs (c ∷ []) 0 j (omega (arith, h.0)) ∙ h.1 j less in (
      omega (arith, length-append xs (c ∷ []), h.0),
      λ j lt.
          ⊎_elim (λ less. earlier j less)
          (λ le. let e : at ≡ j = omega arith in subst (λ n. slice_index (xs ++ c ∷ []) n ≡ f n) e (seam ∙ own))
          (cases_lt j at),
    )

-- one more instruction, up to the ceiling
deepest_next : (image : Image) (at : ℕ) (here : Label) (depth : ℕ) → label_at image at ≡ here
    → depth ≡ min (deepest image at) ceiling
    → max depth (min (operands_of here.types + length (below_all here.opens)) ceiling) ≡ min (deepest image (at + 1)) ceiling
deepest_next image at here depth l d =
    let label : depth_at image at ≡ operands_of here.types + length (below_all here.opens) =
    ap (λ l. operands_of l.types + length (below_all l.opens)) l in
    capped (deepest image at) (depth_at image at) depth (operands_of here.types + length (below_all here.opens)) ceiling d label
    ∙ ap (λ k. min (deepest image k) ceiling) (sym (add-one at))
  where
    capped : (a b d n cap : ℕ) → d ≡ min a cap → b ≡ n → max d (min n cap) ≡ min (max a b) cap
    capped a b d n cap e f = omega arith

most_open_next : (image : Image) (at : ℕ) (here : Label) (nesting : ℕ) → label_at image at ≡ here
    → nesting ≡ most_open image at → max nesting (length here.opens) ≡ most_open image (at + 1)
most_open_next image at here nesting l e =
    ap (λ n. max n (length here.opens)) e
    ∙ ap (λ l. max (most_open image at) (length l.opens)) (sym l)
    ∙ ap (most_open image) (sym (add-one at))

pub one_measured : (image : Image) (at : ℕ) (i : Instr) (here : Label) (old new : Measures) → slice_get image.code at ≡ Some i
    → label_at image at ≡ here → AreMeasures image at old → Measured image.constants i here old new → AreMeasures image (at + 1) new
one_measured image at i here old new h l k m =
    let charge : min (charge_in image.constants (Some i) here.types) ceiling ≡ min (charge_at image at) ceiling =
    ap (λ o. min (charge_in image.constants o here.types) ceiling) (sym h)
    ∙ ap (λ x. min (charge_in image.constants (slice_get image.code at) x.types) ceiling) (sym l) in
    let times : items_on_top here.types ≡ times_at image at = ap (λ x. items_on_top x.types) (sym l) in
    record {
      charges =
          subst (Have (λ j. min (charge_at image j) ceiling) (at + 1)) (sym m.charges)
          (one_more (λ j. min (charge_at image j) ceiling) at _ old.charges.items k.charges charge);
      times = subst (Have (times_at image) (at + 1)) (sym m.times) (one_more (times_at image) at _ old.times.items k.times times);
      depth = m.depth ∙ deepest_next image at here old.depth l k.depth;
      nesting = m.nesting ∙ most_open_next image at here old.nesting l k.nesting;
    }
