-- An image is sound exactly if each instruction keeps its rule at its label of the walk.
use Rattle.std.proofs.Common.{◌≡◌, ℕ, zero, suc, ◌+◌, ◌<◌, [], length, Option}
use Rattle.std.proofs.Common.{Some, None, refl, sym, ap, ◌∙◌, arith, add-one}
use Rattle.std.specs.Prelude.{Ok, slice_get}
use Rattle.cel_code.specs.declared.instr.Instr.{Instr}
use Rattle.cel_code.specs.declared.image.Image.{Image}
use Rattle.cel_verify.specs.StackTypes.{StackTypes}
use Rattle.cel_verify.specs.Sound.{Label, rule_at, entry_in, entry_or, fallen, opens_after, next_label, label_at, EndsOnce, IsWalked}
use Rattle.cel_verify.specs.Sound.{Reached, reached_label, Leads, IsLabelling, IsSound}
use Rattle.cel_verify.specs.Walked.{AllHold}
use Rattle.cel_verify.proofs.RuleParts.{parts_of}

module _ (image : Image) (label : ℕ → Reached) (l : IsLabelling image label) where
  label_is : (at : ℕ) → at < length image.code → label_at image at ≡ reached_label (label at)
  label_is zero h = ap reached_label (sym l.first)
  label_is (suc at) h =
      ap (next_label image at (slice_get image.code at)) (label_is at (omega arith)) ∙ next_is (l.each at (omega arith))
    where
      next_is : Leads image at (label at) (label (at + 1))
          → next_label image at (slice_get image.code at) (reached_label (label at)) ≡ reached_label (label (suc at))
      next_is e =
          let sucs : at + 1 ≡ suc at = add-one at in
          let next = next_label image at (slice_get image.code at) (reached_label (label at)) in
          let here = rule_at image at (slice_get image.code at) (reached_label (label at)) in
          let types : next.types ≡ Some (label (suc at)).types =
          ap (λ k. entry_or (entry_in image.targets k) (fallen here)) (sym sucs)
          ∙ ap (λ x. entry_or (entry_in image.targets (at + 1)) (fallen x)) e.holds
          ∙ e.types (omega arith)
          ∙ ap (λ k. Some (label k).types) sucs in
          let opens : next.opens ≡ (label (suc at)).opens = e.opens ∙ ap (λ k. (label k).opens) sucs in
          λ j. record { types = types j; opens = opens j }

  pub labelled_walked : EndsOnce image.code → IsWalked image
  labelled_walked ends =
      record {
        ends = ends;
        each = λ at h.
            let e = l.each at h in
            record { next = e.next; is = ap (rule_at image at (slice_get image.code at)) (label_is at h) ∙ e.holds };
      }

abbrev or_empty : Option StackTypes → StackTypes
or_empty None = []
or_empty (Some ts) = ts

rule_some : (image : Image) (at : ℕ) (o : Option Instr) (l : Label) (n : Option StackTypes) → rule_at image at o l ≡ Ok n
    → l.types ≡ Some (or_empty l.types)
rule_some image at None l n e = cc
rule_some image at (Some i) l n e = let p = parts_of image at i l n e in p.is ∙ ap Some (ap or_empty (sym p.is))

-- a label whose instruction is reached
abbrev reached_at : Image → ℕ → Reached
reached_at image at = record { types = or_empty (label_at image at).types; opens = (label_at image at).opens }

whole : (image : Image) (at : ℕ) → (label_at image at).types ≡ Some (or_empty (label_at image at).types)
    → label_at image at ≡ reached_label (reached_at image at)
whole image at e = λ j. record { types = e j; opens = (label_at image at).opens }

module _ (image : Image) (s : IsWalked image) where
  leads : (at : ℕ) → at < length image.code → Leads image at (reached_at image at) (reached_at image (at + 1))
  leads at h =
      let o = slice_get image.code at in
      let e = s.each at h in
      let here = rule_some image at o (label_at image at) e.next e.is in
      let is = whole image at here in
      let here_falls = rule_at image at o (label_at image at) in
      let sucs : at + 1 ≡ suc at = add-one at in
      record {
        next = e.next;
        holds = ap (rule_at image at o) (sym is) ∙ e.is;
        types = λ more.
            let f = s.each (at + 1) more in
            let there = rule_some image (at + 1) (slice_get image.code (at + 1)) (label_at image (at + 1)) f.next f.is in
            ap (λ x. entry_or (entry_in image.targets (at + 1)) (fallen x)) (sym e.is)
            ∙ ap (λ k. entry_or (entry_in image.targets k) (fallen here_falls)) sucs
            ∙ ap (λ k. (label_at image k).types) (sym sucs)
            ∙ there;
        opens = ap (opens_after image at o) (sym is) ∙ ap (λ k. (label_at image k).opens) (sym sucs);
      }

  pub is_sound : IsSound image
  is_sound =
      record { ends = s.ends; label = reached_at image; is = record { first = refl; each = leads } }

-- what the walk finds of a sound image
pub walks : (image : Image) → IsSound image → IsWalked image
walks image h = labelled_walked image h.label h.is h.ends

-- if the walk finds no fault
pub sound_by : (image : Image) → EndsOnce image.code → AllHold image → IsSound image
sound_by image ends each = is_sound image (record { ends = ends; each = each })
