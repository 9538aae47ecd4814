-- The verifier's walk over the instructions.
use Rattle.std.proofs.Common.{◌≡◌, ℕ, suc, ◌+◌, ◌<◌, ◌≤◌, true, ◌&&◌, List, [], length}
use Rattle.std.proofs.Common.{Option, Some, None, sym, ap, ◌∙◌, subst, ⊎_elim, arith, add-one}
use Rattle.std.specs.Prelude.{slice_get}
use Rattle.std.proofs.lemmas.Bool.{cases_lt}
use Rattle.std.proofs.lemmas.Option.{slice_get_cases}
use Rattle.cel_code.specs.declared.instr.Instr.{Instr}
use Rattle.cel_code.specs.declared.image.Image.{Image}
use Rattle.cel_verify.specs.declared.fault.VerifyRule.TheVariants.{BadConstant, BadTarget, BadNesting}
use Rattle.base_containers.specs.declared.failed.Failed.{Failed}
use Rattle.cel_verify.specs.declared.fault.VerifyFault.{VerifyFault}
use Rattle.base_containers.specs.declared.failed.Failed.TheVariants.{OutOfMemory, Fault}
use Rattle.cel_verify.specs.declared.measures.Measures.{Measures}
use Rattle.cel_verify.specs.declared.open_loop.Open.{Open}
use Rattle.cel_verify.specs.Accepted.{IsCounted, IsRefused, Breaks}
use Rattle.cel_verify.specs.StackTypes.{StackTypes}
use Rattle.cel_verify.specs.Sound.{Label, every, jumps_of, is_named, is_wanted, is_target, is_nested, rule_at, fallen}
use Rattle.cel_verify.specs.Sound.{entry_in, entry_or, opening, still_open, opens_after, next_label, label_at, Holds, EndsOnce}
use Rattle.cel_verify.specs.Walked.{labelled, rule_here, typed_here, Advances, Passes, IsBefore, AllHold, AreMeasures, IsWalkFault}
use Rattle.cel_verify.proofs.Labels.{walks}
use Rattle.cel_verify.proofs.Openings.{met}
use Rattle.cel_verify.proofs.RuleParts.{rule_within}

-- at the first instruction
pub before_first : (image : Image) (types : StackTypes) (opens : List Open) → types ≡ [] → opens ≡ []
    → IsBefore image 0 (labelled (Some types) opens)
before_first image types opens et eo =
    record {
      label = λ j. record { types = ap Some (sym et) j; opens = sym eo j };
      holds = λ i lt. absurd (omega arith);
      inside = omega arith;
    }

-- one instruction more
module _ (image : Image) (at : ℕ) (here there : Label) (b : IsBefore image at here) (a : Advances image at here there) where
  types_is : entry_or (entry_in image.targets (suc at)) (fallen (rule_here image at here)) ≡ there.types
  types_is =
      ap (λ k. entry_or (entry_in image.targets k) (fallen (rule_here image at here))) (sym (add-one at))
      ∙ ap (λ r. entry_or (entry_in image.targets (at + 1)) (fallen r)) a.holds
      ∙ a.entry

  opens_is : opens_after image at (slice_get image.code at) here ≡ there.opens
  opens_is =
      ap (λ k. still_open k (opening image at (slice_get image.code at) here.types here.opens)) (sym (add-one at)) ∙ a.opens

  next_is : next_label image at (slice_get image.code at) here ≡ there
  next_is = λ j. record { types = types_is j; opens = opens_is j }

  pub before_next : at < length image.code → IsBefore image (at + 1) there
  before_next inside =
      let sucs : at + 1 ≡ suc at = add-one at in
      let here_holds : Holds image at = record { next = a.next; is = ap (rule_at image at (slice_get image.code at)) b.label ∙ a.holds } in
      record {
        label = ap (label_at image) sucs ∙ ap (next_label image at (slice_get image.code at)) b.label ∙ next_is;
        holds = λ j lt.
            ⊎_elim (λ less. b.holds j less) (λ le. let e : at ≡ j = omega arith in subst (Holds image) e here_holds) (cases_lt j at);
        inside = omega arith;
      }

-- after the last instruction
pub past : (image : Image) (at : ℕ) → slice_get image.code at ≡ None → at ≤ length image.code → at ≡ length image.code
past image at h le =
    let behind : length image.code ≤ at =
    ⊎_elim (λ w. let z : ⊥ = cc (h, w.2) in absurd z) (λ w. w.0) (slice_get_cases image.code at).1 in
    omega arith

pub walked : (image : Image) (at : ℕ) (here : Label) → slice_get image.code at ≡ None → IsBefore image at here → AllHold image
walked image at here h b = let e = past image at h b.inside in λ i lt. b.holds i (omega arith)

pub measured : (image : Image) (at : ℕ) (here : Label) (m : Measures) → slice_get image.code at ≡ None → IsBefore image at here
    → AreMeasures image at m → AreMeasures image (length image.code) m
measured image at here m h b k = subst (λ n. AreMeasures image n m) (past image at h b.inside) k

-- an instruction that breaks its rule, if the counts are within their limits and END is last and alone
pub walk_refused : (image : Image) (e : Failed VerifyFault) → IsCounted image → EndsOnce image.code → IsWalkFault image e
    → IsRefused image e
walk_refused image OutOfMemory k n h = tt
walk_refused image (Fault f) k n h =
    (Breaks k n h, λ a. let holds = ((walks image a.sound).each f.at h.inside).is in let broken = h.is in cc)

-- an instruction whose constants and jumps are there and which is where it may be
module _ (image : Image) (at : ℕ) (i : Instr) (ts : StackTypes) (opens : List Open) (is : slice_get image.code at ≡ Some i)
    (named : is_named image i ≡ true) (aims : (is_wanted image at && every (is_target image at) (jumps_of i)) ≡ true)
    (nested : is_nested image at i opens ≡ true) where
  pub rule_is : rule_here image at (labelled (Some ts) opens) ≡ typed_here image at i ts opens
  rule_is =
      ap (λ o. rule_at image at o (labelled (Some ts) opens)) is
      ∙ rule_within image at i (labelled (Some ts) opens)
      ∙ met (is_named image i) BadConstant _ named
      ∙ met (is_wanted image at && every (is_target image at) (jumps_of i)) BadTarget _ aims
      ∙ met (is_nested image at i opens) BadNesting _ nested

  pub advances : (behind left : List Open) (there : Option StackTypes) → Passes image at i ts opens there behind
      → left ≡ still_open (at + 1) behind → Advances image at (labelled (Some ts) opens) (labelled there left)
  advances behind left there p e =
      record {
        next = p.next;
        holds = rule_is ∙ p.holds;
        entry = p.entry;
        opens = ap (λ o. still_open (at + 1) (opening image at o (Some ts) opens)) is ∙ ap (still_open (at + 1)) p.opened ∙ sym e;
      }
