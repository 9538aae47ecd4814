-- How the machine goes on in a sound image from a state that fits: to the next instruction, to a jump's target, to the next
-- turn of a loop, or after a loop.
use Rattle.std.proofs.Common.{◌≡◌, ◌≢◌, ◌⊎◌, ℕ, zero, suc, ◌+◌, ◌<◌, ◌≤◌, Bool, true, false, List, [], ◌∷◌, ◌++◌, length}
use Rattle.std.proofs.Common.{Option, Some, None, refl, sym, ap, ◌∙◌, subst, inl, inr, ⊎_elim, arith, add-one, true≢false}
use Rattle.std.specs.Prelude.{Ok, slice_get}
use Rattle.std.proofs.lemmas.Bool.{and_parts}
use Rattle.cel_value.specs.declared.value.Value.{Value}
use Rattle.cel_value.specs.CelType.{assignable}
use Rattle.cel_operators.specs.declared.accumulator.Accumulator.{Accumulator}
use Rattle.cel_operators.specs.Outcomes.{Outcome}
use Rattle.cel_operators.specs.Loops.{result_of}
use Rattle.cel_operators.proofs.Rows.{wider}
use Rattle.cel_code.specs.declared.instr.Instr.{Instr}
use Rattle.cel_code.specs.declared.instr.Instr.TheVariants.{End, Item, Next}
use Rattle.cel_code.specs.declared.instr.Instr.TheVariants as instr
use Rattle.cel_code.specs.declared.image.Image.{Image}
use Rattle.cel_code.specs.Machine.{Frame, on, Goes, gone_on}
use Rattle.cel_verify.specs.declared.fault.VerifyRule.TheVariants.{WrongKind}
use Rattle.cel_verify.specs.Bodies.{same_body}
use Rattle.cel_verify.specs.StackTypes.{StackTypes, all_assignable, Fits, AllFit}
use Rattle.cel_verify.specs.Sound.{Open, every, jumps_of, is_target, is_placed, is_nested, typed_rule, rule_at, entry_in}
use Rattle.cel_verify.specs.Sound.{entry_or, fallen, opening, still_open, label_at, below_all, IsWalked}
use Rattle.cel_verify.specs.Paths.{charge_of, charge_in, goes_to, charge_at, IsIn}
use Rattle.cel_verify.specs.Typed.{types_at, opens_at, waits, waits_at, FrameFits, FramesFit}
use Rattle.cel_verify.specs.Walked.{entered}
use Rattle.cel_verify.proofs.ToGo.{path_from, to_come, rounds, owed, GoesOn}
use Rattle.cel_verify.proofs.RuleParts.{needs_is}
use Rattle.cel_verify.proofs.PathSums.{every_in, is_ahead, path_is, path_step}
use Rattle.cel_verify.proofs.Nests.{same_opens, still_all, no_item}

pub all_wider : (stack : List Outcome) (ss ts rest : StackTypes) → all_assignable ss ts ≡ true → AllFit stack (ss ++ rest)
    → AllFit stack (ts ++ rest)
all_wider stack [] [] rest a h = h
all_wider stack [] (t ∷ ts) rest a h = absurd (true≢false (sym a))
all_wider stack (s ∷ ss) [] rest a h = absurd (true≢false (sym a))
all_wider [] (s ∷ ss) (t ∷ ts) rest a h = absurd h
all_wider (x ∷ stack) (s ∷ ss) (t ∷ ts) rest a h =
    let r = and_parts (assignable s t) (all_assignable ss ts) a in
    (wider s t (Some x) r.0 h.0, all_wider stack ss ts rest r.1 h.1)

fall_by : (o : Option StackTypes) (ns : StackTypes) (n : Option StackTypes) → entered o (Ok (Some ns)) ≡ Ok n
    → (us : StackTypes) × (entry_or o (fallen (Ok n)) ≡ Some us) × ((ns ≡ us) ⊎ (all_assignable ns us ≡ true))
fall_by None ns n e = (ns, cc, inl refl)
fall_by (Some es) ns n e = (es, refl, inr (needs_is (all_assignable ns es) WrongKind _ n e).0)

pub label_jump : (image : Image) (to : ℕ) (es : StackTypes) → 0 < to → entry_in image.targets to ≡ Some es
    → types_at image to ≡ Some es
label_jump image zero es h e = absurd (omega arith)
label_jump image (suc k) es h e = ap (λ o. entry_or o (fallen (rule_at image k (slice_get image.code k) (label_at image k)))) e

-- an instruction that opens no loop, ends none and does not end the run
abbrev pub keeps : Instr → Bool
keeps (instr.Loop l exit) = false
keeps Next = false
keeps End = false
keeps _ = true

keeps_opens : (image : Image) (at : ℕ) (i : Instr) (ts : Option StackTypes) (os : List Open) → keeps i ≡ true
    → opening image at (Some i) ts os ≡ os
keeps_opens image at (instr.Loop l exit) ts os h = absurd (true≢false (sym h))
keeps_opens image at _ ts os h = refl

-- a state at an instruction, whose rule holds
pub record Here (image : Image) (at : ℕ) (i : Instr) (ts : StackTypes) (stack : List Outcome) (frames : List Frame) : Type 0 where
  pub inside : at < length image.code
  pub hi : slice_get image.code at ≡ Some i
  pub hl : types_at image at ≡ Some ts
  pub targets : every (is_target image at) (jumps_of i) ≡ true
  pub nested : is_nested image at i (opens_at image at) ≡ true
  pub next : Option StackTypes
  pub holds : rule_at image at (slice_get image.code at) (label_at image at) ≡ Ok next
  pub typed : entered (entry_in image.targets (at + 1)) (typed_rule image i (opens_at image at) ts) ≡ Ok next
  pub fits : AllFit stack (ts ++ below_all (opens_at image at))
  pub framed : FramesFit image (waits (Some i)) frames (opens_at image at)

module _ (image : Image) (sound : IsWalked image) where
  module _ (at : ℕ) (i : Instr) (ts : StackTypes) (stack : List Outcome) (frames : List Frame) (h : Here image at i ts stack frames) where
    pub charge_le : (c : ℕ) → c ≤ charge_of image.constants i ts → c ≤ charge_at image at
    charge_le c le =
        let e : charge_at image at ≡ charge_of image.constants i ts =
        ap (λ o. charge_in image.constants o (types_at image at)) h.hi ∙ ap (charge_in image.constants (Some i)) h.hl in
        omega arith

    pub fall_label : (ns : StackTypes) → typed_rule image i (opens_at image at) ts ≡ Ok (Some ns)
        → (us : StackTypes) × (types_at image (at + 1) ≡ Some us) × ((ns ≡ us) ⊎ (all_assignable ns us ≡ true))
    fall_label ns e =
        let b = fall_by (entry_in image.targets (at + 1)) ns h.next (ap (entered (entry_in image.targets (at + 1))) (sym e) ∙ h.typed) in
        let sucs : at + 1 ≡ suc at = add-one at in
        let here_falls = rule_at image at (slice_get image.code at) (label_at image at) in
        let next : types_at image (suc at) ≡ Some b.0 =
        ap (λ k. entry_or (entry_in image.targets k) (fallen here_falls)) (sym sucs)
        ∙ ap (λ r. entry_or (entry_in image.targets (at + 1)) (fallen r)) h.holds
        ∙ b.1 in
        (b.0, ap (types_at image) sucs ∙ next, b.2)

    -- what is to go from here holds the instruction's own weight
    pub own : (w : ℕ → ℕ) → w at ≤ path_from image w at
    own w = let p = path_is image at w i h.hi h.targets in omega arith

    pub owed_here : (w : ℕ → ℕ)
        → owed (path_from image w) (waits_at image at) frames ≡ owed (path_from image w) (waits (Some i)) frames
    owed_here w = ap (λ o. owed (path_from image w) (waits o) frames) h.hi

    -- the next instruction is there, with the same loops
    pub next_inside : i ≢ End → at + 1 < length image.code
    next_inside ne =
        let other : at ≢ sound.ends.last =
        λ q. ne (let end : i ≡ End = cc (h.hi, ap (slice_get image.code) q, sound.ends.ends) in end) in
        omega (arith, sound.ends.long, h.inside)

    next_opens : keeps i ≡ true → opens_at image (at + 1) ≡ opens_at image at
    next_opens k =
        let no_next : slice_get image.code at ≢ Some Next =
        λ q. let is : i ≡ Next = cc (h.hi, q) in true≢false (sym k ∙ ap keeps is) in
        ap (opens_at image) (add-one at)
        ∙ ap (λ o. still_open (suc at) (opening image at o (types_at image at) (opens_at image at))) h.hi
        ∙ ap (still_open (suc at)) (keeps_opens image at i (types_at image at) (opens_at image at) k)
        ∙ still_all image sound at (omega (arith, h.inside)) no_next

    -- on to the next instruction
    pub falls : (c : ℕ) (ns : StackTypes) (s : List Outcome) (fs : List Frame) → c ≤ charge_of image.constants i ts
        → typed_rule image i (opens_at image at) ts ≡ Ok (Some ns) → keeps i ≡ true → IsIn (at + 1) (goes_to i at)
        → AllFit s (ns ++ below_all (opens_at image at)) → FramesFit image 1 fs (opens_at image at)
        → ((g : ℕ → ℕ) → owed g 1 fs ≤ owed g (waits (Some i)) frames) → GoesOn image (on at stack frames) (Goes c (on (at + 1) s fs))
    falls c ns s fs le e k goes f ff pays =
        let l = fall_label ns e in
        let inside = next_inside (λ q. true≢false (sym k ∙ ap keeps q)) in
        let same = next_opens k in
        let wait : waits_at image (at + 1) ≡ 1 = no_item image sound at (at + 1) (omega arith) inside same in
        let below = below_all (opens_at image at) in
        let wide : AllFit s (l.0 ++ below) =
        ⊎_elim (λ q. subst (λ us. AllFit s (us ++ below)) q f) (λ a. all_wider s ns l.0 below a f) l.2 in
        let waiting : FramesFit image (waits_at image (at + 1)) fs (opens_at image at) =
        subst (λ p. FramesFit image p fs (opens_at image at)) (sym wait) ff in (
          record {
            types = l.0;
            inside = inside;
            label = l.1;
            fits = subst (λ os. AllFit s (l.0 ++ below_all os)) (sym same) wide;
            frames = subst (λ os. FramesFit image (waits_at image (at + 1)) fs os) (sym same) waiting;
          },
          charge_le c le,
          λ w.
              let p = path_step image at w i (at + 1) h.hi h.targets goes in
              let q : owed (path_from image w) (waits_at image (at + 1)) fs ≡ owed (path_from image w) 1 fs =
              ap (λ n. owed (path_from image w) n fs) wait in
              let r = owed_here w in
              let t = pays (path_from image w) in
              omega arith,
        )

    -- the same, if the loops are as they were
    pub plain_falls : (c : ℕ) (ns : StackTypes) (s : List Outcome) → c ≤ charge_of image.constants i ts
        → typed_rule image i (opens_at image at) ts ≡ Ok (Some ns) → waits (Some i) ≡ 1 → keeps i ≡ true
        → IsIn (at + 1) (goes_to i at) → AllFit s (ns ++ below_all (opens_at image at))
        → GoesOn image (on at stack frames) (Goes c (on (at + 1) s frames))
    plain_falls c ns s le e one k goes f =
        falls c ns s frames le e k goes f (subst (λ p. FramesFit image p frames (opens_at image at)) one h.framed)
        (λ g. let q : owed g (waits (Some i)) frames ≡ owed g 1 frames = ap (λ p. owed g p frames) one in omega arith)

    -- to a jump's target
    pub jumps : (to c : ℕ) (es : StackTypes) (s : List Outcome) → waits (Some i) ≡ 1 → IsIn to (jumps_of i) → IsIn to (goes_to i at)
        → c ≤ charge_of image.constants i ts → entry_in image.targets to ≡ Some es → AllFit s (es ++ below_all (opens_at image at))
        → GoesOn image (on at stack frames) (Goes c (on to s frames))
    jumps to c es s one in_jumps goes le ee f =
        let far = is_ahead image at to (every_in (is_target image at) (jumps_of i) to h.targets in_jumps) in
        let nest = and_parts (is_placed image at i (opens_at image at)) (every (same_body image.code at) (jumps_of i)) h.nested in
        let body = every_in (same_body image.code at) (jumps_of i) to nest.1 in_jumps in
        let same = same_opens image sound at to (omega (arith, far.0, far.1)) (omega (arith, far.1)) body in
        let wait : waits_at image to ≡ 1 = no_item image sound at to far.0 far.1 same in
        let waiting : FramesFit image (waits_at image to) frames (opens_at image at) =
        subst (λ p. FramesFit image p frames (opens_at image at)) (one ∙ sym wait) h.framed in (
          record {
            types = es;
            inside = far.1;
            label = label_jump image to es (omega (arith, far.0)) ee;
            fits = subst (λ os. AllFit s (es ++ below_all os)) (sym same) f;
            frames = subst (λ os. FramesFit image (waits_at image to) frames os) (sym same) waiting;
          },
          charge_le c le,
          λ w.
              let p = path_step image at w i to h.hi h.targets goes in
              let q : owed (path_from image w) (waits_at image to) frames ≡ owed (path_from image w) (waits (Some i)) frames =
              ap (λ n. owed (path_from image w) n frames) (wait ∙ sym one) in
              let r = owed_here w in
              omega arith,
        )

  module _ (at : ℕ) (i : Instr) (ts : StackTypes) (stack : List Outcome) (f : Frame) (fs : List Frame) (o : Open) (os : List Open)
      (h : Here image at i ts stack (f ∷ fs)) (one : waits (Some i) ≡ 1) (k : FrameFits image 1 f o os)
      (ks : FramesFit image 1 fs os) where
    owed_one : (w : ℕ → ℕ)
        → owed (path_from image w) (waits_at image at) (f ∷ fs) ≡ owed (path_from image w) 1 (f ∷ fs)
    owed_one w = owed_here at i ts stack (f ∷ fs) h w ∙ ap (λ n. owed (path_from image w) n (f ∷ fs)) one

    -- a loop ends with a result
    pub closes : (x : Outcome) (s : List Outcome) → Fits x k.stands.top → AllFit s (o.below ++ below_all os)
        → GoesOn image (on at stack (f ∷ fs)) (Goes 0 (on f.exit (x ∷ s) fs))
    closes x s fx below =
        let l = k.stands in
        let wait : waits_at image f.exit ≡ 1 = ap (waits_at image) k.exit ∙ l.exit_waits in
        let opens : opens_at image f.exit ≡ os = ap (opens_at image) k.exit ∙ l.exit_opens in
        let after : AllFit (x ∷ s) (o.after ++ below_all os) =
        subst (λ us. AllFit (x ∷ s) (us ++ below_all os)) (sym l.after) (fx, all_wider s o.below l.rest (below_all os) l.below below) in
        let waiting : FramesFit image (waits_at image f.exit) fs os = subst (λ p. FramesFit image p fs os) (sym wait) ks in (
          record {
            types = o.after;
            inside = subst (λ e. e < length image.code) (sym k.exit) l.exit_inside;
            label = ap (types_at image) k.exit ∙ l.exit_types;
            fits = subst (λ us. AllFit (x ∷ s) (o.after ++ below_all us)) (sym opens) after;
            frames = subst (λ us. FramesFit image (waits_at image f.exit) fs us) (sym opens) waiting;
          },
          omega arith,
          λ w.
              let p = own at i ts stack (f ∷ fs) h w in
              let q = owed_one w in
              let t : owed (path_from image w) (waits_at image f.exit) fs ≡ owed (path_from image w) 1 fs =
              ap (λ n. owed (path_from image w) n fs) wait in
              omega arith,
        )

    -- the next turn, or the result
    pub goes_round : (a : Accumulator) (s : List Outcome) (left : List Value) → Fits (result_of f.mode a) k.stands.top
        → length a.items + length f.left ≤ o.max → AllFit s (o.below ++ below_all os) → f.left ≡ left
        → GoesOn image (on at stack (f ∷ fs)) (gone_on f left a s fs)
    goes_round a s [] fr room below e = closes (result_of f.mode a) s fr below
    goes_round a s (x ∷ xs) fr room below e =
        let l = k.stands in
        let long : length f.left ≡ length (x ∷ xs) = ap length e in
        let start : f.start + 1 ≡ o.start + 1 = ap (λ n. n + 1) k.start in
        let item : slice_get image.code (f.start + 1) ≡ Some Item = ap (slice_get image.code) start ∙ l.item in
        let wait : waits_at image (f.start + 1) ≡ 0 = ap waits item in
        let opens : opens_at image (f.start + 1) ≡ o ∷ os = ap (opens_at image) start ∙ l.item_opens in
        let gathered : Frame = record f { gathered = a } in
        let frame : FrameFits image 0 gathered o os =
        record {
          start = k.start;
          exit = k.exit;
          mode = k.mode;
          item = k.item;
          left = k.left;
          some = omega arith;
          room = omega arith;
          stands = l;
          result = fr;
        } in
        let waiting : FramesFit image (waits_at image (f.start + 1)) (gathered ∷ fs) (o ∷ os) =
        subst (λ p. FramesFit image p (gathered ∷ fs) (o ∷ os)) (sym wait) (frame, ks) in (
          record {
            types = [];
            inside = subst (λ n. n < length image.code) (sym start) l.item_inside;
            label = ap (types_at image) start ∙ l.item_types;
            fits = subst (λ us. AllFit s (below_all us)) (sym opens) below;
            frames = subst (λ us. FramesFit image (waits_at image (f.start + 1)) (gathered ∷ fs) us) (sym opens) waiting;
          },
          omega arith,
          λ w.
              let g = path_from image w in
              let p = own at i ts stack (f ∷ fs) h w in
              let q = owed_one w in
              let t : owed g (waits_at image (f.start + 1)) (gathered ∷ fs) ≡ owed g 0 (gathered ∷ fs) =
              ap (λ n. owed g n (gathered ∷ fs)) wait in
              let u : rounds (to_come 0 f.left) (g (f.start + 1)) ≡ rounds xs (g (f.start + 1)) =
              ap (λ vs. rounds (to_come 0 vs) (g (f.start + 1))) e in
              let v : rounds (to_come 1 f.left) (g (f.start + 1)) ≡ g (f.start + 1) + rounds xs (g (f.start + 1)) =
              ap (λ vs. rounds vs (g (f.start + 1))) e in
              omega arith,
        )
