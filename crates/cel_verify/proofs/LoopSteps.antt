-- How the machine goes on at the instructions of loops: LOOP, ITEM, WHEN, NEXT and LOCAL.
use Rattle.std.proofs.Common.{◌≡◌, ◌⊎◌, ℕ, zero, suc, ◌+◌, ◌*◌, ◌<◌, ◌≤◌, true, false, List, [], ◌∷◌, ◌++◌, length}
use Rattle.std.proofs.Common.{Option, Some, None, refl, sym, ap, ◌∙◌, subst, inl, ⊎_elim, arith, add-one, true≢false}
use Rattle.std.specs.Prelude.{Result, Ok, Err, slice_get, nat_eq}
use Rattle.std.specs.List.{list_all}
use Rattle.std.proofs.lemmas.Bool.{and_parts}
use Rattle.std.proofs.lemmas.Option.{none-some, same_Some}
use Rattle.cel_value.specs.declared.value.Value.{Value}
use Rattle.cel_value.specs.declared.cel_type.CelType.{CelType}
use Rattle.cel_value.specs.declared.cel_type.CelType as type
use Rattle.cel_value.specs.declared.cel_error.CelError.{CelError}
use Rattle.cel_value.specs.CelType.{fits, assignable}
use Rattle.cel_value.specs.declared.expr.Loop.{Loop}
use Rattle.cel_value.specs.declared.expr.Loop.TheVariants as loop
use Rattle.cel_operators.specs.declared.type_rule.TypeRule.{TypeRule}
use Rattle.cel_operators.specs.Outcomes.{Outcome, Side}
use Rattle.cel_operators.specs.Wants.{taken, limit_of, is_truth}
use Rattle.cel_operators.specs.declared.operands.Want.TheVariants.{Ranged}
use Rattle.cel_operators.specs.Loops.{loop_type, nothing_yet, turn, result_of, Turn, Closes, GoesOn as TurnsOn}
use Rattle.cel_operators.proofs.Rows.{wider}
use Rattle.cel_operators.proofs.Taking.{Taken, taken_fits}
use Rattle.cel_code.specs.declared.instr.Instr.TheVariants.{Local, Item, When, Next}
use Rattle.cel_code.specs.declared.instr.Instr.TheVariants as instr
use Rattle.cel_code.specs.declared.image.Image.{Image}
use Rattle.cel_code.specs.LoopNumbers.{loop_kind}
use Rattle.cel_code.specs.Machine.{Next as Step, Inputs, Frame, on, Goes, slot, item_of, frame, opened, opened_by, item_taken, turned}
use Rattle.cel_code.specs.Machine.{tested, tested_in, act}
use Rattle.cel_verify.specs.StackTypes.{StackTypes, all_assignable, Fits, AllFit}
use Rattle.cel_verify.specs.Sound.{Open, in_innermost, is_map, no_items, span_of, local_rule, kind_rule, item_rule, when_rule}
use Rattle.cel_verify.specs.Sound.{closing_rule, next_rule, typed_rule, entry_in, below_all, IsWalked}
use Rattle.cel_verify.specs.Paths.{most_items, items_on_top, times_at}
use Rattle.cel_verify.specs.Typed.{types_at, opens_at, waits, waits_at, LoopStands, FrameFits, FramesFit}
use Rattle.cel_verify.proofs.ToGo.{path_from, to_come, rounds, owed, GoesOn}
use Rattle.cel_verify.proofs.Falling.{one_needs, cons_parts}
use Rattle.cel_verify.proofs.Sides.{truth_side}
use Rattle.cel_verify.proofs.Gathering.{same_ok, empty_fits, turn_on, TurnFits}
use Rattle.cel_verify.proofs.PathSums.{path_is}
use Rattle.cel_verify.proofs.Nests.{Looped, looped, opened_is, open_of, opens_in, opens_are, opens_behind, no_item}
use Rattle.cel_verify.proofs.Going.{all_wider, label_jump, Here, charge_le, fall_label, owed_here}
use Rattle.cel_verify.proofs.Going.{falls, plain_falls, jumps, closes, goes_round}

-- so many turns cost no more than so often the greatest
rounds_le : (vs : List Value) (n g : ℕ) → length vs ≤ n → rounds vs g ≤ n * g
rounds_le [] n g h = omega arith
rounds_le (v ∷ vs) zero g h = absurd (omega arith)
rounds_le (v ∷ vs) (suc n) g h =
    let r = rounds_le vs n g (omega arith) in
    let m : suc n * g ≡ g + n * g = search arith in
    omega arith

-- the item of an open loop is of its type
local_fits : (image : Image) (waiting : ℕ) (fs : List Frame) (os : List Open) (d : ℕ) (o : Open) → FramesFit image waiting fs os
    → slice_get os d ≡ Some o → (f : Frame) × (slice_get fs d ≡ Some f) × (fits f.item o.item ≡ true)
local_fits image waiting [] [] d o h e = absurd (none-some o e)
local_fits image waiting [] (p ∷ os) d o h e = absurd h
local_fits image waiting (f ∷ fs) [] d o h e = absurd h
local_fits image waiting (f ∷ fs) (p ∷ os) zero o h e =
    (f, refl, subst (λ q. fits f.item q.item ≡ true) (same_Some p o e) h.0.item)
local_fits image waiting (f ∷ fs) (p ∷ os) (suc d) o h e = local_fits image 1 fs os d o h.1 e

-- what is on top, and what is below
split : (t : CelType) (us es : StackTypes) → all_assignable (t ∷ us) es ≡ true
    → (top : CelType) × (rest : StackTypes) × (es ≡ top ∷ rest) × (assignable t top ≡ true) × (all_assignable us rest ≡ true)
split t us [] a = absurd (true≢false (sym a))
split t us (u ∷ es) a = let r = and_parts (assignable t u) (all_assignable us es) a in (u, es, refl, r.0, r.1)

no_types : (us : StackTypes) → (([] ≡ us) ⊎ (all_assignable [] us ≡ true)) → us ≡ []
no_types [] h = refl
no_types (u ∷ us) h = ⊎_elim (λ q. cc) (λ q. absurd (true≢false (sym q))) h

closing_is : (o : Open) (q : Result CelType TypeRule) (m : Option StackTypes) → closing_rule o q ≡ Ok m
    → (s : CelType) × (q ≡ Ok s) × (all_assignable (s ∷ o.below) o.after ≡ true)
closing_is o (Err broken) m e = cc
closing_is o (Ok s) m e = (s, refl, (one_needs (all_assignable (s ∷ o.below) o.after) (Ok None) m e).0)

map_is : (l : Loop) → is_map l ≡ true → l ≡ loop.Map
map_is loop.Map h = refl
map_is _ h = absurd (true≢false (sym h))

module _ (image : Image) (sound : IsWalked image) where
  local_on : (o : Option Open) (d at : ℕ) (ts : StackTypes) (stack : List Outcome) (frames : List Frame)
      → slice_get (opens_at image at) d ≡ o → Here image at (Local d) ts stack frames
      → typed_rule image (Local d) (opens_at image at) ts ≡ local_rule o ts → (m : Option StackTypes) → local_rule o ts ≡ Ok m
      → GoesOn image (on at stack frames) (slot (item_of (slice_get frames d)) at stack frames)
  local_on None d at ts stack frames z h e m q = cc
  local_on (Some o) d at ts stack frames z h e m q =
      let f = local_fits image 1 frames (opens_at image at) d o h.framed z in
      subst (λ g. GoesOn image (on at stack frames) (slot (item_of g) at stack frames)) (sym f.1)
      (plain_falls image sound at (Local d) ts stack frames h 1 (o.item ∷ ts) (Ok f.0.item ∷ stack) (omega arith) e refl refl
      (inl refl) (f.2, h.fits))

  pub local_goes : (d at : ℕ) (ts : StackTypes) (stack : List Outcome) (frames : List Frame) (m : Option StackTypes)
      → Here image at (Local d) ts stack frames → local_rule (slice_get (opens_at image at) d) ts ≡ Ok m
      → GoesOn image (on at stack frames) (slot (item_of (slice_get frames d)) at stack frames)
  local_goes d at ts stack frames m h e = local_on (slice_get (opens_at image at) d) d at ts stack frames refl h refl m e

  -- ITEM: the next item is taken
  item_on : (at : ℕ) (stack : List Outcome) (f : Frame) (fs : List Frame) (o : Open) (os : List Open) (left : List Value)
      → Here image at Item [] stack (f ∷ fs) → opens_at image at ≡ o ∷ os → FrameFits image 0 f o os → FramesFit image 1 fs os
      → f.left ≡ left → GoesOn image (on at stack (f ∷ fs)) (item_taken f left at stack fs)
  item_on at stack f fs o os [] h eo k ks q =
      let none : length f.left ≡ 0 = ap length q in
      let waiting = k.some in
      absurd (omega arith)
  item_on at stack f fs o os (v ∷ vs) h eo k ks q =
      let long : length f.left ≡ length (v ∷ vs) = ap length q in
      let all =
      and_parts (fits v o.item) (list_all (λ w. fits w o.item) vs) (ap (list_all (λ w. fits w o.item)) (sym q) ∙ k.left) in
      let room = k.room in
      let next : Frame = record f { item = v; left = vs } in
      let fit : FrameFits image 1 next o os =
      record {
        start = k.start;
        exit = k.exit;
        mode = k.mode;
        item = all.0;
        left = all.1;
        some = omega arith;
        room = omega arith;
        stands = k.stands;
        result = k.result;
      } in
      falls image sound at Item [] stack (f ∷ fs) h 1 [] stack (next ∷ fs) (omega arith) refl refl (inl refl) h.fits
      (subst (λ us. FramesFit image 1 (next ∷ fs) us) (sym eo) (fit, ks))
      (λ g.
      let v : rounds (to_come 0 f.left) (g (f.start + 1)) ≡ rounds vs (g (f.start + 1)) =
      ap (λ ws. rounds (to_come 0 ws) (g (f.start + 1))) q in
      omega arith)

  pub item_goes : (inputs : Inputs) (at : ℕ) (ts : StackTypes) (stack : List Outcome) (frames : List Frame) (os : List Open)
      (m : Option StackTypes) → Here image at Item ts stack frames → opens_at image at ≡ os → FramesFit image 0 frames os
      → in_innermost (λ o. nat_eq at (o.start + 1)) os ≡ true → item_rule ts ≡ Ok m
      → GoesOn image (on at stack frames) (act inputs Item at stack frames)
  item_goes inputs at (t ∷ ts) stack frames os m h eo k b e = cc
  item_goes inputs at [] stack [] [] m h eo k b e = absurd (true≢false (sym b))
  item_goes inputs at [] stack [] (o ∷ os) m h eo k b e = absurd k
  item_goes inputs at [] stack (f ∷ fs) [] m h eo k b e = absurd k
  item_goes inputs at [] stack (f ∷ fs) (o ∷ os) m h eo k b e = item_on at stack f fs o os f.left h eo k.0 k.1 refl

  -- WHEN: on to the transform, the next turn, or the error
  tested_on : (at : ℕ) (t : CelType) (x : Outcome) (stack : List Outcome) (f : Frame) (fs : List Frame) (o : Open) (os : List Open)
      (y : Side) → Here image at When (t ∷ []) (x ∷ stack) (f ∷ fs) → FrameFits image 1 f o os → FramesFit image 1 fs os
      → AllFit stack (o.below ++ below_all os) → typed_rule image When (opens_at image at) (t ∷ []) ≡ Ok (Some [])
      → GoesOn image (on at (x ∷ stack) (f ∷ fs)) (tested f (Some y) at stack fs)
  tested_on at t x stack f fs o os (Ok true) h k ks below r =
      plain_falls image sound at When (t ∷ []) (x ∷ stack) (f ∷ fs) h 0 [] stack (omega arith) r refl refl (inl refl) h.fits.1
  tested_on at t x stack f fs o os (Ok false) h k ks below r =
      let room = k.room in
      goes_round image sound at When (t ∷ []) (x ∷ stack) f fs o os h refl k ks f.gathered stack f.left k.result
      (omega arith) below refl
  tested_on at t x stack f fs o os (Err c) h k ks below r =
      closes image sound at When (t ∷ []) (x ∷ stack) f fs o os h refl k ks (Err c) stack refl below

  when_on : (at : ℕ) (t : CelType) (x : Outcome) (stack : List Outcome) (f : Frame) (fs : List Frame) (o : Open) (os : List Open)
      (m : Option StackTypes) → Here image at When (t ∷ []) (x ∷ stack) (f ∷ fs) → opens_at image at ≡ o ∷ os
      → FrameFits image 1 f o os → FramesFit image 1 fs os → is_map o.mode ≡ true → when_rule (t ∷ []) ≡ Ok m
      → GoesOn image (on at (x ∷ stack) (f ∷ fs)) (tested_in f.mode f x at stack fs)
  when_on at t x stack f fs o os m h eo k ks b e =
      let a = one_needs (is_truth t) (Ok (Some [])) m e in
      let y = truth_side x t h.fits.0 a.0 in
      let is : f.mode ≡ loop.Map = k.mode ∙ map_is o.mode b in
      let below : AllFit stack (o.below ++ below_all os) = subst (λ us. AllFit stack (below_all us)) eo h.fits.1 in
      let go = tested_on at t x stack f fs o os y.0 h k ks below a.1 in
      subst (λ l. GoesOn image (on at (x ∷ stack) (f ∷ fs)) (tested_in l f x at stack fs)) (sym is)
      (subst (λ u. GoesOn image (on at (x ∷ stack) (f ∷ fs)) (tested f u at stack fs)) (sym y.1) go)

  pub when_goes : (inputs : Inputs) (at : ℕ) (ts : StackTypes) (stack : List Outcome) (frames : List Frame) (os : List Open)
      (m : Option StackTypes) → Here image at When ts stack frames → opens_at image at ≡ os → FramesFit image 1 frames os
      → in_innermost (λ o. is_map o.mode) os ≡ true → when_rule ts ≡ Ok m
      → GoesOn image (on at stack frames) (act inputs When at stack frames)
  when_goes inputs at [] stack frames os m h eo k b e = cc
  when_goes inputs at (t ∷ s ∷ ts) stack frames os m h eo k b e = cc
  when_goes inputs at (t ∷ []) [] frames os m h eo k b e = absurd h.fits
  when_goes inputs at (t ∷ []) (x ∷ stack) [] [] m h eo k b e = absurd (true≢false (sym b))
  when_goes inputs at (t ∷ []) (x ∷ stack) [] (o ∷ os) m h eo k b e = absurd k
  when_goes inputs at (t ∷ []) (x ∷ stack) (f ∷ fs) [] m h eo k b e = absurd k
  when_goes inputs at (t ∷ []) (x ∷ stack) (f ∷ fs) (o ∷ os) m h eo k b e = when_on at t x stack f fs o os m h eo k.0 k.1 b e

  -- NEXT: the next turn, or the result
  turned_on : (at : ℕ) (t : CelType) (x : Outcome) (stack : List Outcome) (f : Frame) (fs : List Frame) (o : Open) (os : List Open)
      (y : Turn) → Here image at Next (t ∷ []) (x ∷ stack) (f ∷ fs) → (k : FrameFits image 1 f o os) → FramesFit image 1 fs os
      → AllFit stack (o.below ++ below_all os) → TurnFits o.mode k.stands.top (length f.gathered.items + 1) y
      → GoesOn image (on at (x ∷ stack) (f ∷ fs)) (turned f (Some y) stack fs)
  turned_on at t x stack f fs o os (Closes z) h k ks below r =
      closes image sound at Next (t ∷ []) (x ∷ stack) f fs o os h refl k ks z stack r below
  turned_on at t x stack f fs o os (TurnsOn a) h k ks below r =
      let room = k.room in
      let fewer = r.1 in
      let fit : Fits (result_of f.mode a) k.stands.top = subst (λ l. Fits (result_of l a) k.stands.top) (sym k.mode) r.0 in
      goes_round image sound at Next (t ∷ []) (x ∷ stack) f fs o os h refl k ks a stack f.left fit (omega arith) below refl

  next_on : (at : ℕ) (t : CelType) (x : Outcome) (stack : List Outcome) (f : Frame) (fs : List Frame) (o : Open) (os : List Open)
      (m : Option StackTypes) → Here image at Next (t ∷ []) (x ∷ stack) (f ∷ fs) → opens_at image at ≡ o ∷ os
      → FrameFits image 1 f o os → FramesFit image 1 fs os → closing_rule o (loop_type o.mode (span_of o) t) ≡ Ok m
      → GoesOn image (on at (x ∷ stack) (f ∷ fs)) (turned f (turn f.mode f.item f.gathered (Some x)) stack fs)
  next_on at t x stack f fs o os m h eo k ks e =
      let l = k.stands in
      let c = closing_is o (loop_type o.mode (span_of o) t) m e in
      let wide : all_assignable (c.0 ∷ o.below) (l.top ∷ l.rest) ≡ true = ap (all_assignable (c.0 ∷ o.below)) (sym l.after) ∙ c.2 in
      let top = (and_parts (assignable c.0 l.top) (all_assignable o.below l.rest) wide).0 in
      let before : Fits (result_of o.mode f.gathered) l.top = subst (λ d. Fits (result_of d f.gathered) l.top) k.mode k.result in
      let room = k.room in
      let w = turn_on o.mode f.item f.gathered x (span_of o) t c.0 l.top c.1 top k.item h.fits.0 before (omega arith) in
      let is : turn f.mode f.item f.gathered (Some x) ≡ Some w.0 =
      ap (λ d. turn d f.item f.gathered (Some x)) k.mode ∙ w.1 in
      let below : AllFit stack (o.below ++ below_all os) = subst (λ us. AllFit stack (below_all us)) eo h.fits.1 in
      subst (λ u. GoesOn image (on at (x ∷ stack) (f ∷ fs)) (turned f u stack fs)) (sym is)
      (turned_on at t x stack f fs o os w.0 h k ks below w.2)

  pub next_goes : (inputs : Inputs) (at : ℕ) (ts : StackTypes) (stack : List Outcome) (frames : List Frame) (os : List Open)
      (m : Option StackTypes) → Here image at Next ts stack frames → opens_at image at ≡ os → FramesFit image 1 frames os
      → in_innermost (λ o. nat_eq o.exit (at + 1)) os ≡ true → next_rule os ts ≡ Ok m
      → GoesOn image (on at stack frames) (act inputs Next at stack frames)
  next_goes inputs at [] stack frames os m h eo k b e = cc
  next_goes inputs at (t ∷ ts) stack frames [] m h eo k b e = absurd (true≢false (sym b))
  next_goes inputs at (t ∷ s ∷ ts) stack frames (o ∷ os) m h eo k b e = cc
  next_goes inputs at (t ∷ []) [] frames (o ∷ os) m h eo k b e = absurd h.fits
  next_goes inputs at (t ∷ []) (x ∷ stack) [] (o ∷ os) m h eo k b e = absurd k
  next_goes inputs at (t ∷ []) (x ∷ stack) (f ∷ fs) (o ∷ os) m h eo k b e = next_on at t x stack f fs o os m h eo k.0 k.1 e

  -- LOOP: the range's error or the result of no items after the loop, or the first item
  module _ (at l exit : ℕ) (t : CelType) (us : StackTypes) (x : Outcome) (stack : List Outcome) (frames : List Frame)
      (h : Here image at (instr.Loop l exit) (t ∷ us) (x ∷ stack) frames) (r : Looped image at l exit)
      (top_is : r.top ≡ t) (rest_is : r.rest ≡ us) where
    -- the loop that is opened
    abbrev opens : List Open
    opens = opens_at image at

    abbrev own : Open
    own = open_of image at l exit r

    exit_opens : opens_at image exit ≡ opens
    exit_opens =
        let far = r.far in
        let same = sym (opens_are image sound at (omega (arith, h.inside))) in
        opens_are image sound exit (omega (arith, r.inside)) ∙ ap (opens_in image) (sym r.same) ∙ same

    body_opens : opens_at image (at + 1) ≡ own ∷ opens
    body_opens =
        ap (opens_at image) (add-one at) ∙ opens_behind image sound at l exit h.hi ∙ opened_is image at l exit r h.hi opens

    body_types : types_at image (at + 1) ≡ Some []
    body_types =
        let rule : kind_rule (loop_kind l) (entry_in image.targets exit) (t ∷ us) ≡ Ok (Some []) =
        subst (λ a. kind_rule (loop_kind l) (entry_in image.targets exit) (a ∷ us) ≡ Ok (Some [])) top_is
        (subst (λ ss. kind_rule (loop_kind l) (entry_in image.targets exit) (r.top ∷ ss) ≡ Ok (Some [])) rest_is r.rule) in
        let n = fall_label image sound at (instr.Loop l exit) (t ∷ us) (x ∷ stack) frames h [] rule in
        n.1 ∙ ap Some (no_types n.0 n.2)

    loop_stands : LoopStands image own opens
    loop_stands =
        let far = r.far in
        let s = split r.empty r.rest r.after r.goes in
        let ahead : 0 < exit = omega arith in
        record {
          item = r.item;
          item_inside = omega (arith, r.inside);
          item_types = body_types;
          item_opens = body_opens;
          exit_inside = r.inside;
          exit_types = label_jump image exit r.after ahead r.after_is;
          exit_opens = exit_opens;
          exit_waits = no_item image sound at exit (omega arith) r.inside exit_opens;
          top = s.0;
          rest = s.1;
          after = s.2;
          below = s.4;
          empty = λ u e. subst (λ v. assignable v s.0 ≡ true) (same_ok (loop_type r.kind no_items type.Never) r.empty u r.empty_is e) s.3;
        }

    -- after the loop, with its result
    led : (y : Outcome) → Fits y r.empty
        → GoesOn image (on at (x ∷ stack) frames) (Goes 1 (on exit (y ∷ stack) frames))
    led y fy =
        let below : AllFit stack (r.rest ++ below_all opens) = subst (λ ss. AllFit stack (ss ++ below_all opens)) (sym rest_is) h.fits.1 in
        jumps image sound at (instr.Loop l exit) (t ∷ us) (x ∷ stack) frames h exit 1 r.after (y ∷ stack) refl (inl refl) (inl refl)
        (omega arith) r.after_is (all_wider (y ∷ stack) (r.empty ∷ r.rest) r.after (below_all opens) r.goes (fy, below))

    abbrev opened_frame : Value → List Value → Frame
    opened_frame v vs = frame at exit r.kind v vs

    frame_fits : (v : Value) (vs : List Value) → length (v ∷ vs) ≤ r.span.max → list_all (λ w. fits w r.span.item) (v ∷ vs) ≡ true
        → FrameFits image 0 (opened_frame v vs) own opens
    frame_fits v vs long all =
        let stands = loop_stands in
        let first = and_parts (fits v r.span.item) (list_all (λ w. fits w r.span.item) vs) all in
        let result = empty_fits r.kind r.empty r.empty_is in
        let takes = stands.empty r.empty r.empty_is in
        record {
          start = refl;
          exit = refl;
          mode = refl;
          item = first.0;
          left = all;
          some = omega arith;
          room = omega arith;
          stands = stands;
          result = wider r.empty stands.top (Some (result_of r.kind nothing_yet)) takes result;
        }

    -- a route through the body counts for each item
    pays : (v : Value) (vs : List Value) → length (v ∷ vs) ≤ r.span.max → (w : ℕ → ℕ)
        → w at + (path_from image w (at + 1) + owed (path_from image w) (waits_at image (at + 1)) (opened_frame v vs ∷ frames))
        ≤ path_from image w at + owed (path_from image w) (waits_at image at) frames
    pays v vs long w =
        let g = path_from image w in
        let p = path_is image at w (instr.Loop l exit) h.hi h.targets in
        let times : times_at image at ≡ r.span.max = ap items_on_top r.types ∙ ap most_items r.ranged in
        let b = rounds_le (v ∷ vs) r.span.max (g (at + 1)) long in
        let c : times_at image at * g (at + 1) ≡ r.span.max * g (at + 1) = ap (λ n. n * g (at + 1)) times in
        let q = owed_here image sound at (instr.Loop l exit) (t ∷ us) (x ∷ stack) frames h w in
        let wait : waits_at image (at + 1) ≡ 0 = ap waits r.item in
        let u : owed g (waits_at image (at + 1)) (opened_frame v vs ∷ frames) ≡ owed g 0 (opened_frame v vs ∷ frames) =
        ap (λ n. owed g n (opened_frame v vs ∷ frames)) wait in
        omega arith

    opens_on : (v : Value) (vs : List Value) → length (v ∷ vs) ≤ r.span.max → list_all (λ w. fits w r.span.item) (v ∷ vs) ≡ true
        → GoesOn image (on at (x ∷ stack) frames) (Goes 1 (on (at + 1) stack (opened_frame v vs ∷ frames)))
    opens_on v vs long all =
        let stands = loop_stands in
        let fs = opened_frame v vs ∷ frames in
        let wait : waits_at image (at + 1) ≡ 0 = ap waits r.item in
        let below : AllFit stack (r.rest ++ below_all opens) = subst (λ ss. AllFit stack (ss ++ below_all opens)) (sym rest_is) h.fits.1 in
        let waiting : FramesFit image (waits_at image (at + 1)) fs (own ∷ opens) =
        subst (λ n. FramesFit image n fs (own ∷ opens)) (sym wait) (frame_fits v vs long all, h.framed) in (
          record {
            types = [];
            inside = stands.item_inside;
            label = stands.item_types;
            fits = subst (λ os. AllFit stack (below_all os)) (sym body_opens) below;
            frames = subst (λ os. FramesFit image (waits_at image (at + 1)) fs os) (sym body_opens) waiting;
          },
          charge_le image sound at (instr.Loop l exit) (t ∷ us) (x ∷ stack) frames h 1 (omega arith),
          pays v vs long,
        )

    ranged_on : (o : Option (Result (List Value) CelError)) → Taken Ranged r.span o
        → GoesOn image (on at (x ∷ stack) frames) (opened r.kind o exit at stack frames)
    ranged_on None k = absurd k
    ranged_on (Some (Err c)) k = led (Err c) refl
    ranged_on (Some (Ok [])) k = led (result_of r.kind nothing_yet) (empty_fits r.kind r.empty r.empty_is)
    ranged_on (Some (Ok (v ∷ vs))) k = opens_on v vs k.0 k.1

  pub loop_goes : (inputs : Inputs) (at l exit : ℕ) (ts : StackTypes) (stack : List Outcome) (frames : List Frame)
      → Here image at (instr.Loop l exit) ts stack frames
      → GoesOn image (on at stack frames) (act inputs (instr.Loop l exit) at stack frames)
  loop_goes inputs at l exit ts stack frames h =
      let r = looped image sound at l exit h.hi in
      by ts stack h r (same_Some (r.top ∷ r.rest) ts (sym r.types ∙ h.hl))
    where
      by : (ts : StackTypes) (stack : List Outcome) → Here image at (instr.Loop l exit) ts stack frames
          → (r : Looped image at l exit) → r.top ∷ r.rest ≡ ts
          → GoesOn image (on at stack frames) (act inputs (instr.Loop l exit) at stack frames)
      by [] stack h r e = cc
      by (t ∷ us) [] h r e = absurd h.fits
      by (t ∷ us) (x ∷ stack) h r e =
          let parts = cons_parts r.top t r.rest us e in
          let limit = ap (limit_of Ranged) (sym parts.0) ∙ r.ranged in
          let range = taken_fits Ranged t (Some x) r.span limit h.fits.0 in
          let goes = ranged_on at l exit t us x stack frames h r parts.0 parts.1 (taken Ranged (Some x)) range in
          let at_kind : Option Loop → Step = λ k. opened_by k (taken Ranged (Some x)) exit at stack frames in
          subst (λ k. GoesOn image (on at (x ∷ stack) frames) (at_kind k)) (sym r.kind_is) goes
