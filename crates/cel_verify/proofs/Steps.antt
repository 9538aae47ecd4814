-- A sound image's machine goes on from each state that fits, and each step pays for itself.
use Rattle.std.proofs.Common.{◌≡◌, ℕ, zero, suc, ◌+◌, ◌≤◌, true, false, ◌&&◌, List, [], ◌∷◌, ◌++◌, length}
use Rattle.std.proofs.Common.{Option, Some, None, refl, sym, ap, ◌∙◌, subst, inl, inr, arith, true≢false}
use Rattle.std.specs.Prelude.{Result, Ok, Err, slice_get}
use Rattle.std.proofs.lemmas.Bool.{and_parts}
use Rattle.cel_value.specs.declared.value.Value.{Value}
use Rattle.cel_value.specs.declared.cel_type.CelType.{CelType}
use Rattle.cel_value.specs.declared.cel_type.CelType as type
use Rattle.cel_value.specs.CelType.{assignable}
use Rattle.cel_operators.specs.declared.type_rule.TypeRule.{TypeRule}
use Rattle.cel_operators.specs.declared.type_rule.TypeRule.TheVariants.{TooLarge}
use Rattle.cel_operators.specs.declared.operator.Operator.{Operator}
use Rattle.cel_operators.specs.declared.operator.Made.{Made}
use Rattle.cel_code.specs.declared.instr.Instr.{Instr}
use Rattle.cel_code.specs.declared.instr.Instr.TheVariants.{Const, Op, WithText, AndTest, OrTest, And, Or}
use Rattle.cel_code.specs.declared.instr.Instr.TheVariants.{Cond, Jump, End, Slot, Local, Item, When}
use Rattle.cel_code.specs.Machine.{taken_off, listed, mapped, constant_text, operate_with}
use Rattle.cel_operators.specs.Lists.{items_type, list_made}
use Rattle.cel_operators.specs.Maps.{map_made, entries_type, entries_greatest}
use Rattle.cel_operators.specs.TextOperators.{row_with}
use Rattle.cel_operators.specs.declared.text_operator.TextOperator.{TextOperator}
use Rattle.cel_verify.specs.Sound.{listed_rule, mapped_rule, text_rule}
use Rattle.cel_verify.proofs.Listing.{taken_fit, taken_long, listed_made, paired_twice, mapped_made}
use Rattle.cel_code.specs.declared.instr.Instr.TheVariants as instr
use Rattle.cel_code.specs.declared.image.Image.{Image}
use Rattle.cel_operators.specs.Outcomes.{Outcome, outcome_fits, slots_fit, Side, and_of, or_of}
use Rattle.cel_operators.specs.Wants.{side_of, is_truth}
use Rattle.cel_operators.specs.Operators.{Row, One, Two, row, operator_of, type_of_one}
use Rattle.cel_operators.specs.Operators.{type_of_two, greatest_of_one, greatest_of_two, at_one, at_two}
use Rattle.cel_code.specs.Machine.{Inputs, Frame, State, on, Next, Goes, Ends, Stuck, push, constant, slot, made, operate, operate_by}
use Rattle.cel_code.specs.Machine.{and_test, or_test, joined, join, branch, act, act_at, inputs_of, step, Gets, Stays, Moves}
use Rattle.cel_verify.specs.StackTypes.{StackTypes, all_assignable, Fits, AllFit, constant_type}
use Rattle.cel_verify.specs.Sound.{given, row_rule, op_rule, constant_rule, enters, is_placed, below_all}
use Rattle.cel_verify.specs.Sound.{join_rule, end_rule, typed_rule, entry_in, IsWalked}
use Rattle.cel_verify.specs.Paths.{row_charge, op_charge, text_charge, mapped_charge, charge_of, goes_to, charge_at, IsIn}
use Rattle.cel_verify.specs.Typed.{opens_at, waits, FramesFit, Typed, HasRun, RunsWithin}
use Rattle.cel_verify.specs.Walked.{entered}
use Rattle.cel_verify.proofs.ToGo.{path_cost, path_steps, total, GoesOn}
use Rattle.cel_verify.proofs.Routes.{greatest_path}
use Rattle.cel_operators.proofs.Rows.{MadeRight, row_right, one_operand, two_operands, wider}
use Rattle.cel_operators.proofs.RightRows.{RowRight}
use Rattle.cel_operators.proofs.FieldRows.{row_with_right}
use Rattle.cel_operators.proofs.Slots.{slot_fits}
use Rattle.cel_verify.proofs.Sides.{constant_fits, truth_side, false_side, true_side, and_fits, or_fits}
use Rattle.cel_verify.proofs.Falling.{one_needs, two_needs, enters_is, entered_ok, no_end}
use Rattle.cel_verify.proofs.RuleParts.{parts_at}
use Rattle.cel_verify.proofs.PathSums.{path_is}
use Rattle.cel_verify.proofs.Going.{all_wider, keeps, Here, plain_falls, jumps}
use Rattle.cel_verify.proofs.LoopSteps.{local_goes, loop_goes, item_goes, when_goes, next_goes}
use Rattle.cel_verify.proofs.Turns.{one_more}

given_is : (q : Result CelType TypeRule) (us : StackTypes) (m : Option StackTypes) → given q us ≡ Ok m
    → (u : CelType) × (q ≡ Ok u) × (given q us ≡ Ok (Some (u ∷ us)))
given_is (Err TooLarge) us m k = cc
given_is (Err _) us m k = cc
given_is (Ok u) us m k = (u, refl, refl)

-- the instruction that joins both sides
abbrev joins : (Side → Side → Outcome) → ℕ → List Outcome → List Frame → Next
joins f at (y ∷ x ∷ stack) frames = joined (join f (side_of (Some x)) (side_of (Some y))) at stack frames
joins f at _ frames = Stuck

module _ (image : Image) (slots : List Outcome) (sound : IsWalked image) (filled : slots_fit image.slots slots ≡ true) where
  abbrev inputs : Inputs
  inputs = inputs_of image slots

  module _ (at : ℕ) (i : Instr) (ts : StackTypes) (stack : List Outcome) (frames : List Frame) (h : Here image at i ts stack frames)
      (one : waits (Some i) ≡ 1) (kept : keeps i ≡ true) where
    made_on : (o : Option Made) (u : CelType) (n : ℕ) (us : StackTypes) (s : List Outcome) → IsIn (at + 1) (goes_to i at)
        → MadeRight u o n → n ≤ charge_of image.constants i ts → AllFit s (us ++ below_all (opens_at image at))
        → typed_rule image i (opens_at image at) ts ≡ Ok (Some (u ∷ us)) → GoesOn image (on at stack frames) (made o at s frames)
    made_on None u n us s goes f le g e = absurd (true≢false (sym f.0))
    made_on (Some d) u n us s goes f le g e =
        plain_falls image sound at i ts stack frames h d.charge (u ∷ us) (d.outcome ∷ s) (omega (arith, f.1)) e one kept goes (f.0, g)

  row_on : (r : Row) → RowRight r → (at : ℕ) (i : Instr) (ts : StackTypes) (stack : List Outcome) (frames : List Frame)
      → Here image at i ts stack frames → waits (Some i) ≡ 1 → keeps i ≡ true → IsIn (at + 1) (goes_to i at)
      → row_charge r ts ≤ charge_of image.constants i ts
      → typed_rule image i (opens_at image at) ts ≡ row_rule r ts → (m : Option StackTypes) → row_rule r ts ≡ Ok m
      → GoesOn image (on at stack frames) (operate r at stack frames)
  row_on (One w r) rs at i [] stack frames h one kept goes le e m k = cc
  row_on (One w r) rs at i (t ∷ ts) [] frames h one kept goes le e m k = absurd h.fits
  row_on (One w r) rs at i (t ∷ ts) (x ∷ stack) frames h one kept goes le e m k =
      let q = given_is (type_of_one (One w r) t) ts m k in
      made_on at i (t ∷ ts) (x ∷ stack) frames h one kept (at_one (One w r) (Some x)) q.0 (greatest_of_one (One w r) t) ts stack goes
      (one_operand (One w r) t q.0 (Some x) rs q.1 h.fits.0) le h.fits.1 (e ∙ q.2)
  row_on (Two v w r) rs at i [] stack frames h one kept goes le e m k = cc
  row_on (Two v w r) rs at i (t ∷ []) stack frames h one kept goes le e m k = cc
  row_on (Two v w r) rs at i (t ∷ s ∷ ts) [] frames h one kept goes le e m k = absurd h.fits
  row_on (Two v w r) rs at i (t ∷ s ∷ ts) (y ∷ []) frames h one kept goes le e m k = absurd h.fits.1
  row_on (Two v w r) rs at i (t ∷ s ∷ ts) (y ∷ x ∷ stack) frames h one kept goes le e m k =
      let q = given_is (type_of_two (Two v w r) s t) ts m k in
      made_on at i (t ∷ s ∷ ts) (y ∷ x ∷ stack) frames h one kept (at_two (Two v w r) (Some x) (Some y)) q.0
      (greatest_of_two (Two v w r) s t) ts stack goes
      (two_operands (Two v w r) s t q.0 (Some x) (Some y) rs q.1 h.fits.1.0 h.fits.0) le h.fits.1.1 (e ∙ q.2)

  op_on : (o : Option Operator) (at : ℕ) (i : Instr) (ts : StackTypes) (stack : List Outcome) (frames : List Frame)
      → Here image at i ts stack frames → waits (Some i) ≡ 1 → keeps i ≡ true → IsIn (at + 1) (goes_to i at)
      → op_charge o ts ≤ charge_of image.constants i ts
      → typed_rule image i (opens_at image at) ts ≡ op_rule o ts → (m : Option StackTypes) → op_rule o ts ≡ Ok m
      → GoesOn image (on at stack frames) (operate_by o at stack frames)
  op_on None at i ts stack frames h one kept goes le e m k = cc
  op_on (Some op) at i ts stack frames h one kept goes le e m k =
      row_on (row op) (row_right op) at i ts stack frames h one kept goes le e m k

  with_text_on : (op : TextOperator) (o : Option (List ℕ)) (at : ℕ) (i : Instr) (ts : StackTypes) (stack : List Outcome)
      (frames : List Frame) → Here image at i ts stack frames → waits (Some i) ≡ 1 → keeps i ≡ true → IsIn (at + 1) (goes_to i at)
      → text_charge op o ts ≤ charge_of image.constants i ts → typed_rule image i (opens_at image at) ts ≡ text_rule op o ts
      → (m : Option StackTypes) → text_rule op o ts ≡ Ok m → GoesOn image (on at stack frames) (operate_with op o at stack frames)
  with_text_on op None at i ts stack frames h one kept goes le e m k = cc
  with_text_on op (Some text) at i ts stack frames h one kept goes le e m k =
      row_on (row_with op text) (row_with_right op text) at i ts stack frames h one kept goes le e m k

  listed_on : (o : Option (StackTypes × StackTypes)) (n at : ℕ) (ts : StackTypes) (stack : List Outcome) (frames : List Frame)
      → taken_off n [] ts ≡ o → Here image at (instr.List n) ts stack frames
      → typed_rule image (instr.List n) (opens_at image at) ts ≡ listed_rule o → (m : Option StackTypes) → listed_rule o ≡ Ok m
      → GoesOn image (on at stack frames) (listed (taken_off n [] stack) at frames)
  listed_on None n at ts stack frames z h e m k = cc
  listed_on (Some p) n at ts stack frames z h e m k =
      let q = given_is (items_type p.0) p.1 m k in
      let t = taken_fit n [] [] ts stack (below_all (opens_at image at)) p z tt h.fits in
      let long = taken_long n [] ts p z in
      subst (λ o. GoesOn image (on at stack frames) (listed o at frames)) (sym t.1)
      (made_on at (instr.List n) ts stack frames h refl refl (Some (list_made t.0.0)) q.0 (1 + length p.0) p.1 t.0.1 (inl refl)
      (listed_made p.0 t.0.0 q.0 q.1 t.2) (omega (arith, long)) t.3 (e ∙ q.2))

  mapped_on : (o : Option (StackTypes × StackTypes)) (n at : ℕ) (ts : StackTypes) (stack : List Outcome) (frames : List Frame)
      → taken_off (n + n) [] ts ≡ o → Here image at (instr.Map n) ts stack frames
      → typed_rule image (instr.Map n) (opens_at image at) ts ≡ mapped_rule o → (m : Option StackTypes) → mapped_rule o ≡ Ok m
      → GoesOn image (on at stack frames) (mapped (taken_off (n + n) [] stack) at frames)
  mapped_on None n at ts stack frames z h e m k = cc
  mapped_on (Some p) n at ts stack frames z h e m k =
      let q = given_is (entries_type p.0) p.1 m k in
      let t = taken_fit (n + n) [] [] ts stack (below_all (opens_at image at)) p z tt h.fits in
      let long = taken_long (n + n) [] ts p z in
      let charge : mapped_charge (taken_off (n + n) [] ts) ≡ entries_greatest p.0 = ap mapped_charge z in
      subst (λ o. GoesOn image (on at stack frames) (mapped o at frames)) (sym t.1)
      (made_on at (instr.Map n) ts stack frames h refl refl (map_made t.0.0) q.0 (entries_greatest p.0) p.1 t.0.1 (inl refl)
      (mapped_made p.0 t.0.0 q.0 (paired_twice n p.0 (omega (arith, long))) q.1 t.2) (omega (arith, charge)) t.3 (e ∙ q.2))

  const_on : (o : Option Value) (t : Option CelType) (k at : ℕ) (ts : StackTypes) (stack : List Outcome) (frames : List Frame)
      → constant_type o ≡ t → Here image at (Const k) ts stack frames
      → typed_rule image (Const k) (opens_at image at) ts ≡ constant_rule t ts → (m : Option StackTypes)
      → constant_rule t ts ≡ Ok m → GoesOn image (on at stack frames) (push (constant o) at stack frames)
  const_on o None k at ts stack frames z h e m q = cc
  const_on None (Some t) k at ts stack frames z h e m q = cc
  const_on (Some v) (Some t) k at ts stack frames z h e m q =
      plain_falls image sound at (Const k) ts stack frames h 0 (t ∷ ts) (Ok v ∷ stack) (omega arith) e refl refl (inl refl)
      (constant_fits v t z, h.fits)

  slot_on : (o : Option Outcome) (t : Option CelType) (k at : ℕ) (ts : StackTypes) (stack : List Outcome) (frames : List Frame)
      → ((s : CelType) → t ≡ Some s → outcome_fits s o ≡ true) → Here image at (Slot k) ts stack frames
      → typed_rule image (Slot k) (opens_at image at) ts ≡ constant_rule t ts → (m : Option StackTypes)
      → constant_rule t ts ≡ Ok m → GoesOn image (on at stack frames) (slot o at stack frames)
  slot_on o None k at ts stack frames z h e m q = cc
  slot_on None (Some t) k at ts stack frames z h e m q = absurd (true≢false (sym (z t refl)))
  slot_on (Some x) (Some t) k at ts stack frames z h e m q =
      plain_falls image sound at (Slot k) ts stack frames h 1 (t ∷ ts) (x ∷ stack) (omega arith) e refl refl (inl refl) (z t refl, h.fits)

  and_test_on : (to at : ℕ) (t : CelType) (ts : StackTypes) (x : Outcome) (stack : List Outcome) (frames : List Frame) (s : Side)
      (es : StackTypes) → Here image at (AndTest to) (t ∷ ts) (x ∷ stack) frames → side_of (Some x) ≡ Some s
      → entry_in image.targets to ≡ Some es → all_assignable (type.Bool ∷ ts) es ≡ true
      → typed_rule image (AndTest to) (opens_at image at) (t ∷ ts) ≡ Ok (Some (t ∷ ts))
      → GoesOn image (on at (x ∷ stack) frames) (and_test (Some s) to at (x ∷ stack) frames)
  and_test_on to at t ts x stack frames (Ok true) es h b ee a e =
      plain_falls image sound at (AndTest to) (t ∷ ts) (x ∷ stack) frames h 1 (t ∷ ts) (x ∷ stack) (omega arith) e refl refl
      (inr (inl refl)) h.fits
  and_test_on to at t ts x stack frames (Err f) es h b ee a e =
      plain_falls image sound at (AndTest to) (t ∷ ts) (x ∷ stack) frames h 1 (t ∷ ts) (x ∷ stack) (omega arith) e refl refl
      (inr (inl refl)) h.fits
  and_test_on to at t ts x stack frames (Ok false) es h b ee a e =
      jumps image sound at (AndTest to) (t ∷ ts) (x ∷ stack) frames h to 1 es (x ∷ stack) refl (inl refl) (inl refl) (omega arith) ee
      (all_wider (x ∷ stack) (type.Bool ∷ ts) es (below_all (opens_at image at)) a (false_side x b, h.fits.1))

  or_test_on : (to at : ℕ) (t : CelType) (ts : StackTypes) (x : Outcome) (stack : List Outcome) (frames : List Frame) (s : Side)
      (es : StackTypes) → Here image at (OrTest to) (t ∷ ts) (x ∷ stack) frames → side_of (Some x) ≡ Some s
      → entry_in image.targets to ≡ Some es → all_assignable (type.Bool ∷ ts) es ≡ true
      → typed_rule image (OrTest to) (opens_at image at) (t ∷ ts) ≡ Ok (Some (t ∷ ts))
      → GoesOn image (on at (x ∷ stack) frames) (or_test (Some s) to at (x ∷ stack) frames)
  or_test_on to at t ts x stack frames (Ok false) es h b ee a e =
      plain_falls image sound at (OrTest to) (t ∷ ts) (x ∷ stack) frames h 1 (t ∷ ts) (x ∷ stack) (omega arith) e refl refl
      (inr (inl refl)) h.fits
  or_test_on to at t ts x stack frames (Err f) es h b ee a e =
      plain_falls image sound at (OrTest to) (t ∷ ts) (x ∷ stack) frames h 1 (t ∷ ts) (x ∷ stack) (omega arith) e refl refl
      (inr (inl refl)) h.fits
  or_test_on to at t ts x stack frames (Ok true) es h b ee a e =
      jumps image sound at (OrTest to) (t ∷ ts) (x ∷ stack) frames h to 1 es (x ∷ stack) refl (inl refl) (inl refl) (omega arith) ee
      (all_wider (x ∷ stack) (type.Bool ∷ ts) es (below_all (opens_at image at)) a (true_side x b, h.fits.1))

  cond_on : (f g at : ℕ) (t : CelType) (ts : StackTypes) (x : Outcome) (stack : List Outcome) (frames : List Frame) (s : Side)
      (fs es : StackTypes) → Here image at (Cond f g) (t ∷ ts) (x ∷ stack) frames → entry_in image.targets f ≡ Some fs
      → entry_in image.targets g ≡ Some es → all_assignable ts fs ≡ true → all_assignable (type.Never ∷ ts) es ≡ true
      → typed_rule image (Cond f g) (opens_at image at) (t ∷ ts) ≡ Ok (Some ts)
      → GoesOn image (on at (x ∷ stack) frames) (branch (Some s) f g at stack frames)
  cond_on f g at t ts x stack frames (Ok true) fs es h ef ee a b e =
      plain_falls image sound at (Cond f g) (t ∷ ts) (x ∷ stack) frames h 1 ts stack (omega arith) e refl refl (inl refl) h.fits.1
  cond_on f g at t ts x stack frames (Ok false) fs es h ef ee a b e =
      jumps image sound at (Cond f g) (t ∷ ts) (x ∷ stack) frames h f 1 fs stack refl (inl refl) (inr (inl refl)) (omega arith) ef
      (all_wider stack ts fs (below_all (opens_at image at)) a h.fits.1)
  cond_on f g at t ts x stack frames (Err c) fs es h ef ee a b e =
      jumps image sound at (Cond f g) (t ∷ ts) (x ∷ stack) frames h g 1 es (Err c ∷ stack) refl (inr (inl refl)) (inr (inr (inl refl)))
      (omega arith) ee (all_wider (Err c ∷ stack) (type.Never ∷ ts) es (below_all (opens_at image at)) b (refl, h.fits.1))

  -- both sides, joined
  join_on : (f : Side → Side → Outcome) → ((a b : Side) → Fits (f a b) type.Bool)
      → (at : ℕ) (i : Instr) (ts : StackTypes) (stack : List Outcome) (frames : List Frame) → Here image at i ts stack frames
      → waits (Some i) ≡ 1 → keeps i ≡ true
      → IsIn (at + 1) (goes_to i at) → typed_rule image i (opens_at image at) ts ≡ join_rule ts
      → act inputs i at stack frames ≡ joins f at stack frames → (m : Option StackTypes) → join_rule ts ≡ Ok m
      → GoesOn image (on at stack frames) (act inputs i at stack frames)
  join_on f ff at i [] stack frames h one kept goes e a m k = cc
  join_on f ff at i (t ∷ []) stack frames h one kept goes e a m k = cc
  join_on f ff at i (t ∷ s ∷ ts) [] frames h one kept goes e a m k = absurd h.fits
  join_on f ff at i (t ∷ s ∷ ts) (y ∷ []) frames h one kept goes e a m k = absurd h.fits.1
  join_on f ff at i (t ∷ s ∷ ts) (y ∷ x ∷ stack) frames h one kept goes e a m k =
      let p = two_needs (is_truth s) (is_truth t) (Ok (Some (type.Bool ∷ ts))) m k in
      let b = truth_side x s h.fits.1.0 p.0 in
      let c = truth_side y t h.fits.0 p.1 in
      let go =
      plain_falls image sound at i (t ∷ s ∷ ts) (y ∷ x ∷ stack) frames h 0 (type.Bool ∷ ts) (f b.0 c.0 ∷ stack)
      (omega arith) (e ∙ p.2) one kept goes
      (ff b.0 c.0, h.fits.1.1) in
      let is : act inputs i at (y ∷ x ∷ stack) frames ≡ Goes 0 (on (at + 1) (f b.0 c.0 ∷ stack) frames) =
      a
      ∙ ap (λ u. joined (join f u (side_of (Some y))) at stack frames) b.1
      ∙ ap (λ u. joined (join f (Some b.0) u) at stack frames) c.1 in
      subst (GoesOn image (on at (y ∷ x ∷ stack) frames)) (sym is) go

  end_on : (at : ℕ) (ts : StackTypes) (stack : List Outcome) (frames : List Frame) (m : Option StackTypes)
      → Here image at End ts stack frames
      → end_rule image.result ts ≡ Ok m → GoesOn image (on at stack frames) (act inputs End at stack frames)
  end_on at [] stack frames m h e = cc
  end_on at (t ∷ s ∷ ts) stack frames m h e = cc
  end_on at (t ∷ []) [] frames m h e = absurd h.fits
  end_on at (t ∷ []) (x ∷ stack) frames m h e =
      wider t image.result (Some x) (one_needs (assignable t image.result) (Ok None) m e).0 h.fits.0

  instr_goes : (i : Instr) (at : ℕ) (ts : StackTypes) (stack : List Outcome) (frames : List Frame) → Here image at i ts stack frames
      → (m : Option StackTypes) → typed_rule image i (opens_at image at) ts ≡ Ok m
      → GoesOn image (on at stack frames) (act inputs i at stack frames)
  instr_goes (Const k) at ts stack frames h m e =
      const_on (slice_get image.constants k) (constant_type (slice_get image.constants k)) k at ts stack frames refl h refl m e
  instr_goes (Slot n) at ts stack frames h m e =
      slot_on (slice_get slots n) (slice_get image.slots n) n at ts stack frames (slot_fits n image.slots slots filled) h refl m e
  instr_goes (Op o) at ts stack frames h m e =
      op_on (operator_of o) at (Op o) ts stack frames h refl refl (inl refl) (omega arith) refl m e
  instr_goes (WithText op k) at ts stack frames h m e =
      with_text_on op (constant_text (slice_get image.constants k)) at (WithText op k) ts stack frames h refl refl (inl refl)
      (omega arith) refl m e
  instr_goes (instr.List n) at ts stack frames h m e = listed_on (taken_off n [] ts) n at ts stack frames refl h refl m e
  instr_goes (instr.Map n) at ts stack frames h m e = mapped_on (taken_off (n + n) [] ts) n at ts stack frames refl h refl m e
  instr_goes (AndTest to) at [] stack frames h m e = cc
  instr_goes (AndTest to) at (t ∷ ts) [] frames h m e = absurd h.fits
  instr_goes (AndTest to) at (t ∷ ts) (x ∷ stack) frames h m e =
      let p = two_needs (is_truth t) (enters (entry_in image.targets to) (type.Bool ∷ ts)) (Ok (Some (t ∷ ts))) m e in
      let q = enters_is (entry_in image.targets to) (type.Bool ∷ ts) p.1 in
      let s = truth_side x t h.fits.0 p.0 in
      subst (λ u. GoesOn image (on at (x ∷ stack) frames) (and_test u to at (x ∷ stack) frames)) (sym s.1)
      (and_test_on to at t ts x stack frames s.0 q.0 h s.1 q.1 q.2 p.2)
  instr_goes (OrTest to) at [] stack frames h m e = cc
  instr_goes (OrTest to) at (t ∷ ts) [] frames h m e = absurd h.fits
  instr_goes (OrTest to) at (t ∷ ts) (x ∷ stack) frames h m e =
      let p = two_needs (is_truth t) (enters (entry_in image.targets to) (type.Bool ∷ ts)) (Ok (Some (t ∷ ts))) m e in
      let q = enters_is (entry_in image.targets to) (type.Bool ∷ ts) p.1 in
      let s = truth_side x t h.fits.0 p.0 in
      subst (λ u. GoesOn image (on at (x ∷ stack) frames) (or_test u to at (x ∷ stack) frames)) (sym s.1)
      (or_test_on to at t ts x stack frames s.0 q.0 h s.1 q.1 q.2 p.2)
  instr_goes And at ts stack frames h m e = join_on and_of and_fits at And ts stack frames h refl refl (inl refl) refl (by stack) m e
    where
      by : (s : List Outcome) → act inputs And at s frames ≡ joins and_of at s frames
      by [] = refl
      by (y ∷ []) = refl
      by (y ∷ x ∷ s) = refl
  instr_goes Or at ts stack frames h m e = join_on or_of or_fits at Or ts stack frames h refl refl (inl refl) refl (by stack) m e
    where
      by : (s : List Outcome) → act inputs Or at s frames ≡ joins or_of at s frames
      by [] = refl
      by (y ∷ []) = refl
      by (y ∷ x ∷ s) = refl
  instr_goes (Cond f g) at [] stack frames h m e = cc
  instr_goes (Cond f g) at (t ∷ ts) [] frames h m e = absurd h.fits
  instr_goes (Cond f g) at (t ∷ ts) (x ∷ stack) frames h m e =
      let p =
      two_needs (is_truth t) (enters (entry_in image.targets f) ts && enters (entry_in image.targets g) (type.Never ∷ ts))
      (Ok (Some ts)) m e in
      let q = and_parts (enters (entry_in image.targets f) ts) (enters (entry_in image.targets g) (type.Never ∷ ts)) p.1 in
      let a = enters_is (entry_in image.targets f) ts q.0 in
      let b = enters_is (entry_in image.targets g) (type.Never ∷ ts) q.1 in
      let s = truth_side x t h.fits.0 p.0 in
      subst (λ u. GoesOn image (on at (x ∷ stack) frames) (branch u f g at stack frames)) (sym s.1)
      (cond_on f g at t ts x stack frames s.0 a.0 b.0 h a.1 b.1 a.2 b.2 p.2)
  instr_goes (Jump to) at ts stack frames h m e =
      let p = one_needs (enters (entry_in image.targets to) ts) (Ok None) m e in
      let q = enters_is (entry_in image.targets to) ts p.0 in
      jumps image sound at (Jump to) ts stack frames h to 0 q.0 stack refl (inl refl) (inl refl) (omega arith) q.1
      (all_wider stack ts q.0 (below_all (opens_at image at)) q.2 h.fits)
  instr_goes End at ts stack frames h m e = end_on at ts stack frames m h e
  instr_goes (Local d) at ts stack frames h m e = local_goes image sound d at ts stack frames m h e
  instr_goes (instr.Loop l exit) at ts stack frames h m e = loop_goes image sound inputs at l exit ts stack frames h
  instr_goes Item at ts stack frames h m e =
      item_goes image sound inputs at ts stack frames (opens_at image at) m h refl h.framed
      (and_parts (is_placed image at Item (opens_at image at)) true h.nested).0 e
  instr_goes When at ts stack frames h m e =
      when_goes image sound inputs at ts stack frames (opens_at image at) m h refl h.framed
      (and_parts (is_placed image at When (opens_at image at)) true h.nested).0 e
  instr_goes instr.Next at ts stack frames h m e =
      next_goes image sound inputs at ts stack frames (opens_at image at) m h refl h.framed
      (and_parts (is_placed image at instr.Next (opens_at image at)) true h.nested).0 e

  pub step_goes : (s : State) → Typed image s → GoesOn image s (step image slots s)
  step_goes s t = by (slice_get image.code s.at) refl
    where
      by : (o : Option Instr) → slice_get image.code s.at ≡ o → GoesOn image s (act_at inputs o s.at s.stack s.frames)
      by None e = absurd (no_end image.code s.at t.inside e)
      by (Some i) e =
          let holds = sound.each s.at t.inside in
          let p = parts_at image sound s.at i t.inside e in
          let same : p.here ≡ t.types = cc (p.is, t.label) in
          let entry = entry_in image.targets (s.at + 1) in
          let rule = typed_rule image i (opens_at image s.at) in
          let typed : entered entry (rule t.types) ≡ Ok holds.next =
          subst (λ ts. entered entry (rule ts) ≡ Ok holds.next) same p.typed in
          let h : Here image s.at i t.types s.stack s.frames =
          record {
            inside = t.inside;
            hi = e;
            hl = t.label;
            targets = p.targets;
            nested = p.nested;
            next = holds.next;
            holds = holds.is;
            typed = typed;
            fits = t.fits;
            framed = subst (λ n. FramesFit image n s.frames (opens_at image s.at)) (ap waits e) t.frames;
          } in
          let m = entered_ok entry (rule t.types) holds.next typed in
          instr_goes i s.at t.types s.stack s.frames h m.0 m.1

  pub begins : Typed image (on 0 [] [])
  begins = record { types = []; inside = omega (arith, sound.ends.long); label = refl; fits = tt; frames = tt }

  -- every step pays for itself, and charges no more than its greatest charge
  pub gets_typed : (s t : State) (charge steps : ℕ) → Gets image slots s t charge steps → Typed image s
      → Typed image t
      × (charge + total image (charge_at image) t ≤ total image (charge_at image) s)
      × (steps + total image (λ _. 1) t ≤ total image (λ _. 1) s)
  gets_typed s t charge steps (Stays e f g) h =
      let a : total image (charge_at image) t ≡ total image (charge_at image) s = ap (total image (charge_at image)) (sym e) in
      let b : total image (λ _. 1) t ≡ total image (λ _. 1) s = ap (total image (λ _. 1)) (sym e) in
      (subst (Typed image) e h, omega arith, omega arith)
  gets_typed s t charge steps (Moves m c d n st g f k) h =
      let w : GoesOn image s (Goes c m) = subst (GoesOn image s) st (step_goes s h) in
      let r = gets_typed m t d n g w.0 in
      let a = w.2 (charge_at image) in
      let b = w.2 (λ _. 1) in
      let c' = w.1 in
      (r.0, omega (arith, r.1, a, c'), omega (arith, r.2, b))

  pub one_left : (s : State) → Typed image s → 1 ≤ total image (λ _. 1) s
  one_left s t = by (slice_get image.code s.at) refl
    where
      by : (o : Option Instr) → slice_get image.code s.at ≡ o → 1 ≤ total image (λ _. 1) s
      by None e = absurd (no_end image.code s.at t.inside e)
      by (Some i) e =
          let p = parts_at image sound s.at i t.inside e in
          let q = path_is image s.at (λ _. 1) i e p.targets in
          omega (arith, q)

  -- from each state that fits and has no more instructions to go, the machine gets to the end
  abbrev EndsWithin : ℕ → Type 0
  EndsWithin n =
      (m : State) (c d : ℕ) → Gets image slots (on 0 [] []) m c d → Typed image m
      → total image (λ _. 1) m ≤ n → HasRun image slots

  -- from each state that fits the machine gets to the end
  ends_by : (n : ℕ) (s : State) (charge steps : ℕ) → Gets image slots (on 0 [] []) s charge steps → Typed image s
      → total image (λ _. 1) s ≤ suc n → EndsWithin n → (q : Next) → step image slots s ≡ q → HasRun image slots
  ends_by n s charge steps g t le more (Goes c m) e =
      let w : GoesOn image s (Goes c m) = subst (GoesOn image s) e (step_goes s t) in
      let pays = w.2 (λ _. 1) in
      more m (charge + c) (steps + 1) (one_more image slots s m c charge steps e g) w.0 (omega arith)
  ends_by n s charge steps g t le more (Ends x) e =
      record {
        outcome = x;
        charged = charge;
        steps = steps + 1;
        run = record { last = s; before = steps; gets = g; ends = e; count = refl };
      }
  ends_by n s charge steps g t le more Stuck e = absurd (subst (GoesOn image s) e (step_goes s t))

  ends_from : (n : ℕ) (s : State) (charge steps : ℕ) → Gets image slots (on 0 [] []) s charge steps → Typed image s
      → total image (λ _. 1) s ≤ n → HasRun image slots
  ends_from zero s charge steps g t le = let z = one_left s t in absurd (omega arith)
  ends_from (suc n) s charge steps g t le =
      ends_by n s charge steps g t le (λ m c d h u l. ends_from n m c d h u l) (step image slots s) refl

  -- no more than is to go from the first instruction
  pub most_charge : (s : State) (charge steps : ℕ) → Gets image slots (on 0 [] []) s charge steps → charge ≤ path_cost image
  most_charge s charge steps g =
      let r = gets_typed (on 0 [] []) s charge steps g begins in
      let a = r.1 in
      omega arith

  pub most_steps : (s : State) (charge steps : ℕ) → Gets image slots (on 0 [] []) s charge steps → steps + 1 ≤ path_steps image
  most_steps s charge steps g =
      let r = gets_typed (on 0 [] []) s charge steps g begins in
      let a = r.2 in
      let b = one_left s r.0 in
      omega arith

  pub runs_within : RunsWithin image slots
  runs_within =
      record {
        never = λ s charge steps g e.
            let r = gets_typed (on 0 [] []) s charge steps g begins in
            subst (GoesOn image s) e (step_goes s r.0);
        charge = λ s charge steps g.
            let dearest = greatest_path image sound (charge_at image) in
            record { most = path_cost image; is = dearest.attained; within = most_charge s charge steps g };
        steps = λ s charge steps g.
            let longest = greatest_path image sound (λ _. 1) in
            record { most = path_steps image; is = longest.attained; within = most_steps s charge steps g };
        outcome = λ s charge steps x g e.
            let r = gets_typed (on 0 [] []) s charge steps g begins in
            subst (GoesOn image s) e (step_goes s r.0);
        ends = ends_from (total image (λ _. 1) (on 0 [] [])) (on 0 [] []) 0 0 (Stays refl refl refl) begins (omega arith);
      }
