-- The run of an accepted image.
use Rattle.std.proofs.Common.{◌≡◌, ℕ, ◌+◌, ◌-◌, ◌^◌, ◌<◌, ◌≤◌, min, true, List}
use Rattle.std.proofs.Common.{[], ◌∷◌, length, Some, refl, sym, ap, ◌∙◌, subst, arith}
use Rattle.std.specs.Prelude.{slice_get}
use Rattle.cel_code.specs.declared.instr.Instr.{Instr}
use Rattle.cel_code.specs.declared.image.Image.{Image}
use Rattle.cel_operators.specs.Outcomes.{Outcome, slots_fit}
use Rattle.cel_code.specs.Machine.{Frame, State, on, Next, Goes, Ends, Stuck, act, act_at, step, inputs_of, Gets, Stays, Run}
use Rattle.cel_machine.specs.declared.step.Move.{Move}
use Rattle.cel_machine.specs.declared.step.Move.TheVariants.{IsOver, IsStuckHere}
use Rattle.cel_machine.specs.declared.step.Move.TheVariants as move
use Rattle.cel_machine.specs.declared.position.Position.{Position}
use Rattle.cel_verify.specs.StackTypes.{Fits}
use Rattle.cel_verify.specs.Sound.{IsWalked}
use Rattle.cel_verify.specs.Paths.{charge_at, IsRouteCharge, IsRouteLength, IsWithin}
use Rattle.cel_verify.specs.Accepted.{IsAccepted, budget}
use Rattle.cel_machine.specs.Follow.{metered, next_of, end_of, top_of}
use Rattle.cel_verify.specs.Depths.{greatest_depth}
use Rattle.cel_verify.proofs.Labels.{walks}
use Rattle.cel_verify.proofs.StepsFit.{cost_fits, steps_fit}
use Rattle.cel_verify.proofs.ToGo.{path_steps, total, GoesOn}
use Rattle.cel_verify.proofs.Depths.{never_more}
use Rattle.cel_verify.proofs.Steps.{begins, gets_typed, most_charge, most_steps, runs_within, step_goes}
use Rattle.cel_verify.proofs.Turns.{one_more}

-- what an instruction does, as a step
stepped : (image : Image) (slots : List Outcome) (at : ℕ) (i : Instr) (stack stack' : List Outcome) (frames frames' : List Frame)
    (m : Move) (there : Position)
    → slice_get image.code at ≡ Some i → metered (act (inputs_of image slots) i at stack frames) ≡ next_of m there stack' frames'
    → metered (step image slots (on at stack frames)) ≡ next_of m there stack' frames'
stepped image slots at i stack stack' frames frames' m there h e = ap (λ o. metered (act_at (inputs_of image slots) o at stack frames)) h
    ∙ e

-- no step yet, with nothing on the stack and no open loop
pub begun : (image : Image) (slots : List Outcome) (stack : List Outcome) (frames : List Frame) → stack ≡ [] → frames ≡ []
    → Gets image slots (on 0 [] []) (on 0 stack frames) 0 0
begun image slots stack frames e f = rw (e, f) (Stays refl refl refl)

-- a run that is over ends with what is on top
over : (stack : List Outcome) (frames : List Frame) (x : Outcome) → top_of stack ≡ Some x → end_of stack frames ≡ Ends x
over [] frames x e = cc
over (y ∷ stack) frames x e = cc

-- something is on the stack, if the run is not stuck at its end
some_top : (stack : List Outcome) (frames : List Frame) → (end_of stack frames ≡ Stuck → ⊥) → 0 < length stack
some_top [] frames h = absurd (h refl)
some_top (y ∷ stack) frames h = omega arith

-- where the run is
pub record IsAt (image : Image) (at charged steps : ℕ) : Type 0 where
  pub inside : at < length image.code
  pub room : at + 1 < 65537
  pub within : steps + 1 ≤ path_steps image
  pub few : steps + 1 < 2 ^ 64
  pub long : IsWithin (IsRouteLength image) (steps + 1)
  pub cost : IsWithin (IsRouteCharge image) charged
  pub cheap : charged ≤ budget

module _ (p image : Image) (slots : List Outcome) (accepted : IsAccepted p) (is : image ≡ p) (filled : slots_fit p.slots slots ≡ true) where
  walked : IsWalked p
  walked = walks p accepted.sound

  state_at : (s : State) (charged steps : ℕ) → Gets p slots (on 0 [] []) s charged steps → IsAt p s.at charged steps
  state_at s charged steps g =
      let r = gets_typed p slots walked filled (on 0 [] []) s charged steps g (begins p slots walked filled) in
      let w = runs_within p slots walked filled in
      record {
        inside = r.0.inside;
        room = omega (arith, r.0.inside, accepted.counted.code);
        within = most_steps p slots walked filled s charged steps g;
        few = omega (arith, most_steps p slots walked filled s charged steps g, steps_fit p accepted);
        long = w.steps s charged steps g;
        cost = w.charge s charged steps g;
        cheap = omega (arith, most_charge p slots walked filled s charged steps g, cost_fits p accepted);
      }

  metered_next : (s : State) (n : Next) → total p (charge_at p) s ≤ budget → GoesOn p s n → metered n ≡ n
  metered_next s (Goes charge to) le h =
      let pays = h.2 (charge_at p) in
      let c : min charge (2 ^ 64 - 1) ≡ charge = omega (arith, h.1) in
      ap (λ k. Goes k to) c
  metered_next s (Ends x) le h = refl
  metered_next s Stuck le h = refl

  metered_at : (s : State) (charged steps : ℕ) → Gets p slots (on 0 [] []) s charged steps
      → metered (step p slots s) ≡ step p slots s
  metered_at s charged steps g =
      let r = gets_typed p slots walked filled (on 0 [] []) s charged steps g (begins p slots walked filled) in
      let a = r.1 in
      metered_next s (step p slots s) (omega (arith, cost_fits p accepted)) (step_goes p slots walked filled s r.0)

  module _ (at : ℕ) (stack : List Outcome) (frames : List Frame) (charged steps : ℕ)
      (g : Gets image slots (on 0 [] []) (on at stack frames) charged steps) where
    gets : Gets p slots (on 0 [] []) (on at stack frames) charged steps
    gets = subst (λ i. Gets i slots (on 0 [] []) (on at stack frames) charged steps) is g

    pub here : IsAt image at charged steps
    here = subst (λ i. IsAt i at charged steps) (sym is) (state_at (on at stack frames) charged steps gets)

    -- a step charges no more than the budget, so that its charge is counted whole
    metered_is : metered (step image slots (on at stack frames)) ≡ step image slots (on at stack frames)
    metered_is =
        let s = on at stack frames in
        subst (λ j. metered (step j slots s) ≡ step j slots s) (sym is) (metered_at s charged steps gets)

    -- no more operands than at any instruction
    pub deep : length stack ≤ greatest_depth image
    deep =
        subst (λ i. length stack ≤ greatest_depth i) (sym is)
        (never_more p slots walked filled (on at stack frames) charged steps gets)

    module _ (i : Instr) (m : Move) (there : Position) (stack' : List Outcome) (frames' : List Frame)
        (hi : slice_get image.code at ≡ Some i)
        (e : metered (act (inputs_of image slots) i at stack frames) ≡ next_of m there stack' frames') where
      steps_to : step image slots (on at stack frames) ≡ next_of m there stack' frames'
      steps_to = sym metered_is ∙ stepped image slots at i stack stack' frames frames' m there hi e

      -- the step, if the move is known
      moved : (n : Move) → m ≡ n → step image slots (on at stack frames) ≡ next_of n there stack' frames'
      moved n q = steps_to ∙ ap (λ k. next_of k there stack' frames') q

      pub goes : m ≡ move.GoesOn
          → Gets image slots (on 0 [] []) (on there.at stack' frames') (charged + there.charge) (steps + 1)
      goes q =
          one_more image slots (on at stack frames) (on there.at stack' frames') there.charge charged steps (moved move.GoesOn q) g

      pub next : m ≡ move.GoesOn → IsAt image there.at (charged + there.charge) (steps + 1)
      next q =
          let s = on there.at stack' frames' in
          let h = subst (λ i. Gets i slots (on 0 [] []) s (charged + there.charge) (steps + 1)) is (goes q) in
          subst (λ i. IsAt i there.at (charged + there.charge) (steps + 1)) (sym is) (state_at s (charged + there.charge) (steps + 1) h)

      -- the step, if the run is over
      ended : (x : Outcome) → m ≡ IsOver → top_of stack' ≡ Some x → step image slots (on at stack frames) ≡ Ends x
      ended x q t = moved IsOver q ∙ over stack' frames' x t

      pub finishes : (x : Outcome) → m ≡ IsOver → top_of stack' ≡ Some x → Run p slots x charged (steps + 1)
      finishes x q t =
          let run : Run image slots x charged (steps + 1) =
          record { last = on at stack frames; before = steps; gets = g; ends = ended x q t; count = refl } in
          subst (λ i. Run i slots x charged (steps + 1)) is run

      pub outcome_fits : (x : Outcome) → m ≡ IsOver → top_of stack' ≡ Some x → Fits x p.result
      outcome_fits x q t =
          let w = runs_within p slots walked filled in
          w.outcome (on at stack frames) charged steps x gets
          (subst (λ i. step i slots (on at stack frames) ≡ Ends x) is (ended x q t))

      never_stuck : step image slots (on at stack frames) ≡ Stuck → ⊥
      never_stuck h =
          let w = runs_within p slots walked filled in
          w.never (on at stack frames) charged steps gets (subst (λ i. step i slots (on at stack frames) ≡ Stuck) is h)

      pub not_stuck : m ≡ IsStuckHere → ⊥
      not_stuck q = never_stuck (moved IsStuckHere q)

      pub has_top : m ≡ IsOver → 0 < length stack'
      has_top q = some_top stack' frames' (λ e. never_stuck (moved IsOver q ∙ e))
