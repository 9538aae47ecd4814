use Rattle.std.proofs.Common.{◌+◌, sym, ap, ◌∙◌, subst, arith}
use Rattle.cel_verify.specs.Paths.{IsRouteCharge, IsRouteLength, IsWithin}
use Rattle.cel_verify.specs.Accepted.{IsDeclared}
use Rattle.cel_verify.specs.Depths.{greatest_depth}
use Rattle.cel_verify.proofs.Falling.{no_end}
use Rattle.cel_machine.proofs.Running.{begun, here, deep, finishes, goes, next, outcome_fits, has_top, not_stuck}
use Rattle.cel_machine.proofs.machine.run_on.Goals as goal

pub loop-instr-init : goal.loop-instr-init
loop-instr-init c = (
  begun c.image-image.result.now c.args.slots.now c.make_room.new.self.items c.clear.new.self c.in_ok-make_room.ensures.items
      c.clear.ensures,
  c.in_ok-make_room.ensures.room
      ∙ ap (λ n. n + 1) c.max_depth.ensures.depth
      ∙ ap (λ p. greatest_depth p + 1) (sym c.image-image.ensures.image),
)

pub step-requires-clause-at : goal.step-requires-clause-at
step-requires-clause-at c =
    let l = c.loop-instr in
    let i = c.image-image in
    let run = here c.args.program.now i.result.now c.args.slots.now i.ensures.accepted i.ensures.image c.requires in
    let h = run l.position.at l.stack.items l.frames l.charged l.steps l.invariant.0 in
    omega (arith, h.room)

pub step-requires-clause-room : goal.step-requires-clause-room
step-requires-clause-room c =
    let l = c.loop-instr in
    let i = c.image-image in
    let run = deep c.args.program.now i.result.now c.args.slots.now i.ensures.accepted i.ensures.image c.requires in
    let h = run l.position.at l.stack.items l.frames l.charged l.steps l.invariant.0 in
    omega (arith, l.invariant.1)

pub overflow_add-charged : goal.overflow_add-charged
overflow_add-charged c =
    let l = c.loop-instr in
    let i = c.image-image in
    let run = next c.args.program.now i.result.now c.args.slots.now i.ensures.accepted i.ensures.image c.requires in
    let turn = run l.position.at l.stack.items l.frames l.charged l.steps l.invariant.0 c.in-Some.instr.now c.in_ok-step.field-0 in
    let after = turn c.step.new.position c.step.new.stack.items c.step.new.frames (sym c.in-Some.ensures.value)
    c.in_ok-step.ensures.acts in
    let t = after c.in-GoesOn.is in
    omega (arith, t.cheap)

pub overflow_add-steps : goal.overflow_add-steps
overflow_add-steps c =
    let l = c.loop-instr in
    let i = c.image-image in
    let run = here c.args.program.now i.result.now c.args.slots.now i.ensures.accepted i.ensures.image c.requires in
    let h = run l.position.at l.stack.items l.frames l.charged l.steps l.invariant.0 in
    omega (arith, h.few)

pub loop-instr-smaller : goal.loop-instr-smaller
loop-instr-smaller c =
    let l = c.loop-instr in
    let i = c.image-image in
    let run = here c.args.program.now i.result.now c.args.slots.now i.ensures.accepted i.ensures.image c.requires in
    let h = run l.position.at l.stack.items l.frames l.charged l.steps l.invariant.0 in
    omega (arith, h.within)

pub loop-instr-preserved : goal.loop-instr-preserved
loop-instr-preserved c =
    let l = c.loop-instr in
    let i = c.image-image in
    let run = goes c.args.program.now i.result.now c.args.slots.now i.ensures.accepted i.ensures.image c.requires in
    let turn = run l.position.at l.stack.items l.frames l.charged l.steps l.invariant.0 c.in-Some.instr.now c.in_ok-step.field-0 in
    let after = turn c.step.new.position c.step.new.stack.items c.step.new.frames (sym c.in-Some.ensures.value)
    c.in_ok-step.ensures.acts in (
      after c.in-GoesOn.is,
      c.step.ensures.room ∙ l.invariant.1,
    )

pub overflow_add-result : goal.overflow_add-result
overflow_add-result c =
    let l = c.loop-instr in
    let i = c.image-image in
    let run = here c.args.program.now i.result.now c.args.slots.now i.ensures.accepted i.ensures.image c.requires in
    let h = run l.position.at l.stack.items l.frames l.charged l.steps l.invariant.0 in
    omega (arith, h.few)

pub returns-in-IsOver-clause-run : goal.returns-in-IsOver-clause-run
returns-in-IsOver-clause-run c =
    let l = c.loop-instr in
    let i = c.image-image in
    let run = finishes c.args.program.now i.result.now c.args.slots.now i.ensures.accepted i.ensures.image c.requires in
    let turn = run l.position.at l.stack.items l.frames l.charged l.steps l.invariant.0 c.in-Some.instr.now c.in_ok-step.field-0 in
    let after = turn c.step.new.position c.step.new.stack.items c.step.new.frames (sym c.in-Some.ensures.value)
    c.in_ok-step.ensures.acts in
    after c.in_ok-outcome-in-IsOver.outcome c.in-IsOver.is c.in_ok-outcome-in-IsOver.ensures

pub returns-in-IsOver-clause-fits : goal.returns-in-IsOver-clause-fits
returns-in-IsOver-clause-fits c =
    let l = c.loop-instr in
    let i = c.image-image in
    let run = outcome_fits c.args.program.now i.result.now c.args.slots.now i.ensures.accepted i.ensures.image c.requires in
    let turn = run l.position.at l.stack.items l.frames l.charged l.steps l.invariant.0 c.in-Some.instr.now c.in_ok-step.field-0 in
    let after = turn c.step.new.position c.step.new.stack.items c.step.new.frames (sym c.in-Some.ensures.value)
    c.in_ok-step.ensures.acts in
    after c.in_ok-outcome-in-IsOver.outcome c.in-IsOver.is c.in_ok-outcome-in-IsOver.ensures

pub returns-in-IsOver-clause-steps : goal.returns-in-IsOver-clause-steps
returns-in-IsOver-clause-steps c =
    let l = c.loop-instr in
    let i = c.image-image in
    let run = here c.args.program.now i.result.now c.args.slots.now i.ensures.accepted i.ensures.image c.requires in
    let h = run l.position.at l.stack.items l.frames l.charged l.steps l.invariant.0 in
    let long = subst (λ p. IsWithin (IsRouteLength p) (l.steps + 1)) i.ensures.image h.long in
    record { most = long.most; is = long.is; within = omega (arith, long.within) }

pub returns-in-IsOver-clause-charged : goal.returns-in-IsOver-clause-charged
returns-in-IsOver-clause-charged c =
    let l = c.loop-instr in
    let i = c.image-image in
    let run = here c.args.program.now i.result.now c.args.slots.now i.ensures.accepted i.ensures.image c.requires in
    let h = run l.position.at l.stack.items l.frames l.charged l.steps l.invariant.0 in
    let cost = subst (λ p. IsWithin (IsRouteCharge p) l.charged) i.ensures.image h.cost in
    record { most = cost.most; is = cost.is; within = omega (arith, cost.within) }

pub returns-in-IsOver-clause-within_budget : goal.returns-in-IsOver-clause-within_budget
returns-in-IsOver-clause-within_budget c =
    let l = c.loop-instr in
    let i = c.image-image in
    let run = here c.args.program.now i.result.now c.args.slots.now i.ensures.accepted i.ensures.image c.requires in
    let h = run l.position.at l.stack.items l.frames l.charged l.steps l.invariant.0 in
    omega (arith, h.cheap)

pub returns-in-IsOver-clause-declared : goal.returns-in-IsOver-clause-declared
returns-in-IsOver-clause-declared c most declares =
    let l = c.loop-instr in
    let i = c.image-image in
    let run = here c.args.program.now i.result.now c.args.slots.now i.ensures.accepted i.ensures.image c.requires in
    let h = run l.position.at l.stack.items l.frames l.charged l.steps l.invariant.0 in
    let cost = subst (λ p. IsWithin (IsRouteCharge p) l.charged) i.ensures.image h.cost in
    let says = subst (λ d. IsDeclared c.args.program.now d) declares i.ensures.accepted.declared in
    let dearest = says.0 cost.most cost.is in
    (omega (arith, cost.within, dearest), says.1)

pub unreachable-requires : goal.unreachable-requires
unreachable-requires c =
    let l = c.loop-instr in
    let i = c.image-image in
    let run = not_stuck c.args.program.now i.result.now c.args.slots.now i.ensures.accepted i.ensures.image c.requires in
    let turn = run l.position.at l.stack.items l.frames l.charged l.steps l.invariant.0 c.in-Some.instr.now c.in_ok-step.field-0 in
    let after = turn c.step.new.position c.step.new.stack.items c.step.new.frames (sym c.in-Some.ensures.value)
    c.in_ok-step.ensures.acts in
    after c.in-IsStuckHere.is

pub unreachable-requires-2 : goal.unreachable-requires-2
unreachable-requires-2 c =
    let l = c.loop-instr in
    let i = c.image-image in
    let run = here c.args.program.now i.result.now c.args.slots.now i.ensures.accepted i.ensures.image c.requires in
    let h = run l.position.at l.stack.items l.frames l.charged l.steps l.invariant.0 in
    no_end i.result.now.code l.position.at h.inside (sym c.in_default.ensures.value)

pub taken-requires : goal.taken-requires
taken-requires c =
    let l = c.loop-instr in
    let i = c.image-image in
    let run = has_top c.args.program.now i.result.now c.args.slots.now i.ensures.accepted i.ensures.image c.requires in
    let turn = run l.position.at l.stack.items l.frames l.charged l.steps l.invariant.0 c.in-Some.instr.now c.in_ok-step.field-0 in
    let after = turn c.step.new.position c.step.new.stack.items c.step.new.frames (sym c.in-Some.ensures.value)
    c.in_ok-step.ensures.acts in
    after c.in-IsOver.is
