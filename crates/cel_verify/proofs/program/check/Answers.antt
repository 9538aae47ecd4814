use Rattle.std.proofs.Common.{◌≡◌, ◌-◌, Some, None, refl, sym, ap, ◌∙◌, rules}
use Rattle.std.proofs.lemmas.Result.{err_from_is_err_and}
use Rattle.cel_verify.specs.Sound.{EndsOnce}
use Rattle.cel_verify.specs.declared.fault.VerifyRule.TheVariants.{BadTarget, OverBudget}
use Rattle.cel_verify.specs.Accepted.{IsCounted, misplaced_entry, fault}
use Rattle.cel_verify.proofs.Exact.{accepted, exact, out_of_place, too_dear}
use Rattle.cel_verify.proofs.Labels.{sound_by}
use Rattle.cel_verify.proofs.Walking.{walk_refused}
use Rattle.cel_verify.proofs.program.check.Goals as goal

pub returns-in_err-measures-clause-accepted : goal.returns-in_err-measures-clause-accepted
returns-in_err-measures-clause-accepted c =
    let p = err_from_is_err_and c.from_residual.result c.from_residual.ensures.1 in
    let counted : IsCounted c.args.image.now = search rules in
    let ends : EndsOnce c.args.image.now.code = search rules in
    rw (p.1, p.2) (walk_refused c.args.image.now c.in_err-measures.field-0.0 counted ends c.in_err-measures.ensures.rules)

pub returns-in-Some-first_misplaced-clause-accepted : goal.returns-in-Some-first_misplaced-clause-accepted
returns-in-Some-first_misplaced-clause-accepted c =
    let image = c.args.image.now in
    let at = c.in-Some-first_misplaced.at in
    let counted : IsCounted image = search rules in
    let ends : EndsOnce image.code = search rules in
    let sound = sound_by image ends c.in_ok-measures.ensures.rules in
    let placed : misplaced_entry image ≡ Some at = search rules in
    rw c.refuse-in-Some-first_misplaced.ensures (out_of_place image (fault BadTarget at) counted sound placed refl)

pub returns-then-is_over-clause-accepted : goal.returns-then-is_over-clause-accepted
returns-then-is_over-clause-accepted c =
    let image = c.args.image.now in
    let counted : IsCounted image = search rules in
    let ends : EndsOnce image.code = search rules in
    let sound = sound_by image ends c.in_ok-measures.ensures.rules in
    let placed : misplaced_entry image ≡ None = search rules in
    let is = ap (λ n. fault OverBudget (n - 1)) c.len.ensures in
    rw c.refuse-then-is_over.ensures
    (too_dear image c.in_ok-bounds.bounds (fault OverBudget (c.len.result - 1)) counted sound placed c.in_ok-bounds.ensures
    (sym c.is_over.ensures ∙ c.if-is_over.true) is)

pub bounded-requires-clause-sound : goal.bounded-requires-clause-sound
bounded-requires-clause-sound c =
    let image = c.args.image.now in
    let ends : EndsOnce image.code = search rules in
    sound_by image ends c.in_ok-measures.ensures.rules

pub returns-clause-accepted : goal.returns-clause-accepted
returns-clause-accepted c =
    let image = c.args.image.now in
    let counted : IsCounted image = search rules in
    let ends : EndsOnce image.code = search rules in
    let sound = sound_by image ends c.in_ok-measures.ensures.rules in
    let placed : misplaced_entry image ≡ None = search rules in
    let b = c.in_ok-bounds.bounds in
    accepted image b counted sound placed c.in_ok-bounds.ensures (sym c.is_over.ensures ∙ c.if-is_over.false)

pub returns-clause-bounds : goal.returns-clause-bounds
returns-clause-bounds c =
    let image = c.args.image.now in
    let counted : IsCounted image = search rules in
    let ends : EndsOnce image.code = search rules in
    let sound = sound_by image ends c.in_ok-measures.ensures.rules in
    let placed : misplaced_entry image ≡ None = search rules in
    let b = c.in_ok-bounds.bounds in
    exact image b (accepted image b counted sound placed c.in_ok-bounds.ensures (sym c.is_over.ensures ∙ c.if-is_over.false))
    c.in_ok-bounds.ensures
