use Rattle.std.proofs.Common.{◌≡◌, ◌+◌, ◌<◌, List, ◌∷◌, [], ◌++◌, length, take, refl, sym, subst, rules, arith}
use Rattle.std.proofs.lemmas.List.{take_all}
use Rattle.std.proofs.lemmas.Option.{slice_get_read}
use Rattle.vap_watch.proofs.Alike.{one_more}
use Rattle.vap_plane_steps.specs.declared.step.Step.{Step}
use Rattle.vap_plane_steps.specs.Steps.{Runs, opening}
use Rattle.vap_plane_steps.proofs.Played.{played, run_more}
use Rattle.vap_plane_steps.proofs.world.play.Goals as goal

pub loop-step-preserved : goal.loop-step-preserved
loop-step-preserved c =
    let lt : c.loop-step.step-index < length c.args.steps.now = search rules in
    let at = slice_get_read c.args.steps.now _ c.loop-step.step-index c.step-item.result refl lt c.step-item.is in
    let e = one_more c.args.steps.now c.loop-step.step-index c.step-item.result at in (
      subst (λ (xs : List Step). Runs xs opening c.take.new.self) (sym e)
          (run_more _ _ opening c.loop-step.world c.take.new.self c.loop-step.invariant.0 c.in_ok-take.ensures.after),
      (let i = c.loop-step.invariant.1 in let t = c.take.ensures.entered in omega arith),
    )

pub returns : goal.returns
returns c =
    played c.args.steps.now c.loop-step.world
    (subst (λ (xs : List Step). Runs xs opening c.loop-step.world) (take_all c.loop-step.step-index c.args.steps.now (search rules))
    c.loop-step.invariant.0)
