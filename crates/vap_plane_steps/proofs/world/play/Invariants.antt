use Rattle.std.proofs.Common.{◌≡◌, ◌≤◌, take}
use Rattle.vap_plane_steps.specs.Steps.{Runs, opening}
use Rattle.vap_plane_steps.proofs.world.play.Given as goal

abbrev pub invariant-loop-step : goal.invariant-loop-step
invariant-loop-step l = Runs (take l.step-index l.steps) opening l.world × (l.world.entered ≤ l.step-index)
