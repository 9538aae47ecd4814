-- The steps of an accepted image are a number of 64 bits.
use Rattle.std.proofs.Common.{ℕ, ◌+◌, ◌*◌, ◌^◌, ◌<◌, ◌≤◌, length, arith, mul-le-mul}
use Rattle.cel_code.specs.declared.image.Image.{Image}
use Rattle.cel_verify.specs.Paths.{charge_at}
use Rattle.cel_verify.specs.Accepted.{IsAccepted, budget}
use Rattle.cel_verify.proofs.Labels.{walks}
use Rattle.cel_verify.proofs.Routes.{greatest_path}
use Rattle.cel_verify.proofs.StepBound.{steps_bound}
use Rattle.cel_verify.proofs.ToGo.{path_cost, path_steps}

most_steps : (n cost many dear : ℕ) → n ≤ many → cost ≤ dear → n * (1 + cost) ≤ many * (1 + dear)
most_steps n cost many dear few cheap = mul-le-mul few (omega arith)

-- an accepted image's dearest route charges no more than the budget
pub cost_fits : (image : Image) → IsAccepted image → path_cost image ≤ budget
cost_fits image a = a.cheap (path_cost image) (greatest_path image (walks image a.sound) (charge_at image)).attained

-- an accepted image's longest route is a number of 64 bits
pub steps_fit : (image : Image) → IsAccepted image → path_steps image < 2 ^ 64
steps_fit image a =
    let few = steps_bound image (walks image a.sound) in
    let most = most_steps (length image.code) (path_cost image) 65536 10000000 a.counted.code (cost_fits image a) in
    omega arith
