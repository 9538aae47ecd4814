-- The bounds of an accepted image are below the ceiling.
use Rattle.std.proofs.Common.{◌≡◌, ℕ, ◌-◌, ◌<◌, ◌≤◌, min, length, Bool, true, false, ◌||◌, nat_lt, Option, Some, None}
use Rattle.std.proofs.Common.{refl, sym, subst, arith}
use Rattle.std.proofs.lemmas.Bool.{ltb-false, ltb-true, or_parts}
use Rattle.cel_code.specs.declared.image.Image.{Image}
use Rattle.cel_verify.specs.declared.bounds.Bounds.{Bounds}
use Rattle.cel_verify.specs.Sound.{IsSound}
use Rattle.cel_verify.specs.Paths.{IsRouteCharge, IsPathCost, IsPathSteps}
use Rattle.cel_verify.specs.Depths.{greatest_depth}
use Rattle.cel_verify.specs.Accepted.{IsCounted, IsAccepted, IsDeclared, IsRefused, AreBounds, AreCapped}
use Rattle.cel_verify.specs.Accepted.{Misplaced, TooDear, DeclaresLess, DeclaresMore}
use Rattle.cel_verify.specs.Accepted.{misplaced_entry, fault, budget, is_over}
use Rattle.cel_verify.specs.declared.fault.VerifyFault.{VerifyFault}
use Rattle.base_containers.specs.declared.failed.Failed.TheVariants.{Fault}
use Rattle.cel_verify.specs.declared.fault.VerifyRule.TheVariants.{BadTarget, OverBudget}
use Rattle.cel_verify.specs.Walked.{ceiling}
use Rattle.cel_verify.proofs.Bounded.{greatest_within}
use Rattle.cel_verify.proofs.Labels.{walks}
use Rattle.cel_verify.proofs.Routes.{greatest_path}
use Rattle.cel_verify.proofs.StepsFit.{steps_fit}

below : (n m cap : ℕ) → m ≡ min n cap → n ≤ cap → m ≡ n
below n m cap e h = omega arith

under : (n m most cap : ℕ) → m ≡ min n cap → m ≤ most → most < cap → n ≤ most
under n m most cap e h k = omega arith

-- a cost that is over no limit is that of the dearest route, which is within what is declared
module _ (image : Image) (b : Bounds) (k : AreCapped image b) where
  dearest : (most : ℕ) → b.cost ≤ most → most ≤ budget → (charge : ℕ) → IsRouteCharge image charge → charge ≤ most
  dearest most h within charge r =
      let le = k.cost.is.bound charge r in
      let real = under k.cost.most b.cost most ceiling k.cost.capped h (omega (arith, within)) in
      omega arith

  within_budget : (d : Option ℕ) → is_over b.cost d ≡ false → b.cost ≤ budget
  within_budget None h = ltb-false budget b.cost h
  within_budget (Some most) h =
      let p = or_parts (nat_lt most b.cost) (nat_lt budget most) h in
      let one = ltb-false most b.cost p.0 in
      let two = ltb-false budget most p.1 in
      omega (arith, one, two)

  within_declared : (d : Option ℕ) → is_over b.cost d ≡ false → IsDeclared image d
  within_declared None h = tt
  within_declared (Some most) h =
      let p = or_parts (nat_lt most b.cost) (nat_lt budget most) h in
      (dearest most (ltb-false most b.cost p.0) (ltb-false budget most p.1), ltb-false budget most p.1)

pub accepted : (image : Image) (b : Bounds) → IsCounted image → IsSound image → misplaced_entry image ≡ None → AreCapped image b
    → is_over b.cost image.declared ≡ false → IsAccepted image
accepted image b counted sound placed k h =
    record {
      counted = counted;
      sound = sound;
      placed = placed;
      cheap = dearest image b k budget (within_budget image b k image.declared h) (omega arith);
      declared = within_declared image b k image.declared h;
    }

pub exact : (image : Image) (b : Bounds) → IsAccepted image → AreCapped image b → AreBounds image b
exact image b a k =
    let fit = steps_fit image a in
    let deep = greatest_within image (walks image a.sound) in
    let cheap = a.cheap k.cost.most k.cost.is.attained in
    let few = (greatest_path image (walks image a.sound) (λ _. 1)).bound k.steps.most k.steps.is.attained in
    let cost = below k.cost.most b.cost ceiling k.cost.capped (omega arith) in
    let steps = below k.steps.most b.steps ceiling k.steps.capped (omega arith) in
    record {
      cost = subst (IsPathCost image) (sym cost) k.cost.is;
      steps = subst (IsPathSteps image) (sym steps) k.steps.is;
      depth = below (greatest_depth image) b.depth ceiling k.depth (omega arith);
      nesting = k.nesting;
    }

-- an entry that is out of its place
pub out_of_place : (image : Image) (f : VerifyFault) → IsCounted image → IsSound image → misplaced_entry image ≡ Some f.at
    → f.rule ≡ BadTarget → IsRefused image (Fault f)
out_of_place image f counted sound placed is = (Misplaced counted sound placed is, λ a. let none = a.placed in cc)

-- if bounds are over the budget, or over what is declared, there is a route that charges too much
pub too_dear : (image : Image) (b : Bounds) (f : VerifyFault) → IsCounted image → IsSound image → misplaced_entry image ≡ None
    → AreCapped image b → is_over b.cost image.declared ≡ true → f ≡ fault OverBudget (length image.code - 1) → IsRefused image (Fault f)
too_dear image b f counted sound placed k h is = at image.declared refl h
  where
    less : (most : ℕ) → image.declared ≡ Some most → most < b.cost → IsRefused image (Fault f)
    less most e h =
        let over : most < k.cost.most = omega (arith, k.cost.capped) in (
          DeclaresLess counted sound placed most k.cost.most e k.cost.is.attained over is,
          λ a. let le = (subst (IsDeclared image) e a.declared).0 k.cost.most k.cost.is.attained in omega arith,
        )

    more : (most : ℕ) → image.declared ≡ Some most → budget < most → IsRefused image (Fault f)
    more most e h = (
      DeclaresMore counted sound placed most e h is,
      λ a. let le = (subst (IsDeclared image) e a.declared).1 in omega arith,
    )

    which : (most : ℕ) → image.declared ≡ Some most → (x y : Bool) → nat_lt most b.cost ≡ x → nat_lt budget most ≡ y
        → (x || y) ≡ true → IsRefused image (Fault f)
    which most e true y one two h = less most e (ltb-true most b.cost one)
    which most e false true one two h = more most e (ltb-true budget most two)
    which most e false false one two h = absurd cc

    at : (d : Option ℕ) → image.declared ≡ d → is_over b.cost d ≡ true → IsRefused image (Fault f)
    at None e h =
        let dear : budget < b.cost = ltb-true budget b.cost h in
        let over : budget < k.cost.most = omega (arith, k.cost.capped) in (
          TooDear counted sound placed k.cost.most k.cost.is.attained over is,
          λ a. let le = a.cheap k.cost.most k.cost.is.attained in omega arith,
        )
    at (Some most) e h = which most e (nat_lt most b.cost) (nat_lt budget most) refl refl h
