-- Where jumps arrive, and in which loops' bodies instructions are, found once for the whole code.
use Rattle.std.specs.Prelude.{◌≡◌, ℕ, ◌+◌, ◌<◌, Bool, false, ◌||◌, nat_eq, List}
use Rattle.std.specs.Prelude.{length, reverse, slice_get, slice_index, slice_index_or, Option, Some, None}
use Rattle.cel_code.specs.declared.instr.Instr.{Instr}
use Rattle.cel_code.specs.declared.image.Image.{Image}
use Rattle.cel_code.specs.declared.image.Target.{Target}
use Rattle.cel_verify.specs.declared.arrivals.Arrivals.{Arrivals}
use Rattle.cel_verify.specs.StackTypes.{StackTypes}
use Rattle.cel_verify.specs.Sound.{entry_in, some_of, is_jumped}
use Rattle.cel_verify.specs.Bodies.{innermost}

-- the types of a target, the top first
abbrev pub types_of : Option Target → Option StackTypes
types_of None = None
types_of (Some e) = Some (reverse e.types)

-- for each of so many instructions, the number of the target that is the first of these there
pub record AreFirsts (all these : List Target) (count : ℕ) (firsts : List ℕ) : Type 0 where
  pub long : length firsts ≡ count
  pub each : (at : ℕ) → at < count → entry_in these at ≡ types_of (slice_get all (slice_index firsts at))

-- for each of so many instructions, whether one of these jumps to it
pub record AreJumped (code : List Instr) (count : ℕ) (jumped : List Bool) : Type 0 where
  pub long : length jumped ≡ count
  pub each : (at : ℕ) → at < count → slice_index_or jumped at false ≡ is_jumped code at

-- for each of so many instructions, the loop whose body it is in
pub record AreBodies (code : List Instr) (count : ℕ) (bodies : List (Option ℕ)) : Type 0 where
  pub long : length bodies ≡ count
  pub each : (at : ℕ) → at < count → slice_index_or bodies at None ≡ innermost code at

-- what is found of an image
pub record AreArrivals (image : Image) (arrivals : Arrivals) : Type 0 where
  pub firsts : AreFirsts image.targets image.targets (length image.code + 1) arrivals.firsts.items
  pub jumped : AreJumped image.code (length image.code) arrivals.jumped.items
  pub bodies : AreBodies image.code (length image.code) arrivals.bodies.items

-- these are marked, and the others are as they were
pub record Marks (ts : List ℕ) (old new : List Bool) : Type 0 where
  pub long : length new ≡ length old
  pub each : (at : ℕ) → at < length old → slice_index_or new at false ≡ (some_of (λ t. nat_eq t at) ts || slice_index_or old at false)
