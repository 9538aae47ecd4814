-- States that fit their labels, and what every run keeps to.
use Rattle.std.specs.Prelude.{◌≡◌, ◌≢◌, ℕ, true, ◌+◌, ◌<◌, ◌≤◌, List, [], ◌∷◌, ◌++◌, length, Option, Some, Ok, slice_get}
use Rattle.std.specs.List.{list_all}
use Rattle.cel_value.specs.declared.cel_type.CelType.{CelType}
use Rattle.cel_value.specs.declared.cel_type.CelType as type
use Rattle.cel_value.specs.CelType.{fits, assignable}
use Rattle.cel_operators.specs.Loops.{loop_type, result_of}
use Rattle.cel_code.specs.declared.instr.Instr.{Instr}
use Rattle.cel_code.specs.declared.instr.Instr.TheVariants.{Item}
use Rattle.cel_code.specs.declared.image.Image.{Image}
use Rattle.cel_operators.specs.Outcomes.{Outcome}
use Rattle.cel_code.specs.Machine.{Frame, State, on, Ends, Stuck, step, Gets, Run}
use Rattle.cel_verify.specs.StackTypes.{StackTypes, Fits, AllFit, all_assignable}
use Rattle.cel_verify.specs.declared.open_loop.Open.{Open}
use Rattle.cel_verify.specs.Sound.{label_at, below_all, no_items}
use Rattle.cel_verify.specs.Paths.{IsRouteCharge, IsRouteLength, IsWithin}

-- the types of an instruction's label
abbrev pub types_at : Image → ℕ → Option StackTypes
types_at image at = (label_at image at).types

-- the open loops of an instruction's label
abbrev pub opens_at : Image → ℕ → List Open
opens_at image at = (label_at image at).opens

-- 0 if the present item is still to be taken, otherwise 1
abbrev pub waits : Option Instr → ℕ
waits (Some Item) = 0
waits _ = 1

-- the same, of an instruction by its number
abbrev pub waits_at : Image → ℕ → ℕ
waits_at image at = waits (slice_get image.code at)

-- an open loop in its image: its ITEM, where it leads, and the type of what is there on top, which takes the result of no
-- items
pub record LoopStands (image : Image) (o : Open) (os : List Open) : Type 0 where
  pub item : slice_get image.code (o.start + 1) ≡ Some Item
  pub item_inside : o.start + 1 < length image.code
  pub item_types : types_at image (o.start + 1) ≡ Some []
  pub item_opens : opens_at image (o.start + 1) ≡ o ∷ os
  pub exit_inside : o.exit < length image.code
  pub exit_types : types_at image o.exit ≡ Some o.after
  pub exit_opens : opens_at image o.exit ≡ os
  pub exit_waits : waits_at image o.exit ≡ 1
  pub top : CelType
  pub rest : StackTypes
  pub after : o.after ≡ top ∷ rest
  pub below : all_assignable o.below rest ≡ true
  pub empty : (s : CelType) → loop_type o.mode no_items type.Never ≡ Ok s → assignable s top ≡ true

-- a frame that fits an open loop: its items are of the loop's type, no more than it may have, and the result of what is
-- gathered may be used where the loop leads
pub record FrameFits (image : Image) (waiting : ℕ) (f : Frame) (o : Open) (os : List Open) : Type 0 where
  pub start : f.start ≡ o.start
  pub exit : f.exit ≡ o.exit
  pub mode : f.mode ≡ o.mode
  pub item : fits f.item o.item ≡ true
  pub left : list_all (λ v. fits v o.item) f.left ≡ true
  pub some : 1 ≤ length f.left + waiting
  pub room : length f.gathered.items + (length f.left + waiting) ≤ o.max
  pub stands : LoopStands image o os
  pub result : Fits (result_of f.mode f.gathered) stands.top

-- one frame for each open loop; those outside the innermost wait for the body's value
abbrev pub FramesFit : Image → ℕ → List Frame → List Open → Type 0
FramesFit image waiting [] [] = Unit {0}
FramesFit image waiting (f ∷ fs) (o ∷ os) = FrameFits image waiting f o os × FramesFit image 1 fs os
FramesFit image waiting _ _ = ⊥

-- a state that fits the label of its instruction
pub record Typed (image : Image) (s : State) : Type 0 where
  pub types : StackTypes
  pub inside : s.at < length image.code
  pub label : types_at image s.at ≡ Some types
  pub fits : AllFit s.stack (types ++ below_all (opens_at image s.at))
  pub frames : FramesFit image (waits_at image s.at) s.frames (opens_at image s.at)

-- a run, with what it ends with, charges and takes
pub record HasRun (image : Image) (slots : List Outcome) : Type 0 where
  pub outcome : Outcome
  pub charged : ℕ
  pub steps : ℕ
  pub run : Run image slots outcome charged steps

-- what every run of an image keeps to: no state that the machine reaches is stuck, and it ends, within as many steps as
-- the longest route has, for no more than the dearest route charges, with an outcome of the image's type
pub record RunsWithin (image : Image) (slots : List Outcome) : Type 0 where
  pub never : (s : State) (charge steps : ℕ) → Gets image slots (on 0 [] []) s charge steps → step image slots s ≢ Stuck
  pub charge : (s : State) (charge steps : ℕ) → Gets image slots (on 0 [] []) s charge steps
      → IsWithin (IsRouteCharge image) charge
  pub steps : (s : State) (charge steps : ℕ) → Gets image slots (on 0 [] []) s charge steps
      → IsWithin (IsRouteLength image) (steps + 1)
  pub outcome : (s : State) (charge steps : ℕ) (x : Outcome) → Gets image slots (on 0 [] []) s charge steps → step image slots s ≡ Ends x
      → Fits x image.result
  pub ends : HasRun image slots
