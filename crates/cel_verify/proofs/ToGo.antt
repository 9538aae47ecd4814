-- What is to go from each instruction, as sums from the last one backwards, and what a state has still to pay.
use Rattle.std.specs.Prelude.{◌≡◌, ℕ, zero, suc, ◌+◌, ◌-◌, ◌*◌, ◌<◌, ◌≤◌, min, List, [], ◌∷◌, length, slice_index}
use Rattle.cel_value.specs.declared.value.Value.{Value}
use Rattle.cel_code.specs.declared.instr.Instr.{Instr}
use Rattle.cel_code.specs.declared.image.Image.{Image}
use Rattle.cel_code.specs.Machine.{Frame, State, Next, Goes, Ends, Stuck}
use Rattle.cel_verify.specs.StackTypes.{Fits}
use Rattle.cel_verify.specs.Paths.{goes_to, times_at, charge_at}
use Rattle.cel_verify.specs.Typed.{waits_at, Typed}
use Rattle.cel_verify.specs.Walked.{ceiling, rounds_of, greatest}

-- from one instruction; f gives what is to go from those after it
abbrev pub from_one : (ℕ → ℕ) → (ℕ → ℕ) → Instr → ℕ → (ℕ → ℕ) → ℕ
from_one weigh times i at f = weigh at + (rounds_of i (times at) * f (at + 1) + greatest f (goes_to i at))

-- from each of these instructions to the end of its body; the first has this number
abbrev pub to_go : (ℕ → ℕ) → (ℕ → ℕ) → List Instr → ℕ → List ℕ
to_go weigh times [] at = []
to_go weigh times (i ∷ is) at =
    from_one weigh times i at (λ t. slice_index (to_go weigh times is (at + 1)) (t - (at + 1))) ∷ to_go weigh times is (at + 1)

-- the greatest sum of weights from an instruction on
abbrev pub path_from : Image → (ℕ → ℕ) → ℕ → ℕ
path_from image weigh at = slice_index (to_go weigh (times_at image) image.code 0) at

-- the charge of the dearest route
abbrev pub path_cost : Image → ℕ
path_cost image = path_from image (charge_at image) 0

-- the instructions of the longest route
abbrev pub path_steps : Image → ℕ
path_steps image = path_from image (λ _. 1) 0

-- the items whose turns are still to begin
abbrev pub to_come : ℕ → List Value → List Value
to_come zero [] = []
to_come zero (v ∷ vs) = vs
to_come (suc n) vs = vs

-- so much for each of these
abbrev pub rounds : List Value → ℕ → ℕ
rounds [] n = 0
rounds (v ∷ vs) n = n + rounds vs n

-- what the open loops have still to go, where g gives what there is to go from an instruction to the end of its body
abbrev pub owed : (ℕ → ℕ) → ℕ → List Frame → ℕ
owed g waiting [] = 0
owed g waiting (f ∷ fs) = rounds (to_come waiting f.left) (g (f.start + 1)) + g f.exit + owed g 1 fs

-- the greatest sum of weights that a state has still to go
abbrev pub total : Image → (ℕ → ℕ) → State → ℕ
total image weigh s = path_from image weigh s.at + owed (path_from image weigh) (waits_at image s.at) s.frames

-- a step goes on to such a state, pays for itself at every weighing, or ends with an outcome of the image's type
abbrev pub GoesOn : Image → State → Next → Type 0
GoesOn image s (Goes charge to) = Typed image to × (charge ≤ charge_at image s.at)
    × ((weigh : ℕ → ℕ) → weigh s.at + total image weigh to ≤ total image weigh s)
GoesOn image s (Ends x) = Fits x image.result
GoesOn image s Stuck = ⊥

-- the weight of each instruction before one, and from there on the greatest sum of its routes, both up to the ceiling
pub record AreSums (image : Image) (weigh : ℕ → ℕ) (at : ℕ) (sums : List ℕ) : Type 0 where
  pub inside : at ≤ length image.code
  pub long : length sums ≡ length image.code
  pub weights : (i : ℕ) → i < at → slice_index sums i ≡ min (weigh i) ceiling
  pub paths : (i : ℕ) → at ≤ i → slice_index sums i ≡ min (path_from image weigh i) ceiling
