-- Where the jumps of an image go.
use Rattle.std.specs.Prelude.{◌≡◌, ℕ, ◌+◌, ◌≤◌, ◌⊎◌, ◌↔◌, List, [], ◌∷◌, length, Some, slice_get}
use Rattle.cel_code.specs.declared.instr.Instr.{Instr}
use Rattle.cel_code.specs.declared.instr.Instr.TheVariants.{AndTest, OrTest, Cond, Jump, Loop}
use Rattle.cel_code.specs.declared.image.Image.{Image}
use Rattle.cel_code.specs.declared.image.Target.{Target}

-- an instruction jumps to a place
abbrev pub Jumps : Instr → ℕ → Type 0
Jumps (AndTest to) at = to ≡ at
Jumps (OrTest to) at = to ≡ at
Jumps (Cond if_false if_error) at = (if_false ≡ at) ⊎ (if_error ≡ at)
Jumps (Jump to) at = to ≡ at
Jumps (Loop l exit) at = exit ≡ at
Jumps _ at = ⊥

-- an instruction of the code jumps to this one
pub record IsJumpedTo (code : List Instr) (at : ℕ) : Type 0 where
  pub from : ℕ
  pub instr : Instr
  pub stands : slice_get code from ≡ Some instr
  pub jumps : Jumps instr at

-- one of the targets is this instruction
abbrev pub IsTarget : List Target → ℕ → Type 0
IsTarget [] at = ⊥
IsTarget (t ∷ ts) at = (t.at ≡ at) ⊎ IsTarget ts at

-- targets from one place on and before another, each above the one before it
abbrev pub Rises : ℕ → List Target → ℕ → Type 0
Rises least [] end = least ≤ end
Rises least (t ∷ ts) end = (least ≤ t.at) × Rises (t.at + 1) ts end

-- the targets are those instructions to which a jump goes, in increasing order
pub record TargetsAreJumps (image : Image) : Type 0 where
  pub increasing : Rises 0 image.targets (length image.code)
  pub jumped : (at : ℕ) → IsTarget image.targets at ↔ IsJumpedTo image.code at
