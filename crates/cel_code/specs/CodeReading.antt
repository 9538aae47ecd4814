-- Reading instructions, targets and whole images.
use Rattle.std.specs.Prelude.{ℕ, false, List, [], ◌∷◌, nat_eq, Option, Some, None, Ok, Err}
use Rattle.std.specs.Prelude.{if◌then◌else◌}
use Rattle.std.specs.Int.{w32, w64}
use Rattle.cel_operators.specs.declared.text_operator.TextOperator.TheVariants.{Select, Has, Matches}
use Rattle.cel_value.specs.declared.cel_type.CelType.{CelType}
use Rattle.cel_value.specs.declared.value.Value.{Value}
use Rattle.cel_code.specs.declared.instr.Instr.{Instr}
use Rattle.cel_code.specs.declared.instr.Instr.TheVariants as instrs
use Rattle.cel_code.specs.declared.image.Target.{Target}
use Rattle.cel_code.specs.declared.image.Image.{Image}
use Rattle.cel_code.specs.declared.image_bytes.Front.{Front}
use Rattle.cel_code.specs.declared.fault.ReadFault.TheVariants.{Truncated, BadOpcode, BadTable}
use Rattle.cel_code.specs.Reading.{◌>>=◌, Reader, both, made, tested, nothing, refused, tagged}
use Rattle.cel_code.specs.Reading.{number_at, list_at, type_at, constant_at}
use Rattle.cel_code.specs.Code.{most_levels, place_after, magic}

-- an operand
abbrev pub number : Reader ℕ
number = number_at w32

-- the readers of what is after each opcode, by their numbers
abbrev pub instr_readers : List (Reader Instr)
instr_readers =
    made (λ k. instrs.Const k) number
    ∷ made (λ s. instrs.Slot s) number
    ∷ made (λ d. instrs.Local d) number
    ∷ made (λ k. instrs.WithText Select k) number
    ∷ made (λ k. instrs.WithText Has k) number
    ∷ made (λ o. instrs.Op o) number
    ∷ made (λ k. instrs.WithText Matches k) number
    ∷ made (λ n. instrs.List n) number
    ∷ made (λ n. instrs.Map n) number
    ∷ made (λ t. instrs.AndTest t) number
    ∷ nothing instrs.And
    ∷ made (λ t. instrs.OrTest t) number
    ∷ nothing instrs.Or
    ∷ made (λ p. instrs.Cond p.0 p.1) (both number number)
    ∷ made (λ t. instrs.Jump t) number
    ∷ made (λ p. instrs.Loop p.0 p.1) (both number number)
    ∷ nothing instrs.Item
    ∷ nothing instrs.When
    ∷ nothing instrs.Next
    ∷ nothing instrs.End
    ∷ []

-- opcode and operands
unfoldable pub instr_at : Reader Instr
instr_at bytes = tagged BadOpcode instr_readers bytes

-- a list of types
abbrev pub types_at : Reader (List CelType)
types_at = list_at (λ _. type_at most_levels false)

-- a target of its number and its types
abbrev pub target_from : ℕ × List CelType → Target
target_from p = record { at = p.0; types = p.1 }

-- number and types
abbrev pub target_at : Option Target → Reader Target
target_at last = made target_from (both (tested (place_after last) number) types_at)

-- this byte
abbrev pub byte_is : ℕ → Reader (Unit {0})
byte_is m [] = Err Truncated
byte_is m (b ∷ bytes) = if nat_eq b m then Ok (tt, bytes) else Err BadTable

-- these bytes
abbrev pub marked : List ℕ → Reader (Unit {0})
marked [] bytes = Ok (tt, bytes)
marked (m ∷ ms) bytes = byte_is m bytes >>= λ x. marked ms x.1

-- slots, constants, targets, and the type of the outcome
abbrev pub front_from : List CelType × (List Value × (List Target × CelType)) → Front
front_from p = record { slots = p.0; constants = p.1.0; targets = p.1.1.0; result = p.1.1.1 }

-- one after another
abbrev pub front_at : Reader Front
front_at = made front_from (both types_at (both (list_at (λ _. constant_at)) (both (list_at target_at) (type_at most_levels false))))

-- an image of its front, what it declares, and its code
abbrev pub image_with : Front → Option ℕ → List Instr → Image
image_with f declared code = record {
  slots = f.slots;
  constants = f.constants;
  targets = f.targets;
  result = f.result;
  declared = declared;
  code = code;
}

-- code
abbrev pub code_at : Reader (List Instr)
code_at = list_at (λ _. instr_at)

-- nothing is declared
abbrev pub image_from : Front × List Instr → Image
image_from p = image_with p.0 None p.1

-- what is after version 1
abbrev pub parts_at : Reader (Front × List Instr)
parts_at = both front_at code_at

-- a number is declared
abbrev pub declared_from : Front × (ℕ × List Instr) → Image
declared_from p = image_with p.0 (Some p.1.0) p.1.1

-- what is after version 2
abbrev pub declared_at : Reader (Front × (ℕ × List Instr))
declared_at = both front_at (both (number_at w64) code_at)

-- the readers of what is after each version, by their numbers
abbrev pub image_readers : List (Reader Image)
image_readers = refused ∷ made image_from parts_at ∷ made declared_from declared_at ∷ []

-- the image at the front
abbrev pub image_at : Reader Image
image_at bytes = marked magic bytes >>= λ start. tagged BadTable image_readers start.1
