-- How instructions, targets and whole images are spelt, and which of them have a spelling.
use Rattle.std.specs.Prelude.{◌≡◌, ℕ, ◌^◌, Bool, true, false, ◌&&◌, nat_lt, IsTrue, List, [], ◌∷◌, ◌++◌, Option, Some, None}
use Rattle.cel_operators.specs.declared.text_operator.TextOperator.TheVariants.{Select, Has, Matches}
use Rattle.cel_value.specs.declared.cel_type.CelType.{CelType}
use Rattle.cel_code.specs.declared.instr.Instr.{Instr}
use Rattle.cel_code.specs.declared.instr.Instr.TheVariants as instrs
use Rattle.cel_code.specs.declared.image.Target.{Target}
use Rattle.cel_code.specs.declared.image.Image.{Image}
use Rattle.cel_code.specs.declared.image_bytes.Front.{Front}
use Rattle.cel_code.specs.Spelling.{be32, be64, is_short, listed, is_list, type_spelling, is_spellable, constant, is_constant}

-- opcode and operands
abbrev pub instr : Instr → List ℕ
instr (instrs.Const k) = 0 ∷ be32 k
instr (instrs.Slot s) = 1 ∷ be32 s
instr (instrs.Local d) = 2 ∷ be32 d
instr (instrs.WithText Select k) = 3 ∷ be32 k
instr (instrs.WithText Has k) = 4 ∷ be32 k
instr (instrs.Op o) = 5 ∷ be32 o
instr (instrs.WithText Matches k) = 6 ∷ be32 k
instr (instrs.List n) = 7 ∷ be32 n
instr (instrs.Map n) = 8 ∷ be32 n
instr (instrs.AndTest t) = 9 ∷ be32 t
instr instrs.And = 10 ∷ []
instr (instrs.OrTest t) = 11 ∷ be32 t
instr instrs.Or = 12 ∷ []
instr (instrs.Cond f e) = 13 ∷ (be32 f ++ be32 e)
instr (instrs.Jump t) = 14 ∷ be32 t
instr (instrs.Loop m e) = 15 ∷ (be32 m ++ be32 e)
instr instrs.Item = 16 ∷ []
instr instrs.When = 17 ∷ []
instr instrs.Next = 18 ∷ []
instr instrs.End = 19 ∷ []

-- whether an instruction's operands have a spelling
abbrev pub is_instr : Instr → Bool
is_instr (instrs.Const k) = is_short k
is_instr (instrs.Slot s) = is_short s
is_instr (instrs.Local d) = is_short d
is_instr (instrs.WithText operator k) = is_short k
is_instr (instrs.Op o) = is_short o
is_instr (instrs.List n) = is_short n
is_instr (instrs.Map n) = is_short n
is_instr (instrs.AndTest t) = is_short t
is_instr (instrs.OrTest t) = is_short t
is_instr (instrs.Cond f e) = is_short f && is_short e
is_instr (instrs.Jump t) = is_short t
is_instr (instrs.Loop m e) = is_short m && is_short e
is_instr _ = true

-- how many levels a type may have
abbrev pub most_levels : ℕ
most_levels = 100

-- a list of types
abbrev pub types : List CelType → List ℕ
types ts = listed type_spelling ts

-- whether a list of types has a spelling
abbrev pub are_types : List CelType → Bool
are_types ts = is_list (λ _ t. is_spellable t most_levels false) ts

-- a target comes after the one before it
abbrev pub place_after : Option Target → ℕ → Bool
place_after None n = true
place_after (Some t) n = nat_lt t.at n

-- the number of the instruction, and the types there
abbrev pub target : Target → List ℕ
target t = be32 t.at ++ types t.types

-- a target has a spelling after the last one if its number and its types have one, and it comes after it
abbrev pub is_target : Option Target → Target → Bool
is_target last t = (is_short t.at && place_after last t.at) && are_types t.types

-- VAPI
abbrev pub magic : List ℕ
magic = 86 ∷ 65 ∷ 80 ∷ 73 ∷ []

-- what an image has in front of its code
abbrev pub front_of : Image → Front
front_of i = record { slots = i.slots; constants = i.constants; targets = i.targets; result = i.result }

-- the bytes of what an image has in front of its code
abbrev pub front : Front → List ℕ
front f = types f.slots ++ (listed constant f.constants ++ (listed target f.targets ++ type_spelling f.result))

-- whether what an image has in front of its code has bytes
abbrev pub is_front : Front → Bool
is_front f =
    are_types f.slots && (is_list (λ _ v. is_constant v) f.constants
    && (is_list is_target f.targets && is_spellable f.result most_levels false))

-- the version: 2 if a number is declared, else 1
abbrev pub version : Option ℕ → ℕ
version None = 1
version (Some n) = 2

-- the number that is declared, between the type of the outcome and the code
abbrev pub declaration : Option ℕ → List ℕ
declaration None = []
declaration (Some n) = be64 n

-- whether the number that an image declares has bytes
abbrev pub is_declaration : Option ℕ → Bool
is_declaration None = true
is_declaration (Some n) = nat_lt n (2 ^ 64)

-- what is after the version
abbrev pub contents : Image → List ℕ
contents i = front (front_of i) ++ (declaration i.declared ++ listed instr i.code)

-- VAPI, the version, and what is after it
abbrev pub image_spelling : Image → List ℕ
image_spelling i = magic ++ version i.declared ∷ contents i

-- whether an image has a spelling
abbrev pub is_image : Image → Bool
is_image i = is_front (front_of i) && (is_declaration i.declared && is_list (λ _ c. is_instr c) i.code)

-- the bytes are the image's spelling
abbrev pub Spells : Image → List ℕ → Type 0
Spells image bytes = IsTrue (is_image image) × (bytes ≡ image_spelling image)
