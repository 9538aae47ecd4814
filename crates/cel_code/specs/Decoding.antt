-- What bytes decode to, and when each fault is right.
use Rattle.std.specs.Prelude.{◌≡◌, ◌≢◌, ℕ, List, [], ◌∷◌, ◌++◌, Result, Ok, Err}
use Rattle.cel_code.specs.declared.image.Image.{Image}
use Rattle.cel_code.specs.declared.fault.ReadFault.{ReadFault}
use Rattle.cel_code.specs.declared.fault.ReadFault.TheVariants as met
use Rattle.cel_code.specs.declared.fault.ImageFault.{ImageFault}
use Rattle.cel_code.specs.declared.fault.ImageFault.TheVariants.{Truncated, BadOpcode, BadTable, TrailingBytes}
use Rattle.cel_code.specs.Code.{Spells}
use Rattle.cel_code.specs.CodeReading.{image_at}

-- a fault of what is read is one of the bytes
abbrev pub fault : ReadFault → ImageFault
fault met.Truncated = Truncated
fault met.BadOpcode = BadOpcode
fault met.BadTable = BadTable

-- an image that takes all of the bytes
abbrev pub alone : Result (Image × List ℕ) ReadFault → Result Image ImageFault
alone (Err f) = Err (fault f)
alone (Ok (image, [])) = Ok image
alone (Ok (image, b ∷ rest)) = Err TrailingBytes

-- the image that the bytes spell, or the first fault from the front
unfoldable pub decoded : List ℕ → Result Image ImageFault
decoded bytes = alone (image_at bytes)

-- no front of the bytes is the spelling of an image
abbrev pub SpellsNothing : List ℕ → Type 0
SpellsNothing bytes = (image : Image) (front rest : List ℕ) → Spells image front → bytes ≡ front ++ rest → ⊥

-- a front of the bytes is the spelling of an image, and more bytes are after it
abbrev pub SpellsMore : List ℕ → Type 0
SpellsMore bytes =
    (image : Image) × (front : List ℕ) × (rest : List ℕ) × Spells image front × (bytes ≡ front ++ rest) × (rest ≢ [])

-- bytes after a spelling are one fault; each other fault is one of bytes that have no spelling as a front
abbrev pub IsRightFault : List ℕ → ImageFault → Type 0
IsRightFault bytes TrailingBytes = SpellsMore bytes
IsRightFault bytes _ = SpellsNothing bytes
