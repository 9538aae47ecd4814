-- What the commands of `image` write.
use Rattle.std.specs.Prelude.{◌≡◌, ℕ, List, Option}
use Rattle.std.specs.Io.KnownBytes.{Appends, Consumes}
use Rattle.cel_code.specs.declared.image.Image.{Image}
use Rattle.cel_code.specs.Code.{Spells}
use Rattle.cel_verify.specs.Accepted.{IsAccepted}
use Rattle.cel_expression.specs.Images.{IsImageOf}
use Rattle.vap_cli.specs.Evaluation.{Choice, source_of}
use Rattle.vap_cli.specs.declared.status.Status.{Status}
use Rattle.vap_cli.specs.declared.status.Status.TheVariants.{Done}

-- the spelling of an image that a text compiles to, by some choice
pub record SpellsText (text bytes : List ℕ) : Type 0 where
  pub choice : Choice
  pub image : Image
  pub compiled : IsImageOf (source_of choice text) image
  pub spelt : Spells image bytes

-- if the program ends well, what is written is that
abbrev pub IsEncoded : List ℕ → List ℕ → Status → Type 0
IsEncoded text bytes status = status ≡ Done → SpellsText text bytes

-- the writer's bytes grew by these
pub record TellsText (text : List ℕ) (old new : Option (List ℕ)) (status : Status) : Type 0 where
  pub bytes : List ℕ
  pub encoded : IsEncoded text bytes status
  pub written : Appends old new bytes

-- the spelling of an image that the verifier accepts
pub record SpellsAccepted (bytes : List ℕ) : Type 0 where
  pub image : Image
  pub spelt : Spells image bytes
  pub accepted : IsAccepted image

-- if the program ends well, the bytes are that
abbrev pub IsDecoded : List ℕ → Status → Type 0
IsDecoded bytes status = status ≡ Done → SpellsAccepted bytes

-- these bytes were taken of the file
pub record TellsBytes (old new : Option (List ℕ)) (status : Status) : Type 0 where
  pub bytes : List ℕ
  pub taken : Consumes old new bytes
  pub decoded : IsDecoded bytes status
