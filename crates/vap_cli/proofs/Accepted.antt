-- What is written for bytes whose image is accepted.
use Rattle.std.proofs.Common.{◌≡◌, ℕ, List, sym, ◌∙◌}
use Rattle.std.specs.Prelude.{Result, Ok, Err, IfOk}
use Rattle.cel_code.specs.declared.image.Image.{Image}
use Rattle.cel_code.specs.Code.{Spells}
use Rattle.cel_verify.specs.Accepted.{IsAccepted}
use Rattle.vap_cli.specs.declared.status.Status.TheVariants.{Done, Fault}
use Rattle.vap_cli.specs.declared.decode.Told.{Told}
use Rattle.vap_cli.specs.Told.{IsDecoded}

-- an image that is accepted
pub is_accepted : {E : Type 0} (image : Image) (r : Result Told E) → IsAccepted image → IfOk r (λ d. d.status ≡ Done → IsAccepted image)
is_accepted image (Ok d) h = λ done. h
is_accepted image (Err x) h = tt

-- a refusal does not end well
pub none_accepted : {E : Type 0} (image : Image) (r : Result Told E) → IfOk r (λ d. d.status ≡ Fault)
    → IfOk r (λ d. d.status ≡ Done → IsAccepted image)
none_accepted image (Ok d) h = λ done. absurd (let no : Fault ≡ Done = sym h ∙ done in cc)
none_accepted image (Err x) h = tt

-- the image that bytes spell
pub is_decoded : {E : Type 0} (bytes : List ℕ) (image : Image) (r : Result Told E) → Spells image bytes
    → IfOk r (λ d. d.status ≡ Done → IsAccepted image) → IfOk r (λ d. IsDecoded bytes d.status)
is_decoded bytes image (Ok d) s h = λ done. record { image = image; spelt = s; accepted = h done }
is_decoded bytes image (Err x) s h = tt

pub none_decoded : {E : Type 0} (bytes : List ℕ) (r : Result Told E) → IfOk r (λ d. d.status ≡ Fault)
    → IfOk r (λ d. IsDecoded bytes d.status)
none_decoded bytes (Ok d) h = λ done. absurd (let no : Fault ≡ Done = sym h ∙ done in cc)
none_decoded bytes (Err x) h = tt
