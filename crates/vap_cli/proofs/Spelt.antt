-- What is written for a text whose image has a spelling.
use Rattle.std.proofs.Common.{◌≡◌, ℕ, List, [], sym, ap, subst, ◌∙◌}
use Rattle.std.specs.Prelude.{Result, Ok, Err, IfOk}
use Rattle.base_containers.specs.declared.text.Keyed.{Keyed}
use Rattle.cel_value.specs.declared.cel_type.CelType.{CelType}
use Rattle.cel_code.specs.declared.image.Image.{Image}
use Rattle.cel_code.specs.Code.{Spells}
use Rattle.cel_expression.specs.Source.{Source}
use Rattle.cel_expression.specs.Images.{IsImageOf}
use Rattle.vap_cli.specs.Evaluation.{Choice, source_of}
use Rattle.vap_cli.specs.declared.status.Status.TheVariants.{Done, Fault}
use Rattle.vap_cli.specs.declared.encode.Told.{Told}
use Rattle.vap_cli.specs.Told.{IsEncoded}

abbrev source_in : Choice → List (Keyed CelType) → List ℕ → Source
source_in choice names text = record { choice = choice; names = names; text = text }

-- the spelling of the image of a source without names
pub is_encoded : {E : Type 0} (choice : Choice) (names : List (Keyed CelType)) (text : List ℕ) (source : Source) (image : Image)
    (r : Result Told E) → names ≡ [] → source ≡ source_in choice names text → IsImageOf source image
    → IfOk r (λ e. e.status ≡ Done → Spells image e.bytes.items) → IfOk r (λ e. IsEncoded text e.bytes.items e.status)
is_encoded choice names text source image (Ok e) none is compiled spelt =
    λ done.
    let same : source ≡ source_of choice text = is ∙ ap (λ ns. source_in choice ns text) none in
    record { choice = choice; image = image; compiled = subst (λ s. IsImageOf s image) same compiled; spelt = spelt done }
is_encoded choice names text source image (Err x) none is compiled spelt = tt

-- a refusal does not end well
pub none_encoded : {E : Type 0} (text : List ℕ) (r : Result Told E) → IfOk r (λ e. e.status ≡ Fault)
    → IfOk r (λ e. IsEncoded text e.bytes.items e.status)
none_encoded text (Ok e) h = λ done. absurd (let no : Fault ≡ Done = sym h ∙ done in cc)
none_encoded text (Err x) h = tt
