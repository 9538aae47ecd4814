-- Schemas inside each other: one level, and the walk over an object's properties.
use Rattle.std.proofs.Common.{◌≡◌, ℕ, zero, suc, ◌-◌, ◌<◌, List, Option, Some, None, Err, true, false, ap, ◌∙◌, refl, arith}
use Rattle.std.specs.Prelude.{is_some}
use Rattle.serde_json.specs.Data.{Data, Members, member}
use Rattle.vap_schema.specs.Seen.{◌>>=◌}
use Rattle.vap_schema.specs.Forms.{nested_form}
use Rattle.vap_schema.specs.declared.schema_fault.SchemaFault.TheVariants.{TooDeep}
use Rattle.vap_schema.specs.Answers.{IsPlaceBackwards}
use Rattle.vap_schema.specs.Places.{Found, Within, here, under, members_place, nested_place, schema_place}
use Rattle.vap_schema.specs.declared.place.FaultPlace.{FaultPlace}

pub too_deep : (levels : ℕ) (d : Data) → levels ≡ 0 → schema_place levels d ≡ Err (here TooDeep)
unfolding schema_place
too_deep zero d h = refl
too_deep (suc n) d h = absurd (omega arith)

pub one_level : (levels : ℕ) (d : Data) → 0 < levels → schema_place levels d ≡ nested_place (schema_place (levels - 1)) (nested_form d)
unfolding schema_place
one_level zero d h = absurd (omega arith)
one_level (suc n) d h = let same : n ≡ suc n - 1 = omega arith in ap (λ m. nested_place (schema_place m) (nested_form d)) same

-- the place in a property is the object's
pub members_stop : (within : Within) (k : List ℕ) (d : Data) (ms : Members) (whole : Found) (found : Option FaultPlace)
    → whole ≡ members_place within (member k d ms) → IsPlaceBackwards (under k (within d)) found → is_some found ≡ true
    → IsPlaceBackwards whole found
members_stop within k d ms whole None read is some = absurd (cc)
members_stop within k d ms whole (Some place) read is some = read ∙ ap (λ r. r >>= (λ _. members_place within ms)) is

-- after a property without a fault, the others count
pub members_go : (within : Within) (k : List ℕ) (d : Data) (ms : Members) (whole : Found) (found : Option FaultPlace)
    → whole ≡ members_place within (member k d ms) → IsPlaceBackwards (under k (within d)) found → is_some found ≡ false
    → whole ≡ members_place within ms
members_go within k d ms whole None read is some = read ∙ ap (λ r. r >>= (λ _. members_place within ms)) is
members_go within k d ms whole (Some place) read is some = absurd (cc)
