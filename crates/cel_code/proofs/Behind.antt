-- Tags for which a table has no reader, and one level of a type.
use Rattle.std.proofs.Common.{◌≡◌, ℕ, zero, suc, ◌-◌, ◌<◌, Bool, List, None, Err, refl, ap, arith, slice_get}
use Rattle.std.proofs.lemmas.Option.{slice_get_past}
use Rattle.cel_value.specs.declared.cel_type.CelType.{CelType}
use Rattle.cel_code.specs.declared.fault.ReadFault.TheVariants.{BadTable}
use Rattle.cel_code.specs.CodeReading.{instr_readers, image_readers}
use Rattle.cel_code.specs.Reading.{Reader, type_readers, level_at, type_at}

pub type_none : (b : Bool) (bytes : List ℕ) → type_at 0 b bytes ≡ Err BadTable
unfolding type_at
type_none b bytes = refl

pub type_more : (d : ℕ) (b : Bool) (bytes : List ℕ) → 0 < d → type_at d b bytes ≡ level_at (type_at (d - 1)) b bytes
unfolding type_at
type_more zero b bytes h = absurd (omega arith)
type_more (suc d) b bytes h = let e : d ≡ suc d - 1 = omega arith in ap (λ (n : ℕ). level_at (type_at n) b bytes) e

pub none_behind : (inside : Bool → Reader CelType) (b : Bool) (tag : ℕ) → 12 < tag → slice_get (type_readers inside b) tag ≡ None
none_behind inside b tag h = slice_get_past (type_readers inside b) tag (omega arith)

pub no_instr : (opcode : ℕ) → 19 < opcode → slice_get instr_readers opcode ≡ None
no_instr opcode h = slice_get_past instr_readers opcode (omega arith)

pub no_version : (version : ℕ) → 2 < version → slice_get image_readers version ≡ None
no_version version h = slice_get_past image_readers version (omega arith)
