-- The names that are printed.
use Rattle.std.specs.Prelude.{ℕ, List, codes}
use Rattle.cel_code.specs.declared.fault.ImageFault.{ImageFault}
use Rattle.cel_code.specs.declared.fault.ImageFault.TheVariants as fault

-- the name of a fault of the bytes of an image
abbrev pub image_fault_name : ImageFault → List ℕ
image_fault_name fault.Truncated = codes "Truncated"
image_fault_name fault.BadOpcode = codes "BadOpcode"
image_fault_name fault.BadTable = codes "BadTable"
image_fault_name fault.TrailingBytes = codes "TrailingBytes"
