-- The names that are printed.
use Rattle.std.specs.Prelude.{ℕ, List, ◌++◌, codes}
use Rattle.vap_schema.specs.declared.fit_fault.FitFaultKind.{FitFaultKind}
use Rattle.vap_schema.specs.declared.fit_fault.FitFaultKind.TheVariants as fit
use Rattle.vap_schema.specs.declared.fit_fault.FitFault.{FitFault}

-- the name of a fault of a document
abbrev pub fit_fault_name : FitFaultKind → List ℕ
fit_fault_name fit.WrongKind = codes "WrongKind"
fit_fault_name fit.Missing = codes "Missing"
fit_fault_name fit.NullHere = codes "NullHere"
fit_fault_name fit.OverLimit = codes "OverLimit"
fit_fault_name fit.IntRange = codes "IntRange"

-- a fault with its path, as it is printed
abbrev pub fit_fault_text : FitFault → List ℕ
fit_fault_text f = f.path ++ (codes ": " ++ fit_fault_name f.kind)
