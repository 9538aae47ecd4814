-- The names of faults of calls, as they are printed.
use Rattle.std.specs.Prelude.{ℕ, List, codes}
use Rattle.vap_plane_gathering.specs.declared.fault.PlaneFault.{PlaneFault}
use Rattle.vap_plane_gathering.specs.declared.fault.PlaneFault.TheVariants.{Double, Stranger, Lost, Judge, Audit, Gone}

-- the name of a fault, as it is printed
abbrev pub plane_fault_name : PlaneFault → List ℕ
plane_fault_name (Double call) = codes "Double"
plane_fault_name (Stranger call) = codes "Stranger"
plane_fault_name (Lost call) = codes "Lost"
plane_fault_name (Judge call) = codes "Judge"
plane_fault_name (Audit call) = codes "Audit"
plane_fault_name (Gone call) = codes "Gone"
