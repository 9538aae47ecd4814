-- What is kept of an object as a param.
use Rattle.std.specs.Prelude.{◌≡◌, true, codes, IfOk, Result}
use Rattle.cel_value.specs.CelType.{fits}
use Rattle.cel_value.specs.declared.cel_type.CelType.{CelType}
use Rattle.cel_value.specs.declared.value.Value.{Value}
use Rattle.vap_schema.specs.Seen.{seen}
use Rattle.vap_schema.specs.declared.fit_fault.FitFault.{FitFault}
use Rattle.vap_read_objects.specs.declared.entry.Entry.{Entry}

-- an object as a param, with its value at the type of its kind or its first fault
abbrev pub Param : Type 0
Param = Entry (Result Value FitFault)

-- what it is seen as at a type, which a value fits
pub record IsSeenAt (t : CelType) (p : Param) : Type 0 where
  pub exact : p.outcome ≡ seen (codes "params") t p.object.document
  pub right : IfOk p.outcome (λ v. fits v t ≡ true)
