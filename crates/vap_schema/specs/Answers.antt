-- What is answered for a document that is to be a schema.
use Rattle.std.specs.Prelude.{◌≡◌, ℕ, List, map, reverse, Option, Some, None, Result, Ok, Err}
use Rattle.std.specs.Borrow.{Bor}
use Rattle.cel_value.specs.declared.cel_type.CelType.{CelType}
use Rattle.vap_schema.specs.declared.schema_fault.SchemaFault.{SchemaFault}
use Rattle.vap_schema.specs.Places.{Found}
use Rattle.vap_schema.specs.declared.place.FaultPlace.{FaultPlace}

-- names that are lent, the last one first
abbrev pub backwards : List (Bor (List ℕ)) → List (List ℕ)
backwards names = map (λ name. name.now) (reverse names)

-- the answer is this place, or that there is no fault
abbrev pub IsPlace : Found → Option FaultPlace → Type 0
IsPlace want None = want ≡ Ok tt
IsPlace want (Some place) = want ≡ Err (record { fault = place.fault; path = map (λ name. name.now) place.path.items })

-- the same for a path from the innermost name on
abbrev pub IsPlaceBackwards : Found → Option FaultPlace → Type 0
IsPlaceBackwards want None = want ≡ Ok tt
IsPlaceBackwards want (Some place) = want ≡ Err (record { fault = place.fault; path = backwards place.path.items })

-- the fault is the one for which a schema is refused, and there is none if it is not
abbrev pub IsFaultOf : Result CelType SchemaFault → Option FaultPlace → Type 0
IsFaultOf (Ok t) found = found ≡ None
IsFaultOf (Err fault) None = ⊥
IsFaultOf (Err fault) (Some place) = place.fault ≡ fault
