-- Rows of policies, worked by computing.
use Rattle.std.proofs.Common.{◌≡◌, true, false, [], ◌∷◌, Some, refl}
use Rattle.std.specs.Prelude.{codes}
use Rattle.serde_json.specs.Data.{null}
use Rattle.vap_read.specs.PolicyFaults.{least_of}
use Rattle.vap_read.specs.PolicyForm.{has_fault, is_message, are_distinct}
use Rattle.vap_read.specs.declared.policy_fault.PolicyFault.TheVariants.{MissingField}

-- what says nothing lacks its members
nothing : least_of (has_fault null) ≡ Some MissingField
nothing = refl

-- an expression of two lines needs a message, which has one line
two_lines : is_message (97 ∷ 10 ∷ 98 ∷ []) [] ≡ false
two_lines = refl

two_lines_with_message : is_message (97 ∷ 10 ∷ 98 ∷ []) (codes "no") ≡ true
two_lines_with_message = refl

message_of_two_lines : is_message (codes "a") (110 ∷ 13 ∷ []) ≡ false
message_of_two_lines = refl

-- a name that occurs twice is found wherever it occurs
twice : are_distinct (codes "a" ∷ codes "b" ∷ codes "a" ∷ []) ≡ false
twice = refl

once : are_distinct (codes "a" ∷ codes "b" ∷ []) ≡ true
once = refl
