-- The words of a verdict.
use Rattle.std.specs.Prelude.{ℕ, List, ◌++◌, codes}
use Rattle.vap_read.specs.declared.policy.Reason.{Reason}
use Rattle.vap_read.specs.declared.policy.Reason.TheVariants.{Unauthorized, Forbidden, Invalid, RequestEntityTooLarge}

-- the status code of a reason
abbrev pub code_of : Reason → ℕ
code_of Unauthorized = 401
code_of Forbidden = 403
code_of Invalid = 422
code_of RequestEntityTooLarge = 413

-- the word of a reason
abbrev pub reason_name : Reason → List ℕ
reason_name Unauthorized = codes "Unauthorized"
reason_name Forbidden = codes "Forbidden"
reason_name Invalid = codes "Invalid"
reason_name RequestEntityTooLarge = codes "RequestEntityTooLarge"

-- what is said if a request is denied
abbrev pub denial : List ℕ → List ℕ → List ℕ → List ℕ
denial policy binding message =
    codes "ValidatingAdmissionPolicy '" ++ (policy ++ (codes "' with binding '" ++ (binding ++ (codes "' denied request: " ++ message))))

-- what is said if a failure is only warned of
abbrev pub warning : List ℕ → List ℕ → List ℕ → List ℕ
warning policy binding message =
    codes "Validation failed for ValidatingAdmissionPolicy '"
    ++ (policy ++ (codes "' with binding '" ++ (binding ++ (codes "': " ++ message))))
