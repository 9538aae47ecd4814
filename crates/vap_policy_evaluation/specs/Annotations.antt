-- What annotations note (Kubernetes, "Audit annotations").
use Rattle.std.specs.Prelude.{ℕ, List, [], ◌∷◌, None, Ok, Err}
use Rattle.cel_value.specs.declared.value.Value.{Value, out-Value}
use Rattle.cel_value.specs.declared.value.Value.TheOpen.{Value-F}
use Rattle.cel_operators.specs.Outcomes.{Outcome}
use Rattle.vap_read.specs.declared.policy.FailurePolicy.{FailurePolicy}
use Rattle.vap_policy_programs.specs.declared.programs.Annotation.{Annotation}
use Rattle.vap_policy_evaluation.specs.declared.found.Failure.{Failure}
use Rattle.vap_policy_evaluation.specs.declared.found.Note.{Note}
use Rattle.vap_policy_evaluation.specs.Runs.{given, charge}
use Rattle.vap_policy_evaluation.specs.Words.{expression_error}
use Rattle.vap_policy_evaluation.specs.Validations.{counted}

-- an empty text notes nothing
abbrev pub note_of : List ℕ → List ℕ → List Note
note_of key [] = []
note_of key (b ∷ bs) = record { key = key; value = b ∷ bs } ∷ []

-- one level: a text is noted, and null is not
abbrev pub note_at : List ℕ → Value-F Value → List Note
note_at key (Value-F.Text text) = note_of key text
note_at key _ = []

abbrev pub note_by : List ℕ → Outcome → List Note
note_by key (Ok v) = note_at key (out-Value v)
note_by key (Err e) = []

-- what an annotation notes
unfoldable pub note : List Outcome → Annotation → List Note
note slots a = note_by a.key (given a.value slots)

abbrev pub note_failure_by : FailurePolicy → List ℕ → Outcome → List Failure
note_failure_by policy text (Ok v) = []
note_failure_by policy text (Err e) = counted policy None (expression_error text e)

-- the failure of an annotation with an error
unfoldable pub note_failure : FailurePolicy → List Outcome → Annotation → List Failure
note_failure policy slots a = note_failure_by policy a.value.text (given a.value slots)

-- what an annotation charges
abbrev pub note_charge : List Outcome → Annotation → ℕ
note_charge slots a = charge a.value slots
