-- What `check` prints, and how the program ends.
use Rattle.std.specs.Prelude.{ℕ, Bool, false, List, [], ◌∷◌, ◌++◌, codes, decimal, Ok, Err, if◌then◌else◌}
use Rattle.cel_value.specs.Names.{error_name}
use Rattle.cel_value.specs.declared.value.Value.{Value, out-Value}
use Rattle.cel_value.specs.declared.value.Value.TheOpen.{Value-F}
use Rattle.cel_operators.specs.Outcomes.{Outcome}
use Rattle.cel_value.specs.JsonText.{json_text}
use Rattle.cel_machine.specs.declared.evaluation.Ran.{Ran}
use Rattle.vap_schema.specs.FitNames.{fit_fault_name}
use Rattle.vap_schema.specs.SchemaNames.{schema_fault_name}
use Rattle.vap_cli.specs.Answer.{refusal_text}
use Rattle.vap_cli.specs.declared.answer.Refusal.TheVariants as eval_refusal
use Rattle.vap_cli.specs.declared.status.Status.{Status}
use Rattle.vap_cli.specs.declared.status.Status.TheVariants.{Done, Fault, Stream, OutOfMemory}
use Rattle.vap_cli.specs.declared.failure.CheckFailure.{CheckFailure}
use Rattle.vap_cli.specs.declared.failure.CheckFailure.TheVariants as failure
use Rattle.vap_cli.specs.declared.refusal.FileRefusal.{FileRefusal}
use Rattle.vap_cli.specs.declared.refusal.FileRefusal.TheVariants as refusal
use Rattle.vap_cli.specs.declared.judgement.Judgement.{Judgement}
use Rattle.vap_cli.specs.declared.judgement.Judgement.TheVariants as judgement

-- the name of why a file is refused, with its place or its estimate, if it has one
abbrev pub refused_text : FileRefusal → List ℕ
refused_text refusal.TooLong = codes "TooLong"
refused_text refusal.BadJson = codes "BadJson"
refused_text (refusal.Schema fault) = schema_fault_name fault
refused_text (refusal.Text why) = refusal_text (eval_refusal.Text why)
refused_text (refusal.Unverified at) = refusal_text (eval_refusal.Unverified at)

-- the line that reports it
abbrev pub refused_line : FileRefusal → List ℕ
refused_line why = codes "refused: " ++ (refused_text why ++ 10 ∷ [])

-- the line that reports what an expression may charge
abbrev pub estimate_line : ℕ → List ℕ
estimate_line n = codes "estimate " ++ (decimal n ++ 10 ∷ [])

-- what reports a value or an error
abbrev pub outcome_text : Outcome → List ℕ
outcome_text (Ok v) = codes "value " ++ json_text v
outcome_text (Err e) = codes "error: " ++ error_name e

-- the lines that report what a run resulted in, and what it charged
abbrev pub ran_lines : Ran → List ℕ
ran_lines r = outcome_text r.outcome ++ (10 ∷ (codes "charged " ++ (decimal r.charged ++ 10 ∷ [])))

-- the lines that report what an object results in
abbrev pub judgement_lines : Judgement → List ℕ
judgement_lines (judgement.Misfit fault) = codes "refused: " ++ (fit_fault_name fault.kind ++ 10 ∷ [])
judgement_lines judgement.Pattern = codes "refused: Pattern" ++ 10 ∷ []
judgement_lines (judgement.Ran r) = ran_lines r

-- whether a level is true
abbrev pub is_true_level : Value-F Value → Bool
is_true_level (Value-F.Bool b) = b
is_true_level _ = false

-- whether there is a value and it is true
abbrev pub is_true : Outcome → Bool
is_true (Ok v) = is_true_level (out-Value v)
is_true (Err e) = false

-- how the program ends after what an object resulted in
abbrev pub status_of_judgement : Judgement → Status
status_of_judgement (judgement.Misfit fault) = Fault
status_of_judgement judgement.Pattern = Fault
status_of_judgement (judgement.Ran r) = if is_true r.outcome then Done else Fault

-- how the program ends if a file is not checked
abbrev pub status_without : CheckFailure → Status
status_without failure.Read = Stream
status_without failure.Write = Stream
status_without failure.OutOfMemory = OutOfMemory
