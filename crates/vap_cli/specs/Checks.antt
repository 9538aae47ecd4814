-- What a checked file results in, by the definitions of schemas, of fit and of the language.
use Rattle.std.specs.Prelude.{◌≡◌, ◌≤◌, ℕ, List, [], ◌∷◌, codes, length, Option, Some, None, Result, Ok, Err, option_and_then}
use Rattle.std.specs.Io.KnownBytes.{Appends, Consumes, IsAtEnd}
use Rattle.base_containers.specs.declared.text.Keyed.{Keyed}
use Rattle.serde_json.specs.Data.{Data}
use Rattle.serde_json.specs.Find.{get, as_str}
use Rattle.cel_value.specs.declared.value.Value.{Value}
use Rattle.cel_value.specs.declared.cel_type.CelType.{CelType}
use Rattle.cel_expression.specs.Source.{Source}
use Rattle.cel_expression.specs.Expressions.{run_of, compiled_of, estimate_at}
use Rattle.cel_expression.specs.Faulty.{IsUnverified}
use Rattle.cel_expression.specs.Patterns.{MayMatch}
use Rattle.vap_schema.specs.Seen.{seen}
use Rattle.vap_schema.specs.Schemas.{object_type_of}
use Rattle.vap_schema.specs.declared.schema_fault.SchemaFault.{SchemaFault}
use Rattle.vap_cli.specs.declared.status.Status.{Status}
use Rattle.vap_cli.specs.declared.status.Status.TheVariants.{Done, Fault}
use Rattle.vap_cli.specs.declared.refusal.FileRefusal.{FileRefusal}
use Rattle.vap_cli.specs.declared.refusal.FileRefusal.TheVariants as refusal
use Rattle.vap_cli.specs.declared.judgement.Judgement.{Judgement}
use Rattle.vap_cli.specs.declared.judgement.Judgement.TheVariants as judgement
use Rattle.vap_cli.specs.declared.made.Made.{Made}
use Rattle.vap_cli.specs.Documents.{IsUnread, Spells, longest}
use Rattle.vap_cli.specs.Report.{refused_line, estimate_line, judgement_lines, status_of_judgement}

-- the one name in scope, with its type
abbrev pub names_over : CelType → List (Keyed CelType)
names_over t = record { key = codes "object"; value = t } ∷ []

-- an expression over the objects of a type, by a choice of texts that are taken as no patterns
abbrev pub source_over : List (List ℕ) → CelType → List ℕ → Source
source_over choice t text = record { choice = choice; names = names_over t; text = text }

-- ---- the expression

-- what an expression over the objects of a type results in by a choice: itself if it may be run, or why it may not
abbrev pub IsMadeBy : List (List ℕ) → CelType → List ℕ → Result Source FileRefusal → Type 0
IsMadeBy choice t text (Ok s) = (s ≡ source_over choice t text) × (compiled_of s ≡ Ok s)
IsMadeBy choice t text (Err refusal.TooLong) = ⊥
IsMadeBy choice t text (Err refusal.BadJson) = ⊥
IsMadeBy choice t text (Err (refusal.Schema fault)) = ⊥
IsMadeBy choice t text (Err (refusal.Text why)) = compiled_of (source_over choice t text) ≡ Err why
IsMadeBy choice t text (Err (refusal.Unverified at)) = IsUnverified (source_over choice t text) at

-- the same by some choice
pub record IsMadeOver (t : CelType) (text : List ℕ) (made : Result Source FileRefusal) : Type 0 where
  pub choice : List (List ℕ)
  pub is : IsMadeBy choice t text made

-- an expression with the type of its objects, or why there is none
abbrev pub IsMade : CelType → List ℕ → Result Made FileRefusal → Type 0
IsMade t text (Ok made) = (made.schema ≡ t) × IsMadeOver t text (Ok made.compiled)
IsMade t text (Err why) = IsMadeOver t text (Err why)

-- the same over a schema, whose fault comes before those of the expression
abbrev pub IsMadeUnder : Result CelType SchemaFault → List ℕ → Result Made FileRefusal → Type 0
IsMadeUnder (Ok t) text made = IsMade t text made
IsMadeUnder (Err fault) text made = made ≡ Err (refusal.Schema fault)

-- the same for a schema and the text of an expression, if they are there
abbrev pub IsMadeFrom : Option Data → Option (List ℕ) → Result Made FileRefusal → Type 0
IsMadeFrom (Some schema) (Some text) made = IsMadeUnder (object_type_of schema) text made
IsMadeFrom (Some schema) None made = made ≡ Err refusal.BadJson
IsMadeFrom None text made = made ≡ Err refusal.BadJson

-- the same for a document
abbrev pub IsMadeIn : Data → Result Made FileRefusal → Type 0
IsMadeIn d made = IsMadeFrom (get (codes "schema") d) (option_and_then as_str (get (codes "expression") d)) made

-- ---- the object

-- what an expression results in if its one name holds a value: if a pattern that was built is not built again, all that is
-- reported is that it gives `matches` a literal text
abbrev pub IsRun : Source → Value → Judgement → Type 0
IsRun s v (judgement.Misfit fault) = ⊥
IsRun s v judgement.Pattern = MayMatch s
IsRun s v (judgement.Ran r) = run_of s (Ok v ∷ []) ≡ Some (record { outcome = r.outcome; charged = r.charged })

-- a value that an object is, and what the expression results in there
pub record IsRunAt (made : Made) (d : Data) (j : Judgement) : Type 0 where
  pub value : Value
  pub fits : seen (codes "object") made.schema d ≡ Ok value
  pub ran : IsRun made.compiled value j

-- what an object results in
abbrev pub IsJudged : Made → Data → Judgement → Type 0
IsJudged made d (judgement.Misfit fault) = seen (codes "object") made.schema d ≡ Err fault
IsJudged made d judgement.Pattern = IsRunAt made d judgement.Pattern
IsJudged made d (judgement.Ran r) = IsRunAt made d (judgement.Ran r)

-- ---- what is written

-- what an object results in was reported
pub record TellsObject (made : Made) (d : Data) (old new : Option (List ℕ)) (status : Status) : Type 0 where
  pub judgement : Judgement
  pub judged : IsJudged made d judgement
  pub written : Appends old new (judgement_lines judgement)
  pub ended : status ≡ status_of_judgement judgement

-- what an expression may charge was reported, and then what the object results in, if there is one
pub record TellsBoth (made : Made) (d : Data) (old new : Option (List ℕ)) (status : Status) : Type 0 where
  pub between : Option (List ℕ)
  pub first : Appends old between (estimate_line (estimate_at made.compiled))
  pub then_object : TellsObject made d between new status

-- the same, also if there is no object
abbrev pub TellsMade : Made → Option Data → Option (List ℕ) → Option (List ℕ) → Status → Type 0
TellsMade made None old new status = Appends old new (estimate_line (estimate_at made.compiled)) × (status ≡ Done)
TellsMade made (Some d) old new status = TellsBoth made d old new status

-- why a file is refused was reported
abbrev pub TellsRefused : FileRefusal → Option (List ℕ) → Option (List ℕ) → Status → Type 0
TellsRefused why old new status = Appends old new (refused_line why) × (status ≡ Fault)

-- what was reported for an expression, or why there is none
abbrev pub TellsResult : Result Made FileRefusal → Option Data → Option (List ℕ) → Option (List ℕ) → Status → Type 0
TellsResult (Ok made) object old new status = TellsMade made object old new status
TellsResult (Err why) object old new status = TellsRefused why old new status

-- what a document results in was reported
pub record TellsDocument (d : Data) (old new : Option (List ℕ)) (status : Status) : Type 0 where
  pub made : Result Made FileRefusal
  pub is : IsMadeIn d made
  pub told : TellsResult made (get (codes "object") d) old new status

-- what bytes result in: their document, or why they are none
pub data TellsBytes (bytes : List ℕ) (old new : Option (List ℕ)) (status : Status) : Type 0 where
  Read : length bytes ≤ longest → (d : Data) → Spells bytes d → TellsDocument d old new status → TellsBytes bytes old new status
  Unread : (why : FileRefusal) → IsUnread bytes why → TellsRefused why old new status → TellsBytes bytes old new status

-- what a file results in was reported: all its bytes were taken, or more than it may have
pub record TellsFile (file_old file_new old new : Option (List ℕ)) (status : Status) : Type 0 where
  pub bytes : List ℕ
  pub taken : Consumes file_old file_new bytes
  pub whole : length bytes ≤ longest → IsAtEnd file_new
  pub told : TellsBytes bytes old new status
