-- What is reported for an object, an expression, a document and a file, from what is reported for its parts.
use Rattle.std.specs.Prelude.{◌≡◌, ◌≤◌, ℕ, List, codes, length, Option, Some, Result, Ok, Err, IfOk, OnOk}
use Rattle.std.specs.Io.KnownBytes.{Appends, Consumes, IsAtEnd}
use Rattle.serde_json.specs.Data.{Data}
use Rattle.serde_json.specs.Find.{get}
use Rattle.cel_expression.specs.Expressions.{estimate_at}
use Rattle.vap_cli.specs.declared.status.Status.TheVariants.{Fault}
use Rattle.vap_cli.specs.declared.check.Ended.{Ended}
use Rattle.vap_cli.specs.declared.failure.CheckFailure.{CheckFailure}
use Rattle.vap_cli.specs.declared.judgement.Judgement.{Judgement}
use Rattle.vap_cli.specs.declared.made.Made.{Made}
use Rattle.vap_cli.specs.declared.refusal.FileRefusal.{FileRefusal}
use Rattle.vap_cli.specs.Checks.{IsJudged, IsMadeIn, TellsObject, TellsMade, TellsRefused, TellsResult, TellsDocument, TellsBytes}
use Rattle.vap_cli.specs.Checks.{TellsFile, Read, Unread}
use Rattle.vap_cli.specs.Documents.{IsUnread, Spells, longest}
use Rattle.vap_cli.specs.Report.{estimate_line, judgement_lines, refused_line, status_of_judgement}

-- how reporting ended
abbrev pub Telling : Type 0
Telling = Result Ended CheckFailure

pub tells_object : (made : Made) (d : Data) (j : Judgement) (old new : Option (List ℕ)) (r : Telling) → IsJudged made d j
    → OnOk r (Appends old new (judgement_lines j)) → IfOk r (λ ended. ended.status ≡ status_of_judgement j)
    → IfOk r (λ ended. TellsObject made d old new ended.status)
tells_object made d j old new (Ok ended) is written status = record { judgement = j; judged = is; written = written; ended = status }
tells_object made d j old new (Err why) is written status = tt

pub tells_both : (made : Made) (object : Option Data) (d : Data) (old between new : Option (List ℕ)) (r : Telling) → object ≡ Some d
    → Appends old between (estimate_line (estimate_at made.compiled)) → IfOk r (λ ended. TellsObject made d between new ended.status)
    → IfOk r (λ ended. TellsMade made object old new ended.status)
tells_both made object d old between new (Ok ended) is first behind =
    rw is (record { between = between; first = first; then_object = behind })
tells_both made object d old between new (Err why) is first behind = tt

pub tells_refused : (why : FileRefusal) (old new : Option (List ℕ)) (r : Telling)
    → OnOk r (Appends old new (refused_line why)) → IfOk r (λ ended. ended.status ≡ Fault)
    → IfOk r (λ ended. TellsRefused why old new ended.status)
tells_refused why old new (Ok ended) written status = (written, status)
tells_refused why old new (Err failure) written status = tt

pub tells_document : (d : Data) (made : Result Made FileRefusal) (old new : Option (List ℕ)) (r : Telling) → IsMadeIn d made
    → IfOk r (λ ended. TellsResult made (get (codes "object") d) old new ended.status)
    → IfOk r (λ ended. TellsDocument d old new ended.status)
tells_document d made old new (Ok ended) is told = record { made = made; is = is; told = told }
tells_document d made old new (Err failure) is told = tt

-- for a file whose bytes were taken, what they result in is reported
pub tells_file : (bytes : List ℕ) (file_old file_new old new : Option (List ℕ)) (r : Telling) → Consumes file_old file_new bytes
    → (length bytes ≤ longest → IsAtEnd file_new) → IfOk r (λ ended. TellsBytes bytes old new ended.status)
    → IfOk r (λ ended. TellsFile file_old file_new old new ended.status)
tells_file bytes file_old file_new old new (Ok ended) taken whole told = record { bytes = bytes; taken = taken; whole = whole; told = told }
tells_file bytes file_old file_new old new (Err failure) taken whole told = tt

-- for bytes that spell a document, what it results in is reported
pub tells_read : (bytes : List ℕ) (d : Data) (old new : Option (List ℕ)) (r : Telling) → length bytes ≤ longest → Spells bytes d
    → IfOk r (λ ended. TellsDocument d old new ended.status) → IfOk r (λ ended. TellsBytes bytes old new ended.status)
tells_read bytes d old new (Ok ended) short spells told = Read short d spells told
tells_read bytes d old new (Err failure) short spells told = tt

-- for bytes that are no document, the reason is reported
pub tells_unread : (bytes : List ℕ) (why : FileRefusal) (old new : Option (List ℕ)) (r : Telling) → IsUnread bytes why
    → IfOk r (λ ended. TellsRefused why old new ended.status) → IfOk r (λ ended. TellsBytes bytes old new ended.status)
tells_unread bytes why old new (Ok ended) is told = Unread why is told
tells_unread bytes why old new (Err failure) is told = tt
