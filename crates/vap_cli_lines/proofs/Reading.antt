-- What a document is as a line.
use Rattle.std.proofs.Common.{◌≡◌, ◌≤◌, ℕ, List, length, false, Option, Some, None, Result, Ok, Err, refl}
use Rattle.std.specs.Prelude.{IsUtf8, IfOk}
use Rattle.serde_json.specs.Read.{read as read_text}
use Rattle.serde_json.specs.Data.{Data}
use Rattle.base_containers.specs.Lines.{longest_line}
use Rattle.vap_read.specs.Lines.{line_kind}
use Rattle.vap_read.specs.Reading.{read_line}
use Rattle.vap_read.specs.declared.event.Event.{Event}
use Rattle.vap_read.specs.declared.event_fault.EventFault.{EventFault}
use Rattle.vap_read.specs.declared.line.LineKind.{LineKind}
use Rattle.vap_read.specs.declared.line.LineKind.TheVariants as kind
use Rattle.vap_match.specs.Faults.{least_fault}
use Rattle.vap_match.specs.ReaderAnswers.{unless}
use Rattle.vap_match.specs.RequestReading.{read_review, request_of}
use Rattle.vap_match.specs.declared.request.Request.{Request}
use Rattle.vap_match.specs.declared.review_fault.ReviewFault.{ReviewFault}
use Rattle.vap_watch.specs.declared.log.Logged.{Logged}
use Rattle.vap_cli_lines.specs.Judged.{IsJudgedAt, IsOfReview}
use Rattle.vap_cli_lines.specs.Lines.{Reads, Spells, event_line, is_blank, line_by, line_of, review_line}
use Rattle.vap_cli_lines.specs.declared.line.Line.{Line}
use Rattle.vap_cli_lines.specs.declared.line.Line.TheVariants.{Skipped, Happens, Asks, Refused}

-- the line of an event, or of its fault, is what the bytes spell
of_event : (bytes : List ℕ) (r : Result Event EventFault) → is_blank bytes ≡ false → length bytes ≤ longest_line
    → Spells bytes (event_line r) → Reads bytes (event_line r)
of_event bytes (Ok event) some short spelled = (some, short, spelled)
of_event bytes (Err f) some short spelled = (some, short, spelled)

of_review : (bytes : List ℕ) (r : Result Request ReviewFault) → is_blank bytes ≡ false → length bytes ≤ longest_line
    → Spells bytes (review_line r) → Reads bytes (review_line r)
of_review bytes (Ok request) some short spelled = (some, short, spelled)
of_review bytes (Err f) some short spelled = (some, short, spelled)

of_kind : (bytes : List ℕ) (k : LineKind) (d : Data) → is_blank bytes ≡ false → length bytes ≤ longest_line
    → Spells bytes (line_by k d) → Reads bytes (line_by k d)
of_kind bytes kind.WatchEvent d some short spelled =
    of_event bytes (read_line kind.WatchEvent d) some short spelled
of_kind bytes kind.ObjectList d some short spelled =
    of_event bytes (read_line kind.ObjectList d) some short spelled
of_kind bytes kind.Review d some short spelled = of_review bytes (read_review d) some short spelled
of_kind bytes kind.Unknown d some short spelled = (some, short, spelled)

reads_line : (bytes : List ℕ) (line : Line) (d : Data) → is_blank bytes ≡ false → length bytes ≤ longest_line → IsUtf8 bytes
    → read_text bytes ≡ Some d → line ≡ line_of d → Reads bytes line
reads_line bytes line d some short text spelled is =
    rw is (of_kind bytes (line_kind d) d some short
    (record { document = d; text = text; spelled = spelled; is = refl }))

-- a text that is neither blank nor too long is read as what it spells
pub reads_each : {E : Type 0} (r : Result Line E) (bytes : List ℕ) (d : Data) → is_blank bytes ≡ false → length bytes ≤ longest_line
    → IsUtf8 bytes × (read_text bytes ≡ Some d) → IfOk r (λ line. line ≡ line_of d) → IfOk r (Reads bytes)
reads_each (Ok line) bytes d some short spelled is = reads_line bytes line d some short spelled.0 spelled.1 is
reads_each (Err e) bytes d some short spelled is = tt

-- the document of a review is the one that it was read off
event_without : (r : Result Event EventFault) (d : Data) → IsOfReview (event_line r) d
event_without (Ok event) d = tt
event_without (Err f) d = tt

review_with : (f : Option ReviewFault) (d : Data) → IsOfReview (review_line (unless (request_of d) f)) d
review_with None d = refl
review_with (Some f) d = tt

kind_with : (k : LineKind) (d : Data) → IsOfReview (line_by k d) d
kind_with kind.WatchEvent d = event_without (read_line kind.WatchEvent d) d
kind_with kind.ObjectList d = event_without (read_line kind.ObjectList d) d
kind_with kind.Review d = review_with (least_fault d) d
kind_with kind.Unknown d = tt

pub of_each_review : {E : Type 0} (r : Result Line E) (d : Data) → IfOk r (λ line. line ≡ line_of d) → IfOk r (λ line. IsOfReview line d)
of_each_review (Ok line) d is = rw is (kind_with (line_kind d) d)
of_each_review (Err e) d is = tt

-- of a line that is not judged nothing is said
pub not_judged : (log : List Logged) (line : Line) → IsJudgedAt log line None
not_judged log Skipped = tt
not_judged log (Happens event) = tt
not_judged log (Asks request) = tt
not_judged log (Refused f) = tt
