-- What a line of a stream is.
use Rattle.std.specs.Prelude.{◌≡◌, ◌≤◌, ◌<◌, ⊤, ℕ, Bool, true, false, ◌||◌, List, [], ◌∷◌, Contains, length}
use Rattle.std.specs.Prelude.{Some, None, Result, Ok, Err, IsUtf8}
use Rattle.std.specs.Str.{bytes_eq}
use Rattle.serde_json.specs.Read.{read as read_text}
use Rattle.serde_json.specs.Data.{Data}
use Rattle.vap_read.specs.Lines.{line_kind}
use Rattle.vap_read.specs.Reading.{read_line}
use Rattle.vap_read.specs.declared.line.LineKind.{LineKind}
use Rattle.vap_read.specs.declared.line.LineKind.TheVariants as kind
use Rattle.vap_read.specs.declared.event.Event.{Event}
use Rattle.vap_read.specs.declared.event_fault.EventFault.{EventFault}
use Rattle.vap_match.specs.RequestReading.{read_review}
use Rattle.vap_match.specs.declared.request.Request.{Request}
use Rattle.vap_match.specs.declared.review_fault.ReviewFault.{ReviewFault}
use Rattle.base_containers.specs.Lines.{longest_line}
use Rattle.vap_cli_lines.specs.declared.fault.LineFault.TheVariants as fault
use Rattle.vap_cli_lines.specs.declared.line.Line.{Line}
use Rattle.vap_cli_lines.specs.declared.line.Line.TheVariants.{Skipped, Happens, Asks, Refused}

-- whether a line is empty, or a carriage return alone
abbrev pub is_blank : List ℕ → Bool
is_blank bytes = bytes_eq bytes [] || bytes_eq bytes (13 ∷ [])

-- the line of an event, or of its fault
abbrev pub event_line : Result Event EventFault → Line
event_line (Ok event) = Happens event
event_line (Err f) = Refused (fault.OfEvent f)

-- the line of a review, or of its fault
abbrev pub review_line : Result Request ReviewFault → Line
review_line (Ok request) = Asks request
review_line (Err f) = Refused (fault.OfReview f)

-- what a document of this kind is
abbrev pub line_by : LineKind → Data → Line
line_by kind.WatchEvent d = event_line (read_line kind.WatchEvent d)
line_by kind.ObjectList d = event_line (read_line kind.ObjectList d)
line_by kind.Review d = review_line (read_review d)
line_by kind.Unknown d = Refused fault.UnknownLine

-- what a document is
abbrev pub line_of : Data → Line
line_of d = line_by (line_kind d) d

-- the text spells a document, and the line is what this is
pub record Spells (bytes : List ℕ) (line : Line) : Type 0 where
  pub document : Data
  pub text : IsUtf8 bytes
  pub spelled : read_text bytes ≡ Some document
  pub is : line ≡ line_of document

-- the bytes are no text, or spell no document
abbrev pub SpellsNone : List ℕ → Type 0
SpellsNone bytes = IsUtf8 bytes → read_text bytes ≡ None

-- what a text that is neither blank nor too long is read as
abbrev pub ReadsText : List ℕ → Line → Type 0
ReadsText bytes (Refused fault.BadJson) = SpellsNone bytes
ReadsText bytes line = Spells bytes line

-- what the bytes of a line are read as
abbrev pub Reads : List ℕ → Line → Type 0
Reads bytes Skipped = is_blank bytes ≡ true
Reads bytes (Refused fault.TooLong) = longest_line < length bytes
Reads bytes line = (is_blank bytes ≡ false) × (length bytes ≤ longest_line) × ReadsText bytes line

-- what the bytes of each line are read as
abbrev pub EachReads : List (List ℕ) → List Line → Type 0
EachReads [] [] = ⊤
EachReads (bytes ∷ rest) (line ∷ lines) = Reads bytes line × EachReads rest lines
EachReads _ _ = ⊥

-- one of these lines is a review with this request
pub record IsAskedIn (lines : List (List ℕ)) (request : Request) : Type 0 where
  pub bytes : List ℕ
  pub line : Contains lines bytes
  pub read : Reads bytes (Asks request)
