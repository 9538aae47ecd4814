-- The replay of a stream of lines: each event is published after those before it, and each review is answered at the log of the
-- events before it.
use Rattle.std.specs.Prelude.{ℕ, ◌+◌, nat_lt, Bool, ◌&&◌, if◌then◌else◌, List, [], ◌∷◌, ◌++◌, map, flat_map, length}
use Rattle.std.specs.Prelude.{is_none, Option, Some, None, Result, Ok, Err}
use Rattle.vap_read.specs.declared.event.Event.{Event}
use Rattle.vap_match.specs.declared.request.Request.{Request}
use Rattle.vap_policy_verdict.specs.AnswerText.{answer_text}
use Rattle.vap_watch.specs.Given.{Choice, takes}
use Rattle.vap_watch.specs.Logs.{objects_of, publication}
use Rattle.vap_watch.specs.Places.{most_events}
use Rattle.vap_watch.specs.declared.log.Logged.{Logged}
use Rattle.vap_audit.specs.Entries.{most_entries}
use Rattle.vap_audit.specs.declared.entry.Entry.{Entry}
use Rattle.vap_audit.specs.Verdicts.{verdict_at}
use Rattle.vap_cli_replay.specs.AuditLine.{audit_text}
use Rattle.vap_cli_lines.specs.declared.fault.LineFault.{LineFault}
use Rattle.vap_cli_lines.specs.declared.fault.LineFault.TheVariants.{LogFull, TooManyObjects, AuditFull}
use Rattle.vap_cli_lines.specs.declared.line.Line.{Line}
use Rattle.vap_cli_lines.specs.declared.line.Line.TheVariants.{Skipped, Happens, Asks, Refused}

-- the choice by which the set of each revision was built
abbrev pub Choices : Type 0
Choices = ℕ → Choice

-- how far a stream is replayed: how many lines, the log of their events, and what was decided on their reviews
pub record Sofar : Type 0 where
  pub lines : ℕ
  pub log : List Logged
  pub entries : List Entry

-- no line yet
abbrev pub beginning : Sofar
beginning = record { lines = 0; log = []; entries = [] }

-- a line that is refused, by its number, and why
pub record Refusal : Type 0 where
  pub line : ℕ
  pub fault : LineFault

-- what is decided on a request at a log, as the history has it
abbrev pub entry_of : List Logged → ℕ → Request → Entry
entry_of log call request = record { call = call; log = log; request = request; verdict = verdict_at log request; worker = 0 }

-- an event is published alone, as the log has room for it
abbrev pub after_event : Choices → Event → Sofar → Result Sofar LineFault
after_event choices event s =
    if nat_lt (length s.log) most_events
    then (if takes (objects_of s.log) event
    then Ok (record { lines = s.lines + 1; log = s.log ++ publication (choices (length s.log + 1)) (event ∷ []); entries = s.entries })
    else Err TooManyObjects)
    else Err LogFull

-- a review is answered at the log of the events before it, as the history has room for it
abbrev pub after_review : Request → Sofar → Result Sofar LineFault
after_review request s =
    if nat_lt (length s.entries) most_entries
    then Ok (record { lines = s.lines + 1; log = s.log; entries = s.entries ++ entry_of s.log (length s.entries) request ∷ [] })
    else Err AuditFull

-- one line more, or why it is refused
abbrev pub after_line : Choices → Line → Sofar → Result Sofar LineFault
after_line choices Skipped s = Ok (record { lines = s.lines + 1; log = s.log; entries = s.entries })
after_line choices (Happens event) s = after_event choices event s
after_line choices (Asks request) s = after_review request s
after_line choices (Refused f) s = Err f

-- the replay of a stream: what was decided, and the first line that is refused, if one is
pub record Replayed : Type 0 where
  pub entries : List Entry
  pub refusal : Option Refusal

-- what follows a line, or the end at a line that is refused
abbrev pub behind : Sofar → (Sofar → Replayed) → Result Sofar LineFault → Replayed
behind s rest (Ok t) = rest t
behind s rest (Err f) = record { entries = s.entries; refusal = Some (record { line = s.lines + 1; fault = f }) }

-- the replay of lines after others
abbrev pub replay_from : Choices → Sofar → List Line → Replayed
replay_from choices s [] = record { entries = s.entries; refusal = None }
replay_from choices s (line ∷ lines) = behind s (λ t. replay_from choices t lines) (after_line choices line s)

-- the replay of lines
abbrev pub replayed : Choices → List Line → Replayed
replayed choices lines = replay_from choices beginning lines

-- the line that answers an entry's request
abbrev pub answer_line : Entry → List ℕ
answer_line e = answer_text e.request.admission.uid e.verdict ++ 10 ∷ []

-- the line that the audit has for an entry
abbrev pub audit_line : Entry → List ℕ
audit_line e = audit_text e ++ 10 ∷ []

-- the answers, one line each
abbrev pub answers_text : List Entry → List ℕ
answers_text entries = flat_map answer_line entries

-- the audit, one line for each entry
abbrev pub audit_lines : List Entry → List ℕ
audit_lines entries = flat_map audit_line entries

-- the audit, if it is wanted
abbrev pub audit_where : Bool → List Entry → List ℕ
audit_where audit entries = if audit then audit_lines entries else []

-- the lines of the text of a stream: the answers, and after them the audit, if it is wanted and no line is refused
abbrev pub told_lines : Bool → Replayed → List (List ℕ)
told_lines audit r = map answer_line r.entries ++ (if audit && is_none r.refusal then map audit_line r.entries else [])

-- the text of a stream: the answers, and after them the audit, if it is wanted and no line is refused
abbrev pub text_of : Bool → Replayed → List ℕ
text_of audit r = answers_text r.entries ++ audit_where (audit && is_none r.refusal) r.entries

-- the text that is written for lines, and the first line that is refused, with its fault
abbrev pub replay_of : Choices → Bool → List Line → List ℕ × Option Refusal
replay_of choices audit lines = (text_of audit (replayed choices lines), (replayed choices lines).refusal)
