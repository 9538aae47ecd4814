-- How a replay goes on from line to line.
use Rattle.std.specs.Prelude.{◌≡◌, ◌≢◌, ◌⊎◌, ◌+◌, List, [], ◌∷◌, ◌++◌, Contains, ℕ, Option, IfSome, IsErrOf, OnOk, Result, Ok, Err}
use Rattle.std.specs.Io.KnownBytes.{Appends, IsAtEnd}
use Rattle.base_containers.specs.Counted.{failures_of, inner_of, one_more}
use Rattle.base_containers.specs.Lines.{IsFirst, lines_of}
use Rattle.base_containers.specs.declared.counted.Counted.{Counted}
use Rattle.base_containers.specs.declared.lines.Ending.{Ending}
use Rattle.base_containers.specs.declared.lines.Ending.TheVariants.{End, TooLong}
use Rattle.vap_read.specs.declared.event.Event.{Event}
use Rattle.vap_match.specs.declared.request.Request.{Request}
use Rattle.vap_watch.specs.Given.{AreUnverified}
use Rattle.vap_watch.specs.Logs.{objects_after, objects_of, set_of}
use Rattle.vap_audit.specs.declared.entry.Entry.{Entry}
use Rattle.vap_audit.specs.Verdicts.{MayMatch}
use Rattle.vap_cli_lines.specs.Lines.{EachReads, Reads}
use Rattle.vap_cli_replay.specs.Replay.{Choices, Sofar, after_line, answers_text, beginning}
use Rattle.vap_cli_replay.specs.Sessions.{Agrees, first_with, sofar_of, waiting_entries}
use Rattle.vap_cli_lines.specs.declared.fault.LineFault.{LineFault}
use Rattle.vap_cli_lines.specs.declared.fault.LineFault.TheVariants as fault
use Rattle.vap_cli_replay.specs.declared.fault.ReplayError.{ReplayError}
use Rattle.vap_cli_replay.specs.declared.fault.ReplayError.TheVariants.{Write}
use Rattle.vap_cli_lines.specs.declared.line.Line.{Line}
use Rattle.vap_cli_lines.specs.declared.line.Line.TheVariants.{Happens, Asks, Refused}
use Rattle.vap_cli_replay.specs.declared.session.Session.{Session}

-- what follows lines that were taken
abbrev pub and_then : (Sofar → Result Sofar LineFault) → Result Sofar LineFault → Result Sofar LineFault
and_then next (Ok s) = next s
and_then next (Err f) = Err f

-- how far a stream is replayed after some lines more, or why one of them is refused
abbrev pub after_lines : Choices → List Line → Sofar → Result Sofar LineFault
after_lines choices [] s = Ok s
after_lines choices (line ∷ lines) s = and_then (λ t. after_lines choices lines t) (after_line choices line s)

-- the lines that bytes with this ending are: the empty end of a text is no line
abbrev pub lines_ended : Ending → List ℕ → List (List ℕ)
lines_ended End [] = []
lines_ended _ bytes = bytes ∷ []

-- the history has some entries more, and their answers are written, nothing else
pub record Writes {W : Type 0} (contents : W → Option (List ℕ)) (old new : Session) (before after : Counted W) : Type 0 where
  pub answered : List Entry
  pub grown : new.history ≡ old.history ++ answered
  pub written : Appends (contents (inner_of before)) (contents (inner_of after)) (answers_text answered)

-- a line was taken
abbrev pub Takes : Line → Session → Session → Type 0
Takes line old new =
    (choices : Choices) → Agrees choices new.writer.published → after_line choices line (sofar_of old) ≡ Ok (sofar_of new)

-- reviews wait after a line: nothing was published or answered with it, and each of them, the first too, waited before it or is
-- the line's
pub record Waits (Is : Line → Type 0) (old new : Session) : Type 0 where
  pub log : new.writer.published ≡ old.writer.published
  pub history : new.history ≡ old.history
  pub first : new.first ≡ first_with old.group.items old.first (old.lines + 1)
  pub review : old.group.items ≡ [] → (request : Request) × Is (Asks request)
  pub each : (request : Request) → Contains new.group.items request → Contains old.group.items request ⊎ Is (Asks request)

-- the reviews that wait with the line are not judged, which is reported at the first of them, and nothing is written: at one of them
-- the set of the log looks for a pattern
pub record IsUnjudged {W : Type 0} (Is : Line → Type 0) (old : Session) (before after : Counted W) (number : ℕ) : Type 0 where
  pub unwritten : after ≡ before
  pub numbered : number ≡ first_with old.group.items old.first (old.lines + 1)
  pub review : old.group.items ≡ [] → (request : Request) × Is (Asks request)
  pub asked : Request
  pub waits : Contains old.group.items asked ⊎ Is (Asks asked)
  pub matches : MayMatch (set_of old.writer.published) asked

-- the line's event is not published: the verifier refuses an image of the objects after it. The answers to the reviews before it
-- are written
pub record IsUnpublished {W : Type 0} (contents : W → Option (List ℕ)) (Is : Line → Type 0) (old : Session) (before after : Counted W)
    (number : ℕ) : Type 0 where
  pub event : Event
  pub line : Is (Happens event)
  pub numbered : number ≡ old.lines + 1
  pub unverified : AreUnverified (objects_after (objects_of old.writer.published) (event ∷ []))
  pub written : Appends (contents (inner_of before)) (contents (inner_of after)) (answers_text (waiting_entries old))

-- the bytes of a line with this ending are read as this line
pub record IsReadAs (ending : Ending) (bytes : List ℕ) (line : Line) : Type 0 where
  pub one : lines_ended ending bytes ≡ bytes ∷ []
  pub short : ending ≢ TooLong
  pub read : Reads bytes line

-- the first line of a text is read as this one
pub record BeginsWith (text : List ℕ) (line : Line) : Type 0 where
  pub first : List ℕ
  pub others : List (List ℕ)
  pub split : lines_of text ≡ first ∷ others
  pub read : Reads first line

-- some bytes of lines were taken
pub record Advances (ending : Ending) (bytes : List ℕ) (old new : Session) : Type 0 where
  pub lines : List Line
  pub read : EachReads (lines_ended ending bytes) lines
  pub taken : (choices : Choices) → Agrees choices new.writer.published → after_lines choices lines (sofar_of old) ≡ Ok (sofar_of new)
  pub waiting : new.group.items ≢ [] → Waits (IsReadAs ending bytes) old new

-- all lines of these bytes were taken
pub record Reaches (bytes : List (List ℕ)) (session : Session) : Type 0 where
  pub lines : List Line
  pub read : EachReads bytes lines
  pub taken : (choices : Choices) → Agrees choices session.writer.published → after_lines choices lines beginning ≡ Ok (sofar_of session)

-- the input is read to its end, and all answers are written
pub record IsRead {R W : Type 0} (remaining : R → Option (List ℕ)) (contents : W → Option (List ℕ)) (input : Counted R)
    (output : Counted W) (left : Counted R) (after : Counted W) (session : Session) : Type 0 where
  pub at_end : IsAtEnd (remaining (inner_of left))
  pub whole : IfSome (remaining (inner_of input)) (λ bytes. Reaches (lines_of bytes) session)
  pub none : session.group.items ≡ []
  pub written : Appends (contents (inner_of output)) (contents (inner_of after)) (answers_text session.history)

-- what the bytes of a line with this ending are read as
abbrev pub ReadsEnded : Ending → List ℕ → Line → Type 0
ReadsEnded TooLong bytes line = line ≡ Refused fault.TooLong
ReadsEnded _ bytes line = Reads bytes line

-- the line that was read last is refused with this fault, and the answers to the reviews before it are written
pub record IsRefusal {W : Type 0} (contents : W → Option (List ℕ)) (fault : LineFault) (old : Session) (before after : Counted W)
    (number : ℕ) (why : LineFault) : Type 0 where
  pub numbered : number ≡ old.lines
  pub same : why ≡ fault
  pub written : Appends (contents (inner_of before)) (contents (inner_of after)) (answers_text (waiting_entries old))

-- the line is refused with this fault and this number, and the answers to the reviews before it are written
pub record RefusesAt {W : Type 0} (contents : W → Option (List ℕ)) (line : Line) (old : Session) (before after : Counted W)
    (number : ℕ) (why : LineFault) : Type 0 where
  pub numbered : number ≡ old.lines + 1
  pub refused : (choices : Choices) → Agrees choices old.writer.published → after_line choices line (sofar_of old) ≡ Err why
  pub written : Appends (contents (inner_of before)) (contents (inner_of after)) (answers_text (waiting_entries old))

-- the same for the bytes of a line with this ending
pub record RefusesBytes {W : Type 0} (contents : W → Option (List ℕ)) (ending : Ending) (bytes : List ℕ) (old : Session)
    (before after : Counted W) (number : ℕ) (why : LineFault) : Type 0 where
  pub one : lines_ended ending bytes ≡ bytes ∷ []
  pub line : Line
  pub read : ReadsEnded ending bytes line
  pub refused : RefusesAt contents line old before after number why

-- the next line was taken: the first text was unread before it, the second is unread after it, and the text goes on only after a
-- line feed
pub record TakesNext (text left : Option (List ℕ)) (ending : Ending) (old new : Session) : Type 0 where
  pub bytes : List ℕ
  pub first : IsFirst text left bytes ending
  pub advances : Advances ending bytes old new
  pub short : ending ≢ TooLong
  pub at_end : ending ≡ End → IsAtEnd left

-- the first line of a text is refused with this fault and this number
pub record RefusesNext {W : Type 0} (contents : W → Option (List ℕ)) (text : List ℕ) (old : Session) (before after : Counted W)
    (number : ℕ) (why : LineFault) : Type 0 where
  pub first : List ℕ
  pub others : List (List ℕ)
  pub split : lines_of text ≡ first ∷ others
  pub line : Line
  pub read : Reads first line
  pub refused : RefusesAt contents line old before after number why

-- the answers to the first of the waiting reviews are written, and nothing else
pub record StopsAt {W : Type 0} (contents : W → Option (List ℕ)) (old : Session) (before after : Counted W) : Type 0 where
  pub answered : List Entry
  pub others : List Entry
  pub first : waiting_entries old ≡ answered ++ others
  pub written : Appends (contents (inner_of before)) (contents (inner_of after)) (answers_text answered)

-- a write has failed if that is reported, and none if all went well
pub record CountsWrites {A W : Type 0} (result : Result A ReplayError) (before after : Counted W) : Type 0 where
  pub all : OnOk result (failures_of after ≡ failures_of before)
  pub failed : IsErrOf result Write → failures_of after ≡ one_more (failures_of before)
