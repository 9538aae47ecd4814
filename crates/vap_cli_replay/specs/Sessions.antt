-- A replay under way.
use Rattle.std.specs.Prelude.{◌≡◌, ◌≤◌, ◌<◌, ◌+◌, ℕ, true, false, List, [], ◌∷◌, ◌++◌, length}
use Rattle.std.specs.Prelude.{slice_get, unwrap_or, option_and_then, Option, Some}
use Rattle.vap_read.specs.declared.event.Event.{Event}
use Rattle.vap_match.specs.declared.request.Request.{Request}
use Rattle.vap_watch.specs.Given.{Choice, no_choice, takes}
use Rattle.vap_watch.specs.Logs.{objects_of, publication}
use Rattle.vap_watch.specs.Places.{most_events}
use Rattle.vap_watch.specs.declared.log.Logged.{Logged}
use Rattle.vap_audit.specs.Entries.{most_entries}
use Rattle.vap_plane.specs.Answers.{verdicts_at}
use Rattle.vap_audit.specs.declared.entry.Entry.{Entry}
use Rattle.vap_policy_verdict.specs.declared.verdict.Verdict.{Verdict}
use Rattle.vap_cli_lines.specs.declared.answer.ReviewAnswer.{ReviewAnswer}
use Rattle.vap_cli_replay.specs.Groups.{TellsRequests}
use Rattle.vap_cli_replay.specs.Replay.{Choices, Sofar, answers_text, beginning, entry_of}
use Rattle.base_containers.specs.declared.lines.LineError.{LineError}
use Rattle.base_containers.specs.declared.lines.LineError.TheVariants as reading
use Rattle.base_containers.specs.declared.failed.Failed.{Failed}
use Rattle.base_containers.specs.declared.failed.Failed.TheVariants as failed
use Rattle.vap_watch.specs.declared.fault.PublishFault.{PublishFault}
use Rattle.vap_watch.specs.declared.fault.PublishFault.TheVariants as publishing
use Rattle.vap_watch.specs.declared.fault.StageFault.{StageFault}
use Rattle.vap_watch.specs.declared.fault.StageFault.TheVariants as staging
use Rattle.vap_cli_lines.specs.declared.fault.LineFault.{LineFault}
use Rattle.vap_cli_lines.specs.declared.fault.LineFault.TheVariants.{LogFull, TooManyObjects, Unverified}
use Rattle.vap_cli_replay.specs.declared.fault.ReplayError.{ReplayError}
use Rattle.vap_cli_replay.specs.declared.fault.ReplayError.TheVariants.{Line, Read, OutOfMemory}
use Rattle.vap_cli_replay.specs.declared.session.Session.{Session}

-- what is decided on the requests of a group at a log, if the first call has this number
abbrev pub group_entries : List Logged → ℕ → List Request → List Entry
group_entries log call [] = []
group_entries log call (request ∷ requests) = entry_of log call request ∷ group_entries log (call + 1) requests

-- what is decided on the reviews that wait in the group
abbrev pub waiting_entries : Session → List Entry
waiting_entries s = group_entries s.writer.published (length s.history) s.group.items

-- how far the stream is replayed, if the group is taken as answered
abbrev pub sofar_of : Session → Sofar
sofar_of s = record {
  lines = s.lines;
  log = s.writer.published;
  entries = s.history ++ waiting_entries s;
}

-- the most reviews that are judged together
abbrev pub largest_group : ℕ
largest_group = 1024

-- the verdicts are those on the reviews that wait, and the answers are those to them
pub record HasAnswers (s : Session) : Type 0 where
  pub verdicts : s.verdicts.items ≡ verdicts_at s.writer.published s.group.items
  pub answers : s.answers.items ≡ answers_text (waiting_entries s)

-- as many verdicts as reviews that wait are the verdicts on these, with the answers to them
abbrev pub AreJudged : Session → Type 0
AreJudged s = length s.verdicts.items ≡ length s.group.items → HasAnswers s

-- an answer is kept behind those to so many others
pub record IsKept (others : ℕ) (answer : Option ReviewAnswer) (verdicts : List Verdict) (text : List ℕ) (more : List Verdict)
    (longer : List ℕ) : Type 0 where
  pub kept : ReviewAnswer
  pub is : answer ≡ Some kept
  pub many : length verdicts ≡ others
  pub verdict : more ≡ verdicts ++ kept.verdict ∷ []
  pub line : longer ≡ text ++ kept.line.items

-- the group is no larger than it may be, and the history has room for it
pub record HasRoom (s : Session) : Type 0 where
  pub few : length s.group.items ≤ largest_group
  pub room : length s.history + length s.group.items ≤ most_entries
  pub judged : AreJudged s

-- nothing is staged, the group is not yet as large as it may be, and the history has room for it
pub record IsInStep (s : Session) : Type 0 where
  pub published : s.writer.staged ≡ []
  pub few : length s.group.items < largest_group
  pub room : length s.history + length s.group.items ≤ most_entries
  pub judged : AreJudged s

-- nothing is read, published or decided
pub record IsOpening (s : Session) : Type 0 where
  pub step : IsInStep s
  pub sofar : sofar_of s ≡ beginning
  pub none : s.group.items ≡ []

-- the group is answered, and nothing else has changed
pub record Answered (old new : Session) : Type 0 where
  pub log : new.writer ≡ old.writer
  pub lines : new.lines ≡ old.lines
  pub none : new.group.items ≡ []
  pub blank : new.answers.items ≡ []
  pub entries : new.history ≡ old.history ++ waiting_entries old

-- some of the group is decided, and nothing else has changed
pub record Decided (old new : Session) (entries : List Entry) : Type 0 where
  pub log : new.writer ≡ old.writer
  pub lines : new.lines ≡ old.lines
  pub answers : new.answers ≡ old.answers
  pub history : new.history ≡ old.history ++ entries

-- the choice that a log keeps at a revision
abbrev pub kept_at : List Logged → ℕ → Choice
kept_at log revision = unwrap_or (option_and_then (λ logged. logged.choice) (slice_get log revision)) no_choice

-- the choices are those that a log keeps
abbrev pub Agrees : Choices → List Logged → Type 0
Agrees choices log = (n : ℕ) → n < length log → choices (n + 1) ≡ kept_at log n

-- the line of the first review that waits, if the review of this line waits with those that wait already
abbrev pub first_with : List Request → ℕ → ℕ → ℕ
first_with [] first line = line
first_with (request ∷ requests) first line = first

-- a group that waits is not judged, which is reported at its first line
abbrev pub TellsGroup : Session → ℕ → LineFault → Type 0
TellsGroup s number why = TellsRequests s.first s.writer.published s.group.items number why

-- how a replay ends if a line cannot be read
abbrev pub error_of_line : LineError → ReplayError
error_of_line reading.Read = Read
error_of_line reading.OutOfMemory = OutOfMemory

-- how a replay ends if the event of a line is not staged
abbrev pub unstaged : ℕ → StageFault → ReplayError
unstaged line staging.LogFull = Line line LogFull
unstaged line staging.TooManyObjects = Line line TooManyObjects
unstaged line staging.OutOfMemory = OutOfMemory

-- how a replay ends if the event of a line is not published
abbrev pub unpublished : ℕ → Failed PublishFault → ReplayError
unpublished line (failed.Fault publishing.Unverified) = Line line Unverified
unpublished line failed.OutOfMemory = OutOfMemory

-- a log has room for an event, and goes on with it alone
pub record TakesEvent (log : List Logged) (event : Event) (new : List Logged) : Type 0 where
  pub room : length log < most_events
  pub fits : takes (objects_of log) event ≡ true
  pub choice : Choice
  pub grown : new ≡ log ++ publication choice (event ∷ [])

-- why an event is refused at a log
abbrev pub RefusesEvent : List Logged → Event → LineFault → Type 0
RefusesEvent log event LogFull = length log ≡ most_events
RefusesEvent log event TooManyObjects = (length log < most_events) × (takes (objects_of log) event ≡ false)
RefusesEvent log event _ = ⊥

-- the history has room for a review, which is answered or waits as the last
pub record TakesReview (request : Request) (old new : Session) : Type 0 where
  pub room : length (sofar_of old).entries < most_entries
  pub log : new.writer ≡ old.writer
  pub lines : new.lines ≡ old.lines
  pub entries : (sofar_of new).entries
      ≡ (sofar_of old).entries ++ entry_of old.writer.published (length (sofar_of old).entries) request ∷ []
