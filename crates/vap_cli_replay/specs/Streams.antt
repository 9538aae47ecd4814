-- What a replay leaves of its input and its output.
use Rattle.std.specs.Prelude.{◌≡◌, ◌+◌, ⊤, ℕ, Bool, true, false, ◌&&◌, nat_le, List, [], ◌∷◌, ◌++◌, drop, flat_map, length, take}
use Rattle.std.specs.Prelude.{Option, None, Some, Ok}
use Rattle.std.specs.Io.KnownBytes.{Appends}
use Rattle.base_containers.specs.Lines.{lines_of}
use Rattle.vap_read.specs.declared.event.Event.{Event}
use Rattle.vap_match.specs.declared.request.Request.{Request}
use Rattle.vap_watch.specs.Given.{AreUnverified}
use Rattle.vap_watch.specs.Logs.{objects_after, objects_of, set_of}
use Rattle.vap_audit.specs.Verdicts.{MayMatch}
use Rattle.vap_cli_lines.specs.Lines.{EachReads, IsAskedIn}
use Rattle.vap_cli_replay.specs.Moves.{after_lines}
use Rattle.vap_cli_replay.specs.Replay.{Choices, Refusal, Sofar, answers_text, beginning, replay_of, replayed, told_lines}
use Rattle.vap_cli_lines.specs.declared.fault.LineFault.{LineFault}
use Rattle.vap_cli_lines.specs.declared.fault.LineFault.TheVariants as fault
use Rattle.vap_cli_lines.specs.declared.line.Line.{Line}
use Rattle.vap_cli_lines.specs.declared.line.Line.TheVariants.{Happens, Asks, Refused}

-- whether the lines alone determine a fault: they do not if it is that of a set or a pattern that cannot be built, or of workers
abbrev pub is_of_the_lines : LineFault → Bool
is_of_the_lines fault.Unverified = false
is_of_the_lines fault.Pattern = false
is_of_the_lines fault.Stray = false
is_of_the_lines fault.NoPlace = false
is_of_the_lines (fault.OfWorkers f) = false
is_of_the_lines _ = true

-- if a line is refused as it is read, the lines alone determine this
abbrev pub IsPlain : Line → Type 0
IsPlain (Refused why) = is_of_the_lines why ≡ true
IsPlain _ = ⊤

-- the whole text of the input was replayed, no line is refused, and what was written is the text of its lines, by some choice
-- for each revision
pub record Replays (audit : Bool) (input : List ℕ) (old new : Option (List ℕ)) : Type 0 where
  pub choices : Choices
  pub lines : List Line
  pub read : EachReads (lines_of input) lines
  pub accepted : (replay_of choices audit lines).1 ≡ None
  pub written : Appends old new (replay_of choices audit lines).0

-- this line is the first that is refused, with this fault, and what was written is the text of the lines up to it
pub record Refuses (audit : Bool) (input : List ℕ) (old new : Option (List ℕ)) (refusal : Refusal) : Type 0 where
  pub choices : Choices
  pub lines : List Line
  pub read : EachReads (take refusal.line (lines_of input)) lines
  pub refused : (replay_of choices audit lines).1 ≡ Some refusal
  pub written : Appends old new (replay_of choices audit lines).0

-- whether there are no more than so many lines in a text
abbrev pub are_all_lines : ℕ → List ℕ → Bool
are_all_lines count input = nat_le (length (lines_of input)) count

-- the first lines of the input are read, and the first lines of their text are written, each whole, and nothing else; their text has
-- the audit only if it is wanted and all lines of the input are read
pub record Stops (audit : Bool) (input : List ℕ) (old new : Option (List ℕ)) : Type 0 where
  pub choices : Choices
  pub count : ℕ
  pub lines : List Line
  pub read : EachReads (take count (lines_of input)) lines
  pub told : ℕ
  pub written : Appends old new
      (flat_map (λ line. line) (take told (told_lines (audit && are_all_lines count input) (replayed choices lines))))

-- the line of this number is this one; those before it were taken, and the answers to the reviews among them are written, nothing
-- else
pub record Comes (input : List ℕ) (old new : Option (List ℕ)) (number : ℕ) (line : Line) (before : Sofar) : Type 0 where
  pub choices : Choices
  pub lines : List Line
  pub numbered : number ≡ length lines + 1
  pub read : EachReads (take number (lines_of input)) (lines ++ line ∷ [])
  pub taken : after_lines choices lines beginning ≡ Ok before
  pub written : Appends old new (answers_text before.entries)

-- the line of this number is an event, and some policy of the objects after it has an expression whose image the verifier refuses
pub record IsUnverifiedAt (input : List ℕ) (old new : Option (List ℕ)) (number : ℕ) : Type 0 where
  pub event : Event
  pub before : Sofar
  pub comes : Comes input old new number (Happens event) before
  pub unverified : AreUnverified (objects_after (objects_of before.log) (event ∷ []))

-- the line of this number is a review, the first whose answer is not written; and at its request, or at that of a later
-- review, the set of the log before it looks for a pattern
pub record IsUnansweredAt (input : List ℕ) (old new : Option (List ℕ)) (number : ℕ) : Type 0 where
  pub request : Request
  pub before : Sofar
  pub comes : Comes input old new number (Asks request) before
  pub asked : Request
  pub behind : IsAskedIn (drop before.lines (lines_of input)) asked
  pub matches : MayMatch (set_of before.log) asked
