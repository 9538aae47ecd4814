-- The line that comes next, and the end of a text.
use Rattle.std.proofs.Common.{◌≡◌, ◌≢◌, ℕ, ◌+◌, ◌<◌, ◌≤◌, Bool, List, [], ◌∷◌, length, Option, None, Some, Result, Ok, Err}
use Rattle.std.proofs.Common.{refl, arith}
use Rattle.std.specs.Prelude.{IfSome, OnOk}
use Rattle.std.specs.Io.KnownBytes.{IsAtEnd, prepend_known}
use Rattle.base_containers.specs.Lines.{IsFirst, IsLine, lines_of}
use Rattle.base_containers.specs.declared.counted.Counted.{Counted}
use Rattle.base_containers.specs.declared.lines.Ending.{Ending}
use Rattle.base_containers.specs.declared.lines.Ending.TheVariants.{Feed, End, TooLong}
use Rattle.vap_cli_lines.specs.Lines.{Reads}
use Rattle.vap_cli_replay.specs.Moves.{Advances, IsReadAs, RefusesAt, RefusesBytes, RefusesNext, Takes, Waits}
use Rattle.vap_cli_replay.specs.Sessions.{sofar_of}
use Rattle.vap_cli_replay.specs.Streams.{Stops}
use Rattle.vap_cli_lines.specs.declared.fault.LineFault.{LineFault}
use Rattle.vap_cli_lines.specs.declared.fault.LineFault.TheVariants as fault
use Rattle.vap_cli_lines.specs.declared.line.Line.{Line}
use Rattle.vap_cli_lines.specs.declared.line.Line.TheVariants.{Asks, Refused}
use Rattle.vap_cli_replay.specs.declared.session.Session.{Session}
use Rattle.vap_cli_replay.proofs.Choosing.{agrees_itself, choices_of}
use Rattle.vap_cli_replay.proofs.Growth.{goes_on}
use Rattle.vap_cli_replay.proofs.Taking.{not_taken, one_line, one_taken}
use Rattle.vap_cli_replay.proofs.Told.{appends_none}
use Rattle.vap_cli_replay.proofs.Unjudged.{read_as, waits_as}

-- if a line ended at the end of a text, nothing is left
pub at_end_of : (ending : Ending) (old new : Option (List ℕ)) (line : List ℕ) → IsLine old new line ending → ending ≡ End → IsAtEnd new
at_end_of Feed old new line is e = cc
at_end_of End old new line is e = is.1
at_end_of TooLong old new line is e = cc

-- if the bytes of the next line are refused, the first line of the text is refused
pub next_refused : {W : Type 0} (contents : W → Option (List ℕ)) (ending : Ending) (text left : Option (List ℕ)) (bytes : List ℕ)
    (session : Session) (before after : Counted W) (number : ℕ) (why : LineFault) → IsFirst text left bytes ending
    → RefusesBytes contents ending bytes session before after number why
    → IfSome text (λ t. RefusesNext contents t session before after number why)
next_refused contents ending None left bytes session before after number why first at = tt
next_refused contents ending (Some text) None bytes session before after number why first at = absurd first
next_refused contents Feed (Some text) (Some left) bytes session before after number why first at =
    record { first = bytes; others = lines_of left; split = first; line = at.line; read = at.read; refused = at.refused }
next_refused contents End (Some text) (Some left) [] session before after number why first at =
    let one : [] ≡ [] ∷ [] = at.one in
    cc
next_refused contents End (Some text) (Some left) (x ∷ bytes) session before after number why first at =
    record { first = x ∷ bytes; others = []; split = first; line = at.line; read = at.read; refused = at.refused }
next_refused contents TooLong (Some text) (Some left) bytes session before after number why first at =
    record {
      first = first.first;
      others = first.others;
      split = first.lines;
      line = Refused fault.TooLong;
      read = first.long;
      refused = refused_same contents at.line (Refused fault.TooLong) session before after number why at.read at.refused;
    }
  where
    refused_same : {W : Type 0} (contents : W → Option (List ℕ)) (a b : Line) (session : Session) (before after : Counted W) (number : ℕ)
        (why : LineFault) → a ≡ b → RefusesAt contents a session before after number why
        → RefusesAt contents b session before after number why
    refused_same contents a b session before after number why e h = rw (← e) h

-- if a line that is refused were taken, anything would hold
pub never_taken : {A E : Type 0} (r : Result A E) (why : LineFault) (old new : Session) (P : Type 0)
    → OnOk r (Takes (Refused why) old new) → OnOk r P
never_taken (Ok x) why old new P takes = absurd (not_taken why old new takes)
never_taken (Err e) why old new P takes = tt

-- a line that is taken is one more
pub one_counted : {A E : Type 0} (r : Result A E) (line : Line) (old new : Session) → OnOk r (Takes line old new)
    → OnOk r (new.lines ≤ old.lines + 1)
one_counted (Ok x) line old new takes =
    let on : new.lines ≡ old.lines + 1 =
    (goes_on (choices_of new.writer.published) line (sofar_of old) (sofar_of new)
    (takes (choices_of new.writer.published) (agrees_itself new.writer.published))).counted in
    omega arith
one_counted (Err e) line old new takes = tt

-- nothing is pending at first
pub none_pending : (pending : List ℕ) (rest : Option (List ℕ)) → pending ≡ [] → prepend_known pending rest ≡ rest
none_pending [] None none = refl
none_pending [] (Some left) none = refl
none_pending (x ∷ pending) rest none = cc

-- if nothing was read and nothing is written, the replay stops before the first line
pub stops_first : (audit : Bool) (all start : Option (List ℕ)) → IfSome all (λ bytes. Stops audit bytes start start)
stops_first audit None start = tt
stops_first audit (Some all) start = record {
  choices = choices_of [];
  count = 0;
  lines = [];
  read = tt;
  told = 0;
  written = appends_none start;
}

-- one more if another line may follow
abbrev pub turns : Ending → ℕ
turns Feed = 1
turns _ = 0

-- there are no more lines than there is room for
pub lines_within : (before ending : Ending) (lines more space left most : ℕ) → before ≡ Feed → lines + (space + turns before) ≤ most
    → more ≤ lines + 1 → (ending ≡ Feed → left < space) → left ≤ space → more + (left + turns ending) ≤ most
lines_within Feed Feed lines more space left most feed within one less fewer =
    let fell : left < space = less refl in
    omega arith
lines_within Feed End lines more space left most feed within one less fewer = omega arith
lines_within Feed TooLong lines more space left most feed within one less fewer = omega arith
lines_within End ending lines more space left most feed within one less fewer = cc
lines_within TooLong ending lines more space left most feed within one less fewer = cc

-- a line that is not too long ends at a line feed or at the end
pub ended_of : (ending : Ending) (P : Type 0) → ending ≢ TooLong → (ending ≡ End → P) → ending ≢ Feed → P
ended_of Feed P short at_end not = absurd (not refl)
ended_of End P short at_end not = at_end refl
ended_of TooLong P short at_end not = absurd (short refl)

-- the bytes of a line that is taken, if there are some
pub one_each : {A E : Type 0} (r : Result A E) (ending : Ending) (bytes : List ℕ) (line : Line) (old new : Session)
    → (ending ≡ End → 0 < length bytes) → ending ≢ TooLong → Reads bytes line → OnOk r (Takes line old new)
    → OnOk r (new.group.items ≢ [] → Waits (λ l. line ≡ l) old new) → OnOk r (Advances ending bytes old new)
one_each (Ok x) ending bytes line old new some short read takes waits =
    let r : Result ℕ ℕ = Ok 0 in
    one_taken ending bytes line old new some read takes
    (waits_as r (λ l. line ≡ l) (IsReadAs ending bytes) old new
    (λ request is. read_as ending bytes line (Asks request) (one_line ending bytes some) short read is) waits)
one_each (Err e) ending bytes line old new some short read takes waits = tt

-- the same of bytes that are refused
pub one_refused : {W : Type 0} (contents : W → Option (List ℕ)) (ending : Ending) (bytes : List ℕ) (line : Line) (session : Session)
    (before after : Counted W) (number : ℕ) (why : LineFault) → (ending ≡ End → 0 < length bytes) → ending ≢ TooLong
    → Reads bytes line → RefusesAt contents line session before after number why
    → RefusesBytes contents ending bytes session before after number why
one_refused contents Feed bytes line session before after number why some short read at =
    record { one = refl; line = line; read = read; refused = at }
one_refused contents End bytes line session before after number why some short read at =
    record { one = one_line End bytes some; line = line; read = read; refused = at }
one_refused contents TooLong bytes line session before after number why some short read at = absurd (short refl)
