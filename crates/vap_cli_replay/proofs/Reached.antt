-- How far a text is replayed.
use Rattle.std.proofs.Common.{◌≡◌, ℕ, ◌+◌, List, [], ◌∷◌, ◌++◌, length, take, None, Some, Ok, refl, sym, ap, ◌∙◌, append-nil, suc, arith}
use Rattle.std.proofs.Math.Seq.{take-append-add}
use Rattle.base_containers.specs.declared.lines.Ending.{Ending}
use Rattle.vap_watch.specs.Logs.{StartsWith}
use Rattle.vap_watch.specs.declared.log.Logged.{Logged}
use Rattle.vap_audit.specs.declared.entry.Entry.{Entry}
use Rattle.vap_cli_lines.specs.Lines.{EachReads}
use Rattle.vap_cli_replay.specs.Moves.{Advances, Reaches, after_lines, lines_ended}
use Rattle.vap_cli_replay.specs.Replay.{Choices, Replayed, Sofar, beginning, replayed}
use Rattle.vap_cli_replay.specs.Sessions.{Agrees, group_entries, sofar_of}
use Rattle.vap_cli_lines.specs.declared.fault.LineFault.{LineFault}
use Rattle.vap_cli_lines.specs.declared.line.Line.{Line}
use Rattle.vap_cli_replay.specs.declared.session.Session.{Session}
use Rattle.vap_cli_replay.proofs.Choosing.{agrees_itself, agrees_start, choices_of}
use Rattle.vap_cli_replay.proofs.Growth.{lines_counted, log_goes_on}
use Rattle.vap_cli_replay.proofs.Steps.{reads_more, replayed_whole, taken_more}

-- the replay of lines one of which is refused, and of lines none of which is refused
abbrev pub refusing : List Entry → ℕ → LineFault → Replayed
refusing entries number why = record { entries = entries; refusal = Some (record { line = number; fault = why }) }

abbrev pub accepting : List Entry → Replayed
accepting entries = record { entries = entries; refusal = None }

abbrev pub so_far : ℕ → List Logged → List Entry → Sofar
so_far lines log entries = record { lines = lines; log = log; entries = entries }

pub agrees_same : (choices : Choices) (a b : List Logged) → a ≡ b → Agrees choices b → Agrees choices a
agrees_same choices a b e h = rw e h

pub reads_same : (xs ys : List (List ℕ)) (lines : List Line) → xs ≡ ys → EachReads ys lines → EachReads xs lines
reads_same xs ys lines e h = rw e h

-- as many are read as there are
pub read_length : (bytes : List (List ℕ)) (lines : List Line) → EachReads bytes lines → length bytes ≡ length lines
read_length [] [] h = refl
read_length [] (l ∷ lines) h = absurd h
read_length (b ∷ bytes) [] h = absurd h
read_length (b ∷ bytes) (l ∷ lines) h = ap suc (read_length bytes lines h.1)

-- the first lines with the one after them
pub take_one_more : (number : ℕ) (front : List (List ℕ)) (first : List ℕ) (others : List (List ℕ)) → number ≡ length front + 1
    → take number (front ++ first ∷ others) ≡ front ++ first ∷ []
take_one_more number front first others e = rw e (take-append-add front (first ∷ others) 1)

-- some lines more of those that were taken
pub advanced : (ending : Ending) (bytes : List ℕ) (front : List (List ℕ)) (old new : Session) → Reaches front old
    → Advances ending bytes old new → Reaches (front ++ lines_ended ending bytes) new
advanced ending bytes front old new there on = record {
  lines = there.lines ++ on.lines;
  read = reads_more front (lines_ended ending bytes) there.lines on.lines there.read on.read;
  taken = λ choices agrees.
      let step : after_lines choices on.lines (sofar_of old) ≡ Ok (sofar_of new) = on.taken choices agrees in
      let seen : Agrees choices old.writer.published =
      agrees_start choices new.writer.published old.writer.published
      (log_goes_on choices on.lines (sofar_of old) (sofar_of new) step) agrees in
      taken_more choices there.lines on.lines beginning (sofar_of old) (there.taken choices seen) ∙ step;
}

-- the log after some lines begins with the one before them
pub log_advanced : (ending : Ending) (bytes : List ℕ) (old new : Session) → Advances ending bytes old new
    → StartsWith new.writer.published old.writer.published
log_advanced ending bytes old new on =
    let choices : Choices = choices_of new.writer.published in
    log_goes_on choices on.lines (sofar_of old) (sofar_of new) (on.taken choices (agrees_itself new.writer.published))

-- the group is answered
pub reached_answered : (front : List (List ℕ)) (old new : Session) → Reaches front old → sofar_of new ≡ sofar_of old → Reaches front new
reached_answered front old new there same = record {
  lines = there.lines;
  read = there.read;
  taken = λ choices agrees.
      let seen : Agrees choices old.writer.published =
      agrees_same choices old.writer.published new.writer.published (ap (λ (s : Sofar). s.log) (sym same)) agrees in
      there.taken choices seen ∙ ap (λ (s : Sofar). Ok s) (sym same);
}

-- the replay of lines that were all taken
pub whole_of : (choices : Choices) (lines : List Line) (session : Session) → after_lines choices lines beginning ≡ Ok (sofar_of session)
    → replayed choices lines ≡ accepting (sofar_of session).entries
whole_of choices lines session taken = replayed_whole choices lines beginning (sofar_of session) taken

-- if no review waits, all entries are in the history
pub none_waiting : (session : Session) → session.group.items ≡ [] → (sofar_of session).entries ≡ session.history
none_waiting session none =
    ap (λ group. session.history ++ group_entries session.writer.published (length session.history) group) none
    ∙ append-nil session.history

pub reached_same : (bytes front : List (List ℕ)) (session : Session) → bytes ≡ front → Reaches front session → Reaches bytes session
reached_same bytes front session e h = rw e h

-- as many lines were taken as are counted
pub reached_counted : (front : List (List ℕ)) (session : Session) (there : Reaches front session) → session.lines ≡ length there.lines
reached_counted front session there =
    let choices : Choices = choices_of session.writer.published in
    let taken : after_lines choices there.lines beginning ≡ Ok (sofar_of session) =
    there.taken choices (agrees_itself session.writer.published) in
    omega (arith, lines_counted choices there.lines beginning (sofar_of session) taken)
