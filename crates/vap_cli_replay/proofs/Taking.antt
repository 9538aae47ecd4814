-- What a line that is taken or refused results in.
use Rattle.std.proofs.Common.{◌≡◌, ◌≢◌, ℕ, ◌+◌, ◌<◌, Bool, true, false, List, [], ◌∷◌, ◌++◌, length, Result, Ok, Err, refl, sym, ap, ◌∙◌}
use Rattle.std.proofs.Common.{append-nil, arith, subst}
use Rattle.std.specs.Prelude.{if◌then◌else◌, Option}
use Rattle.std.specs.Io.KnownBytes.{Appends}
use Rattle.std.proofs.lemmas.Bool.{lt-ltb, le-ltb, false≢true}
use Rattle.vap_read.specs.declared.event.Event.{Event}
use Rattle.vap_match.specs.declared.request.Request.{Request}
use Rattle.vap_watch.specs.Given.{AreUnverified, Choice, takes}
use Rattle.vap_watch.specs.Logs.{objects_after, objects_of, publication}
use Rattle.vap_watch.specs.Places.{Written, at, most_events, objects_at, place_of, writes}
use Rattle.vap_watch.specs.declared.log.Logged.{Logged}
use Rattle.base_containers.specs.declared.failed.Failed.{Failed}
use Rattle.base_containers.specs.declared.failed.Failed.TheVariants as failed
use Rattle.vap_watch.specs.declared.fault.PublishFault.{PublishFault}
use Rattle.vap_watch.specs.declared.fault.PublishFault.TheVariants as publishing
use Rattle.vap_watch.specs.declared.fault.StageFault.{StageFault}
use Rattle.vap_watch.specs.declared.fault.StageFault.TheVariants as staging
use Rattle.base_containers.specs.Counted.{inner_of}
use Rattle.base_containers.specs.declared.counted.Counted.{Counted}
use Rattle.base_containers.specs.declared.lines.Ending.{Ending}
use Rattle.base_containers.specs.declared.lines.Ending.TheVariants.{Feed, End, TooLong}
use Rattle.vap_audit.specs.Entries.{most_entries}
use Rattle.vap_audit.specs.declared.entry.Entry.{Entry}
use Rattle.vap_cli_lines.specs.Lines.{Reads}
use Rattle.vap_cli_replay.specs.Moves.{Advances, IsReadAs, Takes, Waits, Writes, after_lines, and_then, lines_ended}
use Rattle.vap_cli_replay.specs.Replay.{Choices, Sofar, after_event, after_line, after_review, answers_text, entry_of}
use Rattle.vap_cli_replay.specs.Sessions.{Agrees, RefusesEvent, TakesEvent, TakesReview, sofar_of, unpublished, unstaged, waiting_entries}
use Rattle.vap_cli_replay.specs.Streams.{is_of_the_lines}
use Rattle.vap_cli_lines.specs.declared.fault.LineFault.{LineFault}
use Rattle.vap_cli_lines.specs.declared.fault.LineFault.TheVariants as fault
use Rattle.vap_cli_replay.specs.declared.fault.ReplayError.TheVariants.{Line}
use Rattle.vap_cli_lines.specs.declared.line.Line.{Line as LineOf}
use Rattle.vap_cli_lines.specs.declared.line.Line.TheVariants.{Happens, Asks, Refused}
use Rattle.vap_cli_replay.specs.declared.session.Session.{Session}
use Rattle.vap_cli_replay.proofs.Choosing.{agrees_itself, choices_of, kept_last}
use Rattle.vap_cli_replay.proofs.Told.{appends_none}
use Rattle.vap_cli_replay.proofs.Unjudged.{same_waits}

abbrev so_far : ℕ → List Logged → List Entry → Result Sofar LineFault
so_far lines log entries = Ok (record { lines = lines; log = log; entries = entries })

longer : (log : List Logged) (choice : Choice) (event : Event) → length log < length (log ++ publication choice (event ∷ []))
longer [] choice event = omega arith
longer (x ∷ log) choice event = omega (arith, longer log choice event)

-- choices that agree with a log have the choice of its last event
last_choice : (choices : Choices) (log new : List Logged) (event : Event) (choice : Choice) → new ≡ log ++ publication choice (event ∷ [])
    → Agrees choices new → choices (length log + 1) ≡ choice
last_choice choices log new event choice grown agrees =
    let all : Agrees choices (log ++ publication choice (event ∷ [])) = rw grown at agrees in
    all (length log) (longer log choice event) ∙ kept_last log choice event

-- if there is room for an event, it is published
event_taken : (choices : Choices) (event : Event) (s : Sofar) → length s.log < most_events → takes (objects_of s.log) event ≡ true
    → after_event choices event s
    ≡ so_far (s.lines + 1) (s.log ++ publication (choices (length s.log + 1)) (event ∷ [])) s.entries
event_taken choices event s room fits =
    let u : Result Sofar LineFault = so_far (s.lines + 1) (s.log ++ publication (choices (length s.log + 1)) (event ∷ [])) s.entries in
    ap (λ (b : Bool). if b then (if takes (objects_of s.log) event then u else Err fault.TooManyObjects) else Err fault.LogFull)
    (lt-ltb (length s.log) most_events room) ∙ ap (λ (b : Bool). if b then u else Err fault.TooManyObjects) fits

-- an event that is taken after what was read
pub took_event : (event : Event) (old new : Session) → TakesEvent old.writer.published event new.writer.published
    → new.lines ≡ old.lines + 1 → (sofar_of new).entries ≡ (sofar_of old).entries → Takes (Happens event) old new
took_event event old new on lines entries choices agrees =
    let log : List Logged = old.writer.published in
    let choice : choices (length log + 1) ≡ on.choice = last_choice choices log new.writer.published event on.choice on.grown agrees in
    let grown : log ++ publication (choices (length log + 1)) (event ∷ []) ≡ new.writer.published =
    ap (λ (c : Choice). log ++ publication c (event ∷ [])) choice ∙ sym on.grown in
    event_taken choices event (sofar_of old) on.room on.fits
    ∙ (ap (λ (l : List Logged). so_far (old.lines + 1) l (sofar_of old).entries) grown
    ∙ (ap (λ (n : ℕ). so_far n new.writer.published (sofar_of old).entries) (sym lines)
    ∙ ap (λ (es : List Entry). so_far new.lines new.writer.published es) (sym entries)))

-- an event that is refused after what was read
pub event_refused : (event : Event) (s : Sofar) (why : LineFault) (choices : Choices) → RefusesEvent s.log event why
    → after_event choices event s ≡ Err why
event_refused event s fault.LogFull choices full =
    let u : Result Sofar LineFault = (if takes (objects_of s.log) event
    then so_far (s.lines + 1) (s.log ++ publication (choices (length s.log + 1)) (event ∷ [])) s.entries
    else Err fault.TooManyObjects) in
    ap (λ (b : Bool). if b then u else Err fault.LogFull) (le-ltb (length s.log) most_events (omega (arith, full)))
event_refused event s fault.TooManyObjects choices (room, many) =
    let u : Result Sofar LineFault = so_far (s.lines + 1) (s.log ++ publication (choices (length s.log + 1)) (event ∷ [])) s.entries in
    ap (λ (b : Bool). if b then (if takes (objects_of s.log) event then u else Err fault.TooManyObjects) else Err fault.LogFull)
    (lt-ltb (length s.log) most_events room) ∙ ap (λ (b : Bool). if b then u else Err fault.TooManyObjects) many
event_refused event s fault.TooLong choices none = absurd none
event_refused event s fault.BadJson choices none = absurd none
event_refused event s fault.UnknownLine choices none = absurd none
event_refused event s (fault.OfEvent f) choices none = absurd none
event_refused event s (fault.OfReview f) choices none = absurd none
event_refused event s fault.AuditFull choices none = absurd none
event_refused event s fault.Unverified choices none = absurd none
event_refused event s fault.Pattern choices none = absurd none
event_refused event s fault.Stray choices none = absurd none
event_refused event s fault.NoPlace choices none = absurd none
event_refused event s (fault.OfWorkers f) choices none = absurd none

-- a review that is taken after what was read
pub took_review : (request : Request) (old one new : Session) → TakesReview request one new → one.writer ≡ old.writer
    → one.lines ≡ old.lines + 1 → (sofar_of one).entries ≡ (sofar_of old).entries → Takes (Asks request) old new
took_review request old one new on writer lines entries choices agrees =
    let log : List Logged = old.writer.published in
    let es : List Entry = (sofar_of old).entries in
    let room : length es < most_entries = rw (← entries) on.room in
    let same : new.writer ≡ old.writer = on.log ∙ writer in
    let more : (sofar_of new).entries ≡ es ++ entry_of log (length es) request ∷ [] =
    on.entries ∙ (ap (λ (w : Written). (sofar_of one).entries ++ entry_of w.published (length (sofar_of one).entries) request ∷ []) writer
    ∙ ap (λ (l : List Entry). l ++ entry_of log (length l) request ∷ []) entries) in
    let all : List Entry = es ++ entry_of log (length es) request ∷ [] in
    ap (λ (b : Bool). if b then so_far (old.lines + 1) log all else Err fault.AuditFull) (lt-ltb (length es) most_entries room)
    ∙ (ap (λ (n : ℕ). so_far n log all) (sym (on.lines ∙ lines))
    ∙ (ap (λ (w : Written). so_far new.lines w.published all) (sym same)
    ∙ ap (λ (l : List Entry). so_far new.lines new.writer.published l) (sym more)))

-- a review that the history has no room for
pub review_refused : (request : Request) (s : Sofar) → length s.entries ≡ most_entries → after_review request s ≡ Err fault.AuditFull
review_refused request s full =
    let u : Result Sofar LineFault = so_far (s.lines + 1) s.log (s.entries ++ entry_of s.log (length s.entries) request ∷ []) in
    ap (λ (b : Bool). if b then u else Err fault.AuditFull) (le-ltb (length s.entries) most_entries (omega (arith, full)))

-- ---- the faults of an event

-- why an event is not staged, at the line that is reported
pub staged_not : (event : Event) (log : List Logged) (line : ℕ) (f : StageFault) → (f ≡ staging.LogFull → length log ≡ most_events)
    → (f ≡ staging.TooManyObjects → (length log < most_events) × (takes (objects_of log) event ≡ false)) → (number : ℕ) (why : LineFault)
    → unstaged line f ≡ Line number why → (number ≡ line) × RefusesEvent log event why
staged_not event log line staging.LogFull full many number why is =
    let same : fault.LogFull ≡ why = cc in
    (cc, rw (← same) (full refl))
staged_not event log line staging.TooManyObjects full many number why is =
    let same : fault.TooManyObjects ≡ why = cc in
    (cc, rw (← same) (many refl))
staged_not event log line staging.OutOfMemory full many number why is = cc

-- the lines alone do not determine why an event is not published
pub published_not : (line : ℕ) (e : Failed PublishFault) (number : ℕ) (why : LineFault) → unpublished line e ≡ Line number why
    → is_of_the_lines why ≡ false
published_not line (failed.Fault publishing.Unverified) number why is =
    let same : fault.Unverified ≡ why = cc in
    rw (← same) refl
published_not line failed.OutOfMemory number why is = cc

-- Unverified is reported only if the publication is so refused
pub unverified_only : (line : ℕ) (e : Failed PublishFault) (number : ℕ) → unpublished line e ≡ Line number fault.Unverified
    → (number ≡ line) × (e ≡ failed.Fault publishing.Unverified)
unverified_only line (failed.Fault publishing.Unverified) number is = (cc, refl)
unverified_only line failed.OutOfMemory number is = cc

-- the objects after the one event that is staged
pub one_staged : (old new : Written) (event : Event) → new ≡ writes old.board (at old.published (old.staged ++ event ∷ []))
    → old.staged ≡ [] → AreUnverified (objects_at (place_of new)) → AreUnverified (objects_after (objects_of old.published) (event ∷ []))
one_staged old new event staged none are =
    let one : new ≡ writes old.board (at old.published (event ∷ []))
    = staged ∙ ap (λ (es : List Event). writes old.board (at old.published (es ++ event ∷ []))) none in
    subst (λ (w : Written). AreUnverified (objects_at (place_of w))) one are

-- the lines alone cannot both determine a fault and not determine it
pub not_both : (why : LineFault) → is_of_the_lines why ≡ false → is_of_the_lines why ≡ true → ⊥
not_both why other one = false≢true (sym other ∙ one)

-- ---- the bytes of a line

-- bytes that did not end empty are a line
pub one_line : (ending : Ending) (bytes : List ℕ) → (ending ≡ End → 0 < length bytes) → lines_ended ending bytes ≡ bytes ∷ []
one_line Feed bytes some = refl
one_line TooLong bytes some = refl
one_line End [] some = absurd (omega (arith, some refl))
one_line End (x ∷ bytes) some = refl

-- the bytes of a line that is taken
pub one_taken : (ending : Ending) (bytes : List ℕ) (line : LineOf) (old new : Session) → (ending ≡ End → 0 < length bytes)
    → Reads bytes line → Takes line old new → (new.group.items ≢ [] → Waits (IsReadAs ending bytes) old new)
    → Advances ending bytes old new
one_taken ending bytes line old new some read takes waits = record {
  lines = line ∷ [];
  read = rw (one_line ending bytes some) (read, tt);
  taken = λ choices agrees.
      ap (λ (r : Result Sofar LineFault). and_then (λ t. after_lines choices [] t) r) (takes choices agrees);
  waiting = waits;
}

-- the empty end of an input is no line
pub none_taken : (bytes : List ℕ) (old new : Session) → length bytes ≡ 0 → new ≡ old → Advances End bytes old new
none_taken [] old new none same = record {
  lines = [];
  read = tt;
  taken = λ choices agrees. ap (λ (s : Session). Ok (sofar_of s)) (sym same);
  waiting =
      same_waits (IsReadAs End []) old new (ap (λ (s : Session). s.writer) same) (ap (λ (s : Session). s.history) same)
      (ap (λ (s : Session). s.group) same) (ap (λ (s : Session). s.first) same);
}
none_taken (x ∷ bytes) old new none same = cc

-- a line that is refused is not taken
pub not_taken : (why : LineFault) (old new : Session) → Takes (Refused why) old new → ⊥
not_taken why old new takes =
    let same : after_line (choices_of new.writer.published) (Refused why) (sofar_of old) ≡ Ok (sofar_of new) =
    takes (choices_of new.writer.published) (agrees_itself new.writer.published) in
    cc

-- nothing is written if nothing is answered
pub writes_none : {W : Type 0} (contents : W → Option (List ℕ)) (old new : Session) (before after : Counted W) → new.history ≡ old.history
    → after ≡ before → Writes contents old new before after
writes_none contents old new before after kept same = record {
  answered = [];
  grown = kept ∙ sym (append-nil old.history);
  written = rw same (appends_none (contents (inner_of before)));
}

-- if the group is answered, the answers to it are written
pub writes_waiting : {W : Type 0} (contents : W → Option (List ℕ)) (old new : Session) (before after : Counted W)
    → new.history ≡ old.history ++ waiting_entries old
    → Appends (contents (inner_of before)) (contents (inner_of after)) (answers_text (waiting_entries old))
    → Writes contents old new before after
writes_waiting contents old new before after grown written =
    record { answered = waiting_entries old; grown = grown; written = written }
