-- What the lines of each kind result in.
use Rattle.std.proofs.Common.{◌≡◌, ◌⊎◌, inl, inr, ℕ, ◌+◌, ◌<◌, ◌≤◌, List, [], ◌∷◌, ◌++◌, length, Option, Result, Ok, Err}
use Rattle.std.proofs.Common.{refl, sym, ap, subst, ◌∙◌, append-nil, append_assoc, arith, length-append}
use Rattle.std.specs.Prelude.{IfSome, OnOk}
use Rattle.std.specs.Io.KnownBytes.{Appends}
use Rattle.vap_read.specs.declared.event.Event.{Event}
use Rattle.vap_match.specs.declared.request.Request.{Request}
use Rattle.base_containers.specs.Counted.{inner_of}
use Rattle.base_containers.specs.declared.counted.Counted.{Counted}
use Rattle.vap_watch.specs.Places.{Written}
use Rattle.vap_watch.specs.declared.log.Logged.{Logged}
use Rattle.vap_audit.specs.Entries.{most_entries}
use Rattle.vap_audit.specs.declared.entry.Entry.{Entry}
use Rattle.vap_audit.specs.Verdicts.{verdict_at}
use Rattle.vap_policy_verdict.specs.AnswerText.{answer_text}
use Rattle.vap_policy_verdict.specs.declared.verdict.Verdict.{Verdict}
use Rattle.vap_plane.specs.Answers.{verdicts_at}
use Rattle.vap_cli_replay.specs.Moves.{IsRefusal, RefusesAt, Takes}
use Rattle.vap_cli_replay.specs.Replay.{answer_line, answers_text, entry_of}
use Rattle.vap_cli_replay.specs.Sessions.{AreJudged, Answered, HasAnswers, HasRoom, IsInStep, IsKept, RefusesEvent, TakesEvent, TakesReview}
use Rattle.vap_cli_replay.specs.Sessions.{group_entries, sofar_of, waiting_entries}
use Rattle.vap_cli_lines.specs.Judged.{AnswersAt}
use Rattle.vap_cli_lines.specs.declared.answer.ReviewAnswer.{ReviewAnswer}
use Rattle.vap_cli_lines.specs.declared.fault.LineFault.{LineFault}
use Rattle.vap_cli_lines.specs.declared.fault.LineFault.TheVariants as fault
use Rattle.vap_cli_lines.specs.declared.line.Line.TheVariants.{Happens, Asks, Refused}
use Rattle.vap_cli_replay.specs.declared.session.Session.{Session}
use Rattle.vap_cli_replay.proofs.Groups.{answers_more, group_last, group_length, one_judged}
use Rattle.vap_cli_replay.proofs.Taking.{event_refused, review_refused, took_event}
use Rattle.vap_cli_replay.proofs.Told.{none_waiting}

-- ---- answers that are kept

nothing_kept : (verdicts : List Verdict) → length verdicts ≡ 0 → verdicts ≡ []
nothing_kept [] none = refl
nothing_kept (v ∷ verdicts) none = cc

-- if no review waits, none is judged
pub none_judged : (s : Session) → s.group.items ≡ [] → s.answers.items ≡ [] → AreJudged s
none_judged s none blank = λ same.
    record {
      verdicts =
          nothing_kept s.verdicts.items (same ∙ ap (λ (rs : List Request). length rs) none)
          ∙ ap (λ (rs : List Request). verdicts_at s.writer.published rs) (sym none);
      answers =
          blank
          ∙ ap (λ (rs : List Request). answers_text (group_entries s.writer.published (length s.history) rs)) (sym none);
    }

-- the answers to the others, and one behind them
answers_behind : (log : List Logged) (call : ℕ) (requests more : List Request) (request : Request) (v : Verdict)
    (before after line : List ℕ) → before ≡ answers_text (group_entries log call requests) → more ≡ requests ++ request ∷ []
    → v ≡ verdict_at log request → line ≡ answer_text request.admission.uid v ++ 10 ∷ [] → after ≡ before ++ line
    → after ≡ answers_text (group_entries log call more)
answers_behind log call requests more request v before after line all grown is made longer =
    let e : Entry = entry_of log (call + length requests) request in
    let one : line ≡ answers_text (e ∷ []) =
    made ∙ (ap (λ (w : Verdict). answer_text request.admission.uid w ++ 10 ∷ []) is ∙ sym (append-nil (answer_line e))) in
    longer
    ∙ (ap (λ (l : List ℕ). l ++ line) all
    ∙ (ap (λ (l : List ℕ). answers_text (group_entries log call requests) ++ l) one
    ∙ (sym (answers_more (group_entries log call requests) (e ∷ []))
    ∙ (ap (λ (es : List Entry). answers_text es) (sym (group_last log call requests request))
    ∙ ap (λ (rs : List Request). answers_text (group_entries log call rs)) (sym grown)))))

-- an answer that is put behind those to the others
judged_last : (old new : Session) (request : Request) (answer : Option ReviewAnswer) (count : ℕ) → AreJudged old
    → new.writer ≡ old.writer → new.history ≡ old.history → count ≡ length old.group.items
    → new.group.items ≡ old.group.items ++ request ∷ [] → IfSome answer (AnswersAt old.writer.published request)
    → (new.verdicts.items ≡ [])
    ⊎ IsKept count answer old.verdicts.items old.answers.items new.verdicts.items new.answers.items → AreJudged new
judged_last old new request answer count judged writer history counted grown right (inl none) = λ same.
    let one : length new.group.items ≡ length old.group.items + 1 =
    ap (λ (rs : List Request). length rs) grown ∙ length-append old.group.items (request ∷ []) in
    let zero : length new.verdicts.items ≡ 0 = ap (λ (vs : List Verdict). length vs) none in
    absurd (omega (arith, one, zero, same))
judged_last old new request answer count judged writer history counted grown right (inr kept) = λ same.
    let log : List Logged = old.writer.published in
    let on : HasAnswers old = judged (kept.many ∙ counted) in
    let answers : AnswersAt log request kept.kept =
    subst (λ (o : Option ReviewAnswer). IfSome o (AnswersAt log request)) kept.is right in
    record {
      verdicts =
          kept.verdict
          ∙ (one_judged log old.group.items request old.verdicts.items kept.kept.verdict on.verdicts answers.verdict
          ∙ (ap (λ (rs : List Request). verdicts_at log rs) (sym grown)
          ∙ ap (λ (w : Written). verdicts_at w.published new.group.items) (sym writer)));
      answers =
          answers_behind log (length old.history) old.group.items new.group.items request kept.kept.verdict old.answers.items
          new.answers.items kept.kept.line.items on.answers grown answers.verdict answers.line kept.line
          ∙ (ap (λ (w : Written). answers_text (group_entries w.published (length old.history) new.group.items)) (sym writer)
          ∙ ap (λ (es : List Entry). answers_text (group_entries new.writer.published (length es) new.group.items)) (sym history));
    }

-- ---- room

-- a review that waits as the last has room, with its answer or without
pub waits_room : (old new : Session) (request : Request) (answer : Option ReviewAnswer) (count : ℕ) → IsInStep old
    → length old.history + length old.group.items < most_entries → new.writer ≡ old.writer → new.history ≡ old.history
    → count ≡ length old.group.items → new.group.items ≡ old.group.items ++ request ∷ []
    → IfSome answer (AnswersAt old.writer.published request)
    → (new.verdicts.items ≡ [])
    ⊎ IsKept count answer old.verdicts.items old.answers.items new.verdicts.items new.answers.items → HasRoom new
waits_room old new request answer count step room writer history counted grown right kept =
    let one : length new.group.items ≡ length old.group.items + 1 =
    ap (λ (rs : List Request). length rs) grown ∙ length-append old.group.items (request ∷ []) in
    let same : length new.history ≡ length old.history = ap (λ (es : List Entry). length es) history in
    record {
      few = omega (arith, one, step.few);
      room = omega (arith, one, same, room);
      judged = judged_last old new request answer count step.judged writer history counted grown right kept;
    }

-- after an answered group there is room as before
pub answered_step : (old new : Session) → HasRoom old → Answered old new → new.writer.staged ≡ [] → IsInStep new
answered_step old new room done published =
    let none : length new.group.items ≡ 0 = ap (λ (l : List Request). length l) done.none in
    let longer : length new.history ≡ length old.history + length old.group.items =
    ap (λ (l : List Entry). length l) done.entries
    ∙ (length-append old.history (waiting_entries old)
    ∙ ap (λ (n : ℕ). length old.history + n) (group_length old.writer.published (length old.history) old.group.items)) in
    record {
      published = published;
      few = omega (arith, none);
      room = omega (arith, none, longer, room.room);
      judged = none_judged new done.none done.blank;
    }

-- how many entries there are if the group is taken as answered
pub entries_length : (s : Session) → length (sofar_of s).entries ≡ length s.history + length s.group.items
entries_length s =
    length-append s.history (waiting_entries s)
    ∙ ap (λ (n : ℕ). length s.history + n) (group_length s.writer.published (length s.history) s.group.items)

-- ---- lines

-- an event is taken after an answered group
took_behind : (event : Event) (old one two new : Session) → Answered one two → one.writer ≡ old.writer → one.lines ≡ old.lines + 1
    → (sofar_of one).entries ≡ (sofar_of old).entries
    → (new.history ≡ two.history) × (new.group ≡ two.group) × (new.lines ≡ two.lines)
    → TakesEvent two.writer.published event new.writer.published → Takes (Happens event) old new
took_behind event old one two new done writer lines entries rest taken =
    let none : new.group.items ≡ [] = rw rest.1 done.none in
    let same : two.writer ≡ old.writer = done.log ∙ writer in
    let on : TakesEvent old.writer.published event new.writer.published = rw (← same) taken in
    took_event event old new on (rest.2 ∙ (done.lines ∙ lines))
    (none_waiting new none ∙ (rest.0 ∙ (done.entries ∙ entries)))

pub took_each : {A E : Type 0} (r : Result A E) (event : Event) (old one two new : Session) → Answered one two
    → one.writer ≡ old.writer → one.lines ≡ old.lines + 1 → (sofar_of one).entries ≡ (sofar_of old).entries
    → (new.history ≡ two.history) × (new.group ≡ two.group) × (new.lines ≡ two.lines)
    → OnOk r (TakesEvent two.writer.published event new.writer.published) → OnOk r (Takes (Happens event) old new)
took_each (Ok x) event old one two new done writer lines entries rest taken =
    took_behind event old one two new done writer lines entries rest taken
took_each (Err e) event old one two new done writer lines entries rest taken = tt

-- and the next line may be taken then
pub event_step : {A E : Type 0} (r : Result A E) (one two new : Session) → Answered one two
    → length one.history + length one.group.items ≤ most_entries
    → (new.history ≡ two.history) × (new.group ≡ two.group) × (new.lines ≡ two.lines) → new.answers ≡ two.answers
    → OnOk r (new.writer.staged ≡ []) → OnOk r (IsInStep new)
event_step (Ok x) one two new done room rest answers published =
    let blank : new.answers.items ≡ [] = rw answers done.blank in
    let empty : new.group.items ≡ [] = rw rest.1 done.none in
    let none : length new.group.items ≡ 0 = ap (λ (l : List Request). length l) empty in
    let longer : length new.history ≡ length one.history + length one.group.items =
    ap (λ (l : List Entry). length l) (rest.0 ∙ done.entries) ∙ entries_length one in
    record {
      published = published;
      few = omega (arith, none);
      room = omega (arith, none, longer, room);
      judged = none_judged new empty blank;
    }
event_step (Err e) one two new done room rest answers published = tt

-- an event is refused after an answered group
pub refused_event : {W : Type 0} (contents : W → Option (List ℕ)) (event : Event) (old one two : Session) (before after : Counted W)
    (number : ℕ) (why : LineFault) → Answered one two
    → Appends (contents (inner_of before)) (contents (inner_of after)) (answers_text (waiting_entries one))
    → (number ≡ two.lines) × RefusesEvent two.writer.published event why → one.writer ≡ old.writer → one.lines ≡ old.lines + 1
    → waiting_entries one ≡ waiting_entries old → RefusesAt contents (Happens event) old before after number why
refused_event contents event old one two before after number why done written refuses writer lines waiting =
    let same : two.writer ≡ old.writer = done.log ∙ writer in
    let not : RefusesEvent old.writer.published event why = rw (← same) refuses.1 in
    record {
      numbered = refuses.0 ∙ (done.lines ∙ lines);
      refused = λ choices agrees. event_refused event (sofar_of old) why choices not;
      written = rw (← waiting) written;
    }

-- a review for which the history has no room is refused
pub refused_review : {W : Type 0} (contents : W → Option (List ℕ)) (request : Request) (old one : Session) (before after : Counted W)
    (number : ℕ) (why : LineFault) → IsRefusal contents fault.AuditFull one before after number why
    → length (sofar_of one).entries ≡ most_entries → one.lines ≡ old.lines + 1 → waiting_entries one ≡ waiting_entries old
    → (sofar_of one).entries ≡ (sofar_of old).entries → RefusesAt contents (Asks request) old before after number why
refused_review contents request old one before after number why not full lines waiting entries =
    let all : length (sofar_of old).entries ≡ most_entries = ap (λ (es : List Entry). length es) (sym entries) ∙ full in
    record {
      numbered = not.numbered ∙ lines;
      refused = λ choices agrees. review_refused request (sofar_of old) all ∙ ap (λ (f : LineFault). Err f) (sym not.same);
      written = rw (← waiting) not.written;
    }

-- a line that is refused as it is read
pub refused_line : {W : Type 0} (contents : W → Option (List ℕ)) (f : LineFault) (old one : Session) (before after : Counted W)
    (number : ℕ) (why : LineFault) → IsRefusal contents f one before after number why → one.lines ≡ old.lines + 1
    → waiting_entries one ≡ waiting_entries old → RefusesAt contents (Refused f) old before after number why
refused_line contents f old one before after number why not lines waiting =
    record {
      numbered = not.numbered ∙ lines;
      refused = λ choices agrees. ap (λ (g : LineFault). Err g) (sym not.same);
      written = rw (← waiting) not.written;
    }

-- ---- reviews

-- a review that waits as the last
pub waits_last : (request : Request) (old new : Session) → length (sofar_of old).entries < most_entries → new.writer ≡ old.writer
    → new.lines ≡ old.lines → new.history ≡ old.history → new.group.items ≡ old.group.items ++ request ∷ []
    → TakesReview request old new
waits_last request old new room writer lines history group =
    let log : List Logged = old.writer.published in
    let n : ℕ = length old.history in
    let last : group_entries log n (old.group.items ++ request ∷ [])
    ≡ waiting_entries old ++ entry_of log (length (sofar_of old).entries) request ∷ [] =
    group_last log n old.group.items request
    ∙ ap (λ (k : ℕ). waiting_entries old ++ entry_of log k request ∷ []) (sym (entries_length old)) in
    record {
      room = room;
      log = writer;
      lines = lines;
      entries =
          ap (λ (p : Written). new.history ++ group_entries p.published (length new.history) new.group.items) writer
          ∙ (ap (λ (es : List Entry). es ++ group_entries log (length es) new.group.items) history
          ∙ (ap (λ (g : List Request). old.history ++ group_entries log n g) group
          ∙ (ap (λ (es : List Entry). old.history ++ es) last
          ∙ sym (append_assoc old.history (waiting_entries old)
          (entry_of log (length (sofar_of old).entries) request ∷ [])))));
    }

-- the same if the group is answered then
pub answered_last : (request : Request) (old one new : Session) → TakesReview request old one → Answered one new
    → TakesReview request old new
answered_last request old one new taken done = record {
  room = taken.room;
  log = done.log ∙ taken.log;
  lines = done.lines ∙ taken.lines;
  entries = none_waiting new done.none ∙ (done.entries ∙ taken.entries);
}
