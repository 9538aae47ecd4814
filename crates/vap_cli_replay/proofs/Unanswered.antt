-- The first line that is not answered, and the event that is not published.
use Rattle.std.proofs.Common.{◌≡◌, ◌≢◌, ℕ, ◌+◌, List, [], ◌∷◌, ◌++◌, length, take, drop, Option, None, Some, Contains, subst, Ok, ◌⊎◌}
use Rattle.std.proofs.Common.{inl, inr, refl, sym, ap, ◌∙◌, append_assoc, arith}
use Rattle.std.specs.Prelude.{IfSome}
use Rattle.std.specs.Io.KnownBytes.{Appends}
use Rattle.std.proofs.Math.Seq.{drop_at}
use Rattle.base_containers.specs.Counted.{inner_of}
use Rattle.base_containers.specs.Lines.{lines_of}
use Rattle.base_containers.specs.declared.counted.Counted.{Counted}
use Rattle.vap_match.specs.declared.request.Request.{Request}
use Rattle.vap_watch.specs.Logs.{set_of}
use Rattle.vap_watch.specs.declared.log.Logged.{Logged}
use Rattle.vap_audit.specs.declared.entry.Entry.{Entry}
use Rattle.vap_audit.specs.Verdicts.{MayMatch}
use Rattle.vap_cli_lines.specs.Lines.{EachReads, IsAskedIn, Reads}
use Rattle.vap_cli_replay.specs.Moves.{BeginsWith, IsUnjudged, IsUnpublished, after_lines}
use Rattle.vap_cli_replay.specs.Replay.{Choices, Sofar, answers_text, beginning}
use Rattle.vap_cli_replay.specs.Sessions.{TellsGroup, sofar_of, waiting_entries}
use Rattle.vap_cli_replay.specs.Streams.{Comes, IsUnansweredAt, IsUnverifiedAt}
use Rattle.vap_cli_lines.specs.declared.fault.LineFault.TheVariants as fault
use Rattle.vap_cli_lines.specs.declared.line.Line.{Line}
use Rattle.vap_cli_lines.specs.declared.line.Line.TheVariants.{Happens, Asks}
use Rattle.vap_cli_replay.specs.declared.session.Session.{Session}
use Rattle.vap_cli_replay.proofs.Choosing.{agrees_itself, choices_of}
use Rattle.vap_cli_replay.proofs.Groups.{answers_more}
use Rattle.vap_cli_replay.proofs.Growth.{lines_counted}
use Rattle.vap_cli_replay.proofs.Steps.{reads_more}
use Rattle.vap_cli_replay.proofs.Unjudged.{first_none, first_stays}
use Rattle.vap_cli_replay.proofs.Texts.{appends_more, appends_same}
use Rattle.vap_cli_replay.proofs.Reached.{reads_same, read_length, take_one_more, none_waiting, reached_counted}
use Rattle.vap_cli_replay.proofs.Waiting.{WaitsIn, TakenUpTo, Taken, none_or_some, begins_asks, one_asked, none_asked}

-- a line comes after those that were taken
comes_at : (all : List ℕ) (front : List (List ℕ)) (first : List ℕ) (others : List (List ℕ)) (choices : Choices) (lines : List Line)
    (line : Line) (far : Sofar) (start end : Option (List ℕ)) (number : ℕ) → lines_of all ≡ front ++ first ∷ others
    → EachReads front lines → Reads first line → number ≡ length lines + 1 → after_lines choices lines beginning ≡ Ok far
    → Appends start end (answers_text far.entries) → Comes all start end number line far
comes_at all front first others choices lines line far start end number split each read numbered taken written =
    let last : number ≡ length front + 1 = numbered ∙ ap (λ n. n + 1) (sym (read_length front lines each)) in
    record {
      choices = choices;
      lines = lines;
      numbered = numbered;
      read =
          reads_same (take number (lines_of all)) (front ++ first ∷ []) (lines ++ line ∷ [])
          (ap (λ (l : List (List ℕ)). take number l) split ∙ take_one_more number front first others last)
          (reads_more front (first ∷ []) lines (line ∷ []) each (read, tt));
      taken = taken;
      written = written;
    }

-- what is asked after the first lines is asked after as many lines
asked_from : (all before lines : List (List ℕ)) (n : ℕ) (request : Request) → all ≡ before ++ lines → n ≡ length before
    → IsAskedIn lines request → IsAskedIn (drop n all) request
asked_from all before lines n request split many asked =
    subst (λ (ls : List (List ℕ)). IsAskedIn ls request)
    (sym (ap (λ (ls : List (List ℕ)). drop n ls) split ∙ drop_at before lines n (sym many))) asked

-- the first review that waits is the first that is not answered
waiting_unanswered : (all : List ℕ) (front rest : List (List ℕ)) (session : Session) (start done : Option (List ℕ)) (number : ℕ)
    (P : Type 0) (asked : Request) → lines_of all ≡ front ++ rest → WaitsIn front session → number ≡ session.first
    → Appends start done (answers_text session.history) → Contains session.group.items asked ⊎ P → (P → IsAskedIn rest asked)
    → MayMatch (set_of session.writer.published) asked → IsUnansweredAt all start done number
waiting_unanswered all front rest session start done number P asked split on numbered written waits next matches =
    let choices : Choices = choices_of session.writer.published in
    let whole : lines_of all ≡ on.before ++ on.bytes ∷ (on.others ++ rest) =
    split ∙ (ap (λ (l : List (List ℕ)). l ++ rest) on.split ∙ append_assoc on.before (on.bytes ∷ on.others) rest) in
    let counted : on.far.lines ≡ length on.lines =
    omega (arith, lines_counted choices on.lines beginning on.far (on.taken choices (agrees_itself session.writer.published))) in
    record {
      request = on.request;
      before = on.far;
      asked = asked;
      behind =
          asked_from (lines_of all) on.before (on.bytes ∷ (on.others ++ rest)) on.far.lines asked whole
          (counted ∙ sym (read_length on.before on.lines on.read))
          (one_asked P (on.bytes ∷ on.others) rest session.group.items asked (on.each asked) next waits);
      matches = subst (λ (log : List Logged). MayMatch (set_of log) asked) (sym on.log) matches;
      comes =
          comes_at all on.before on.bytes (on.others ++ rest) choices on.lines (Asks on.request) on.far start done number whole on.read
          on.asks (numbered ∙ on.numbered) (on.taken choices (agrees_itself session.writer.published))
          (appends_same start done (answers_text on.far.entries) (answers_text session.history)
          (ap (λ (es : List Entry). answers_text es) on.entries) written);
    }

-- the group that waits with the next line is not judged
unanswered_at : {W : Type 0} (contents : W → Option (List ℕ)) (all text : List ℕ) (session : Session) (start : Option (List ℕ))
    (before after : Counted W) (number : ℕ) → TakenUpTo all text session
    → Appends start (contents (inner_of before)) (answers_text session.history)
    → IsUnjudged (BeginsWith text) session before after number → IsUnansweredAt all start (contents (inner_of after)) number
unanswered_at contents all text session start before after number there written un = at (none_or_some session.group.items)
  where
    same : Appends start (contents (inner_of after)) (answers_text session.history)
    same = rw un.unwritten written

    at : (session.group.items ≡ []) ⊎ (session.group.items ≢ []) → IsUnansweredAt all start (contents (inner_of after)) number
    at (inl none) =
        let (request, asked) = un.review none in
        let zero : length session.group.items ≡ 0 = ap (λ (l : List Request). length l) none in
        let choices : Choices = choices_of session.writer.published in
        let entries : (sofar_of session).entries ≡ session.history = none_waiting session none in
        record {
          request = request;
          before = sofar_of session;
          asked = un.asked;
          behind =
              asked_from (lines_of all) there.front (lines_of text) session.lines un.asked there.split
              (reached_counted there.front session there.reached
              ∙ sym (read_length there.front there.reached.lines there.reached.read))
              (one_asked (BeginsWith text (Asks un.asked)) [] (lines_of text) session.group.items un.asked
              (none_asked [] session.group.items un.asked none) (begins_asks text un.asked) un.waits);
          matches = un.matches;
          comes =
              comes_at all there.front asked.first asked.others choices there.reached.lines (Asks request) (sofar_of session) start
              (contents (inner_of after)) number
              (there.split ∙ ap (λ (l : List (List ℕ)). there.front ++ l) asked.split) there.reached.read asked.read
              (un.numbered ∙ (first_none session.group.items session.first (session.lines + 1) zero
              ∙ ap (λ (n : ℕ). n + 1) (reached_counted there.front session there.reached)))
              (there.reached.taken choices (agrees_itself session.writer.published))
              (appends_same start (contents (inner_of after)) (answers_text (sofar_of session).entries)
              (answers_text session.history) (ap (λ (es : List Entry). answers_text es) entries) same);
        }
    at (inr some) =
        waiting_unanswered all there.front (lines_of text) session start (contents (inner_of after)) number
        (BeginsWith text (Asks un.asked)) un.asked there.split (there.waiting some)
        (un.numbered ∙ first_stays session.group.items session.first (session.lines + 1) some) same un.waits
        (begins_asks text un.asked) un.matches

pub unanswered_next : {W : Type 0} (contents : W → Option (List ℕ)) (all text : Option (List ℕ)) (session : Session)
    (start : Option (List ℕ)) (before after : Counted W) (number : ℕ) → Taken all text session
    → Appends start (contents (inner_of before)) (answers_text session.history)
    → IfSome text (λ left. IsUnjudged (BeginsWith left) session before after number)
    → IfSome all (λ bytes. IsUnansweredAt bytes start (contents (inner_of after)) number)
unanswered_next contents None text session start before after number there written un = tt
unanswered_next contents (Some all) None session start before after number there written un = absurd there
unanswered_next contents (Some all) (Some text) session start before after number there written un =
    unanswered_at contents all text session start before after number there written un

-- the group that waits at the end is not judged
pub unanswered_last : {W : Type 0} (contents : W → Option (List ℕ)) (all text : Option (List ℕ)) (session : Session)
    (start : Option (List ℕ)) (before after : Counted W) (number : ℕ) → Taken all text session
    → Appends start (contents (inner_of before)) (answers_text session.history) → TellsGroup session number fault.Pattern → after ≡ before
    → IfSome all (λ bytes. IsUnansweredAt bytes start (contents (inner_of after)) number)
unanswered_last contents None text session start before after number there written tells same = tt
unanswered_last contents (Some all) None session start before after number there written tells same = absurd there
unanswered_last contents (Some all) (Some text) session start before after number there written tells same =
    waiting_unanswered all there.front (lines_of text) session start (contents (inner_of after)) number ⊥ (tells.one refl).request
    there.split (there.waiting tells.waiting) tells.numbered (rw same written) (inl (tells.one refl).waits) (λ none. absurd none)
    (tells.one refl).matches

-- the event of the next line is not published
pub unverified_next : {W : Type 0} (contents : W → Option (List ℕ)) (all text : Option (List ℕ)) (session : Session)
    (start : Option (List ℕ)) (before after : Counted W) (number : ℕ) → Taken all text session
    → Appends start (contents (inner_of before)) (answers_text session.history)
    → IfSome text (λ left. IsUnpublished contents (BeginsWith left) session before after number)
    → IfSome all (λ bytes. IsUnverifiedAt bytes start (contents (inner_of after)) number)
unverified_next contents None text session start before after number there written un = tt
unverified_next contents (Some all) None session start before after number there written un = absurd there
unverified_next contents (Some all) (Some text) session start before after number there written un =
    let choices : Choices = choices_of session.writer.published in
    record {
      event = un.event;
      before = sofar_of session;
      comes =
          comes_at all there.front un.line.first un.line.others choices there.reached.lines (Happens un.event) (sofar_of session) start
          (contents (inner_of after)) number
          (there.split ∙ ap (λ (l : List (List ℕ)). there.front ++ l) un.line.split) there.reached.read un.line.read
          (un.numbered ∙ ap (λ (n : ℕ). n + 1) (reached_counted there.front session there.reached))
          (there.reached.taken choices (agrees_itself session.writer.published))
          (appends_same start (contents (inner_of after)) (answers_text (sofar_of session).entries)
          (answers_text session.history ++ answers_text (waiting_entries session))
          (answers_more session.history (waiting_entries session))
          (appends_more start (contents (inner_of before)) (contents (inner_of after)) (answers_text session.history)
          (answers_text (waiting_entries session)) written un.written));
      unverified = un.unverified;
    }
