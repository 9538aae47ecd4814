-- Which lines were taken, and where the first review that waits is.
use Rattle.std.proofs.Common.{◌≡◌, ◌≢◌, ℕ, ◌+◌, List, [], ◌∷◌, ◌++◌, length, Option, None, Some, Contains, subst, Ok, ◌⊎◌, inl, inr, refl}
use Rattle.std.proofs.Common.{sym, ap, ◌∙◌, append_assoc, arith}
use Rattle.std.specs.Prelude.{⊤}
use Rattle.std.proofs.lemmas.List.Elements.{Contains-append_left, Contains-append_right}
use Rattle.base_containers.specs.Lines.{IsFirstOf, lines_of}
use Rattle.base_containers.specs.declared.lines.Ending.{Ending}
use Rattle.base_containers.specs.declared.lines.Ending.TheVariants.{Feed, End, TooLong}
use Rattle.vap_match.specs.declared.request.Request.{Request}
use Rattle.vap_cli_lines.specs.Lines.{EachReads, IsAskedIn, Reads}
use Rattle.vap_cli_replay.specs.Moves.{BeginsWith, IsReadAs, Reaches, TakesNext, Waits, after_lines, lines_ended}
use Rattle.vap_cli_replay.specs.Replay.{Choices, Sofar, beginning}
use Rattle.vap_cli_replay.specs.Sessions.{Agrees, IsOpening, sofar_of}
use Rattle.vap_cli_lines.specs.declared.line.Line.{Line}
use Rattle.vap_cli_lines.specs.declared.line.Line.TheVariants.{Asks}
use Rattle.vap_cli_replay.specs.declared.session.Session.{Session}
use Rattle.vap_cli_replay.proofs.Unjudged.{first_none, first_stays, some_wait}
use Rattle.vap_cli_replay.proofs.Reached.{agrees_same, advanced, none_waiting, reached_counted}

-- if reviews wait, the first of them is among these lines, the others are after it, and `far` is how far the replay is before it
pub record WaitsIn (front : List (List ℕ)) (session : Session) : Type 0 where
  pub before : List (List ℕ)
  pub bytes : List ℕ
  pub others : List (List ℕ)
  pub split : front ≡ before ++ bytes ∷ others
  pub lines : List Line
  pub read : EachReads before lines
  pub request : Request
  pub asks : Reads bytes (Asks request)
  pub numbered : session.first ≡ length lines + 1
  pub far : Sofar
  pub log : far.log ≡ session.writer.published
  pub entries : far.entries ≡ session.history
  pub taken : (choices : Choices) → Agrees choices session.writer.published → after_lines choices lines beginning ≡ Ok far
  pub each : (request : Request) → Contains session.group.items request → IsAskedIn (bytes ∷ others) request

-- the lines before what is left were taken
pub record TakenUpTo (all left : List ℕ) (session : Session) : Type 0 where
  pub front : List (List ℕ)
  pub split : lines_of all ≡ front ++ lines_of left
  pub reached : Reaches front session
  pub waiting : session.group.items ≢ [] → WaitsIn front session

-- the same if what is left is known
abbrev pub Taken : Option (List ℕ) → Option (List ℕ) → Session → Type 0
Taken None left session = ⊤
Taken (Some all) None session = ⊥
Taken (Some all) (Some left) session = TakenUpTo all left session

-- at the beginning none was taken
pub opened : (all left : Option (List ℕ)) (session : Session) → left ≡ all → IsOpening session → Taken all left session
opened None left session same opening = tt
opened (Some all) None session same opening = cc
opened (Some all) (Some left) session same opening =
    let kept : left ≡ all = cc in
    record {
      front = [];
      split = ap (λ (l : List ℕ). lines_of l) (sym kept);
      reached = record { lines = []; read = tt; taken = λ choices agrees. ap (λ (s : Sofar). Ok s) (sym opening.sofar) };
      waiting = λ some. absurd (some opening.none);
    }

-- the line of bytes with this ending, and the lines after it
next_lines : (ending : Ending) (text left bytes : List ℕ) → IsFirstOf text left bytes ending → (ending ≡ End → left ≡ []) → ending ≢ TooLong
    → lines_of text ≡ lines_ended ending bytes ++ lines_of left
next_lines Feed text left bytes first done short = first
next_lines End text left [] first done short =
    let none : left ≡ [] = done refl in
    first ∙ ap (λ (l : List ℕ). lines_of l) (sym none)
next_lines End text left (x ∷ bytes) first done short =
    let none : left ≡ [] = done refl in
    first ∙ ap (λ (l : List ℕ). (x ∷ bytes) ∷ lines_of l) (sym none)
next_lines TooLong text left bytes first done short = absurd (short refl)

pub none_or_some : (group : List Request) → (group ≡ []) ⊎ (group ≢ [])
none_or_some [] = inl refl
none_or_some (r ∷ group) = inr (λ none. cc)

-- what is asked in lines is asked with others after them
asked_before : (lines more : List (List ℕ)) (request : Request) → IsAskedIn lines request → IsAskedIn (lines ++ more) request
asked_before lines more request a =
    record { bytes = a.bytes; line = Contains-append_left lines more a.bytes a.line; read = a.read }

-- the same with others before them
asked_behind : (before lines : List (List ℕ)) (request : Request) → IsAskedIn lines request → IsAskedIn (before ++ lines) request
asked_behind before lines request a =
    record { bytes = a.bytes; line = Contains-append_right before lines a.bytes a.line; read = a.read }

-- the review of a line is asked in the bytes of this line
ended_asks : (ending : Ending) (bytes : List ℕ) (request : Request) → IsReadAs ending bytes (Asks request)
    → IsAskedIn (lines_ended ending bytes) request
ended_asks ending bytes request is = record {
  bytes = bytes;
  line = subst (λ (ls : List (List ℕ)). Contains ls bytes) (sym is.one) (0, omega arith, refl);
  read = is.read;
}

-- the same of the first line of a text
pub begins_asks : (text : List ℕ) (request : Request) → BeginsWith text (Asks request) → IsAskedIn (lines_of text) request
begins_asks text request is = record {
  bytes = is.first;
  line = subst (λ (ls : List (List ℕ)). Contains ls is.first) (sym is.split) (0, omega arith, refl);
  read = is.read;
}

-- a review that waits, or that of the next line, is asked in these lines with that one
pub one_asked : (P : Type 0) (lines more : List (List ℕ)) (group : List Request) (request : Request)
    → (Contains group request → IsAskedIn lines request) → (P → IsAskedIn more request) → Contains group request ⊎ P
    → IsAskedIn (lines ++ more) request
one_asked P lines more group request waited next (inl there) = asked_before lines more request (waited there)
one_asked P lines more group request waited next (inr is) = asked_behind lines more request (next is)

-- if none waits, all that wait are asked
pub none_asked : (lines : List (List ℕ)) (group : List Request) (request : Request) → group ≡ [] → Contains group request
    → IsAskedIn lines request
none_asked lines group request none there = absurd (some_wait group request there none)

-- the first review that waits is among the lines, with one line more
waits_next : (ending : Ending) (bytes : List ℕ) (front : List (List ℕ)) (old new : Session) → Reaches front old
    → (old.group.items ≢ [] → WaitsIn front old) → Waits (IsReadAs ending bytes) old new
    → WaitsIn (front ++ lines_ended ending bytes) new
waits_next ending bytes front old new there waiting w = at (none_or_some old.group.items)
  where
    seen : (choices : Choices) → Agrees choices new.writer.published → Agrees choices old.writer.published
    seen choices agrees = agrees_same choices old.writer.published new.writer.published (sym w.log) agrees

    at : (old.group.items ≡ []) ⊎ (old.group.items ≢ []) → WaitsIn (front ++ lines_ended ending bytes) new
    at (inl none) =
        let (request, asked) = w.review none in
        let zero : length old.group.items ≡ 0 = ap (λ (l : List Request). length l) none in
        record {
          before = front;
          bytes = bytes;
          others = [];
          split = ap (λ (l : List (List ℕ)). front ++ l) asked.one;
          lines = there.lines;
          read = there.read;
          request = request;
          asks = asked.read;
          numbered =
              w.first ∙ (first_none old.group.items old.first (old.lines + 1) zero
              ∙ ap (λ (n : ℕ). n + 1) (reached_counted front old there));
          far = sofar_of old;
          log = sym w.log;
          entries = none_waiting old none ∙ sym w.history;
          taken = λ choices agrees. there.taken choices (seen choices agrees);
          each = λ waits there_waits.
              subst (λ (ls : List (List ℕ)). IsAskedIn ls waits) asked.one
              (one_asked (IsReadAs ending bytes (Asks waits)) [] (lines_ended ending bytes) old.group.items waits
              (none_asked [] old.group.items waits none) (ended_asks ending bytes waits) (w.each waits there_waits));
        }
    at (inr some) =
        let on : WaitsIn front old = waiting some in
        record {
          before = on.before;
          bytes = on.bytes;
          others = on.others ++ lines_ended ending bytes;
          split =
              ap (λ (l : List (List ℕ)). l ++ lines_ended ending bytes) on.split
              ∙ append_assoc on.before (on.bytes ∷ on.others) (lines_ended ending bytes);
          lines = on.lines;
          read = on.read;
          request = on.request;
          asks = on.asks;
          numbered = w.first ∙ (first_stays old.group.items old.first (old.lines + 1) some ∙ on.numbered);
          far = on.far;
          log = on.log ∙ sym w.log;
          entries = on.entries ∙ sym w.history;
          taken = λ choices agrees. on.taken choices (seen choices agrees);
          each = λ waits there_waits.
              one_asked (IsReadAs ending bytes (Asks waits)) (on.bytes ∷ on.others) (lines_ended ending bytes) old.group.items waits
              (on.each waits) (ended_asks ending bytes waits) (w.each waits there_waits);
        }

-- one line more was taken
pub taken_next : (ending : Ending) (all text left : Option (List ℕ)) (old new : Session) → Taken all text old
    → TakesNext text left ending old new → Taken all left new
taken_next ending None text left old new there next = tt
taken_next ending (Some all) None left old new there next = absurd there
taken_next ending (Some all) (Some text) None old new there next = absurd next.first
taken_next ending (Some all) (Some text) (Some left) old new there next =
    let lines : lines_of text ≡ lines_ended ending next.bytes ++ lines_of left =
    next_lines ending text left next.bytes next.first next.at_end next.short in
    record {
      front = there.front ++ lines_ended ending next.bytes;
      split =
          there.split ∙ (ap (λ (l : List (List ℕ)). there.front ++ l) lines
          ∙ sym (append_assoc there.front (lines_ended ending next.bytes) (lines_of left)));
      reached = advanced ending next.bytes there.front old new there.reached next.advances;
      waiting = λ some. waits_next ending next.bytes there.front old new there.reached there.waiting (next.advances.waiting some);
    }
