-- Groups that wait, and at which line it is reported that one is not judged.
use Rattle.std.proofs.Common.{◌≡◌, ◌≢◌, ◌⊎◌, inl, inr, ℕ, ◌+◌, List, [], ◌∷◌, ◌++◌, Contains, length, Option, None, Some, Result, Ok, Err}
use Rattle.std.proofs.Common.{true, refl, sym, ap, ◌∙◌, subst, arith}
use Rattle.std.specs.Prelude.{OnOk, IfSome}
use Rattle.std.specs.Io.KnownBytes.{Appends}
use Rattle.std.proofs.lemmas.List.Elements.{Contains-append_left, Contains-push, Contains-push_cases}
use Rattle.vap_read.specs.Reading.{read_line}
use Rattle.vap_read.specs.Lines.{line_kind}
use Rattle.vap_read.specs.declared.event.Event.{Event}
use Rattle.vap_read.specs.declared.event_fault.EventFault.{EventFault}
use Rattle.vap_read.specs.declared.line.LineKind.{LineKind}
use Rattle.vap_read.specs.declared.line.LineKind.TheVariants as kind
use Rattle.vap_match.specs.RequestReading.{read_review}
use Rattle.vap_match.specs.declared.request.Request.{Request}
use Rattle.vap_match.specs.declared.review_fault.ReviewFault.{ReviewFault}
use Rattle.serde_json.specs.Data.{Data}
use Rattle.base_containers.specs.Counted.{inner_of}
use Rattle.base_containers.specs.Lines.{IsFirst, lines_of}
use Rattle.base_containers.specs.declared.counted.Counted.{Counted}
use Rattle.base_containers.specs.declared.lines.Ending.{Ending}
use Rattle.base_containers.specs.declared.lines.Ending.TheVariants.{Feed, End, TooLong}
use Rattle.vap_watch.specs.Given.{AreUnverified}
use Rattle.vap_watch.specs.Logs.{objects_after, objects_of, set_of}
use Rattle.vap_watch.specs.Places.{Written}
use Rattle.vap_watch.specs.declared.log.Logged.{Logged}
use Rattle.vap_audit.specs.Verdicts.{MayMatch}
use Rattle.vap_cli_lines.specs.Lines.{Reads, event_line, line_by, review_line}
use Rattle.vap_cli_replay.specs.Moves.{BeginsWith, IsReadAs, IsUnjudged, IsUnpublished, Waits, lines_ended}
use Rattle.vap_cli_replay.specs.Replay.{answers_text}
use Rattle.vap_cli_replay.specs.Groups.{OneMayMatch, TellsRequests}
use Rattle.vap_cli_replay.specs.Sessions.{Answered, TakesReview, TellsGroup, first_with, waiting_entries}
use Rattle.vap_cli_replay.specs.Streams.{IsPlain, is_of_the_lines}
use Rattle.vap_cli_lines.specs.declared.fault.LineFault.{LineFault}
use Rattle.vap_cli_lines.specs.declared.fault.LineFault.TheVariants as fault
use Rattle.vap_cli_lines.specs.declared.line.Line.{Line as LineOf}
use Rattle.vap_cli_lines.specs.declared.line.Line.TheVariants.{Skipped, Happens, Asks, Refused}
use Rattle.vap_cli_replay.specs.declared.session.Session.{Session}

-- ---- the first line of a group

pub first_none : (group : List Request) (first line : ℕ) → length group ≡ 0 → first_with group first line ≡ line
first_none [] first line none = refl
first_none (r ∷ group) first line none = cc

pub first_some : (group : List Request) (first line : ℕ) → length group ≢ 0 → first_with group first line ≡ first
first_some [] first line some = absurd (some refl)
first_some (r ∷ group) first line some = refl

pub first_stays : (group : List Request) (first line : ℕ) → group ≢ [] → first_with group first line ≡ first
first_stays [] first line some = absurd (some refl)
first_stays (r ∷ group) first line some = refl

-- a group that is not judged is reported at its first line, whatever waits with it
pub group_first : (s : Session) (line number : ℕ) (why : LineFault) → TellsGroup s number why
    → number ≡ first_with s.group.items s.first line
group_first s line number why tells = tells.numbered ∙ sym (first_stays s.group.items s.first line tells.waiting)

-- ---- the request at which a pattern is looked for

-- if one request waits, the group is not empty
pub some_wait : (group : List Request) (request : Request) → Contains group request → group ≢ []
some_wait [] request there = absurd (omega (arith, there.1))
some_wait (r ∷ group) request there = λ none. cc

-- requests that are not judged are those of a group
pub group_tells : (s : Session) (log : List Logged) (requests : List Request) (number : ℕ) (why : LineFault)
    → log ≡ s.writer.published → requests ≡ s.group.items → TellsRequests s.first log requests number why → TellsGroup s number why
group_tells s log requests number why same group tells =
    subst (λ (l : List Logged). TellsRequests s.first l s.group.items number why) same
    (subst (λ (rs : List Request). TellsRequests s.first log rs number why) group tells)

-- what is looked for at a request is still looked for if one more waits
pub one_more_waits : (old : Session) (request : Request) → OneMayMatch old.writer.published old.group.items
    → OneMayMatch old.writer.published (old.group.items ++ request ∷ [])
one_more_waits old request one = record {
  request = one.request;
  waits = Contains-append_left old.group.items (request ∷ []) one.request one.waits;
  matches = one.matches;
}

-- what is looked for at the review that was read last is looked for at one of those that wait with it
pub last_looks : (old : Session) (request : Request) → MayMatch (set_of old.writer.published) request
    → OneMayMatch old.writer.published (old.group.items ++ request ∷ [])
last_looks old request matches = record {
  request = request;
  waits = Contains-push old.group.items request;
  matches = matches;
}

-- the same if the last of the group waits with the others
pub last_waits : (old one : Session) (requests : List Request) → one.writer ≡ old.writer → one.group.items ≡ requests
    → OneMayMatch one.writer.published one.group.items → OneMayMatch old.writer.published requests
last_waits old one requests writer group at = record {
  request = at.request;
  waits = subst (λ (rs : List Request). Contains rs at.request) group at.waits;
  matches = subst (λ (p : Written). MayMatch (set_of p.published) at.request) writer at.matches;
}

-- a request that waits with one more waited before, or is the line's
pub asked_last : (Is : LineOf → Type 0) (before after : List Request) (request asked : Request) → Is (Asks request)
    → after ≡ before ++ request ∷ [] → Contains after asked → Contains before asked ⊎ Is (Asks asked)
asked_last Is before after request asked is grown there =
    at (Contains-push_cases before request asked (subst (λ (rs : List Request). Contains rs asked) grown there))
  where
    at : Contains before asked ⊎ (request ≡ asked) → Contains before asked ⊎ Is (Asks asked)
    at (inl waited) = inl waited
    at (inr same) = inr (subst (λ (r : Request). Is (Asks r)) same is)

-- the same if the line is seen in another way
asked_as : (Is Was : LineOf → Type 0) (group : List Request) (asked : Request) → (Is (Asks asked) → Was (Asks asked))
    → Contains group asked ⊎ Is (Asks asked) → Contains group asked ⊎ Was (Asks asked)
asked_as Is Was group asked was (inl waited) = inl waited
asked_as Is Was group asked was (inr is) = inr (was is)

-- ---- one line

-- nothing waits after an answered group
pub none_waits : {A E : Type 0} (r : Result A E) (Is : LineOf → Type 0) (old two new : Session) → two.group.items ≡ []
    → new.group ≡ two.group → OnOk r (new.group.items ≢ [] → Waits Is old new)
none_waits (Ok x) Is old two new none same = λ some. absurd (some (rw same none))
none_waits (Err e) Is old two new none same = tt

-- what waits still waits if a line is skipped
pub same_waits : (Is : LineOf → Type 0) (old new : Session) → new.writer ≡ old.writer → new.history ≡ old.history → new.group ≡ old.group
    → new.first ≡ old.first → new.group.items ≢ [] → Waits Is old new
same_waits Is old new writer history group first some =
    let still : old.group.items ≢ [] = rw group at some in
    record {
      log = ap (λ (p : Written). p.published) writer;
      history = history;
      first = first ∙ sym (first_stays old.group.items old.first (old.lines + 1) still);
      review = λ none. absurd (still none);
      each = λ request there. inl (rw group at there);
    }

-- a review waits, as the first or after others
pub asks_waits : {A E : Type 0} (r : Result A E) (line : LineOf) (request : Request) (old one new : Session) → line ≡ Asks request
    → one.writer ≡ old.writer → one.history ≡ old.history → one.group ≡ old.group → one.first ≡ old.first → one.lines ≡ old.lines + 1
    → OnOk r (TakesReview request one new)
    → OnOk r (new.group.items ≢ [] → (new.history ≡ one.history) × (new.first ≡ first_with one.group.items one.first one.lines))
    → OnOk r (new.group.items ≢ [] → new.group.items ≡ one.group.items ++ request ∷ [])
    → OnOk r (new.group.items ≢ [] → Waits (λ l. line ≡ l) old new)
asks_waits (Ok x) line request old one new is writer history group first lines taken waits grown = λ some.
    let on = waits some in
    record {
      log = ap (λ (p : Written). p.published) (taken.log ∙ writer);
      history = on.0 ∙ history;
      first = on.1 ∙ rw (group, first, lines) refl;
      review = λ none. (request, is);
      each = λ asked there. asked_last (λ l. line ≡ l) old.group.items new.group.items request asked is (rw group at grown some) there;
    }
asks_waits (Err e) line request old one new is writer history group first lines taken waits grown = tt

-- a group that is not judged before a line is taken
pub group_unjudged : {W : Type 0} (Is : LineOf → Type 0) (old : Session) (first : ℕ) (log : List Logged) (requests : List Request)
    (before after : Counted W) (number : ℕ) → TellsRequests first log requests number fault.Pattern → log ≡ old.writer.published
    → requests ≡ old.group.items → first ≡ old.first → after ≡ before → IsUnjudged Is old before after number
group_unjudged Is old first log requests before after number tells published group same unwritten =
    let some : old.group.items ≢ [] = rw group at tells.waiting in
    let looked : OneMayMatch log requests = tells.one refl in
    record {
      unwritten = unwritten;
      numbered = tells.numbered ∙ (same ∙ sym (first_stays old.group.items old.first (old.lines + 1) some));
      review = λ none. absurd (some none);
      asked = looked.request;
      waits = inl (rw group at looked.waits);
      matches = subst (λ (l : List Logged). MayMatch (set_of l) looked.request) published looked.matches;
    }

-- a group that is not judged with the review of a line
pub review_unjudged : {W : Type 0} (line : LineOf) (request : Request) (old : Session) (before after : Counted W) (number : ℕ)
    → line ≡ Asks request → (after ≡ before) × (number ≡ first_with old.group.items old.first (old.lines + 1))
    → OneMayMatch old.writer.published (old.group.items ++ request ∷ []) → IsUnjudged (λ l. line ≡ l) old before after number
review_unjudged line request old before after number is told one = record {
  unwritten = told.0;
  numbered = told.1;
  review = λ none. (request, is);
  asked = one.request;
  waits = asked_last (λ l. line ≡ l) old.group.items (old.group.items ++ request ∷ []) request one.request is refl one.waits;
  matches = one.matches;
}

-- the event of a line is not published
pub event_unpublished : {W : Type 0} (contents : W → Option (List ℕ)) (line : LineOf) (event : Event) (old one two : Session)
    (before after : Counted W) (number : ℕ) → line ≡ Happens event → Answered one two → one.writer ≡ old.writer
    → one.lines ≡ old.lines + 1 → waiting_entries one ≡ waiting_entries old
    → (number ≡ two.lines) × AreUnverified (objects_after (objects_of two.writer.published) (event ∷ []))
    → Appends (contents (inner_of before)) (contents (inner_of after)) (answers_text (waiting_entries one))
    → IsUnpublished contents (λ l. line ≡ l) old before after number
event_unpublished contents line event old one two before after number is done writer lines waiting told written =
    let same : two.writer ≡ old.writer = done.log ∙ writer in
    record {
      event = event;
      line = is;
      numbered = told.0 ∙ (done.lines ∙ lines);
      unverified = rw same at told.1;
      written = rw (← waiting) written;
    }

-- ---- what is read

plain_event : (r : Result Event EventFault) → IsPlain (event_line r)
plain_event (Ok event) = tt
plain_event (Err f) = refl

plain_review : (r : Result Request ReviewFault) → IsPlain (review_line r)
plain_review (Ok request) = tt
plain_review (Err f) = refl

plain_kind : (k : LineKind) (document : Data) → IsPlain (line_by k document)
plain_kind kind.WatchEvent document = plain_event (read_line kind.WatchEvent document)
plain_kind kind.ObjectList document = plain_event (read_line kind.ObjectList document)
plain_kind kind.Review document = plain_review (read_review document)
plain_kind kind.Unknown document = refl

-- if a line that is read is refused, the lines alone determine this
pub plain_read : (bytes : List ℕ) (line : LineOf) → Reads bytes line → IsPlain line
plain_read bytes Skipped read = tt
plain_read bytes (Happens event) read = tt
plain_read bytes (Asks request) read = tt
plain_read bytes (Refused fault.TooLong) read = refl
plain_read bytes (Refused fault.BadJson) read = refl
plain_read bytes (Refused fault.UnknownLine) read = refl
plain_read bytes (Refused (fault.OfEvent f)) read = refl
plain_read bytes (Refused (fault.OfReview f)) read = refl
plain_read bytes (Refused fault.LogFull) read = refl
plain_read bytes (Refused fault.TooManyObjects) read = refl
plain_read bytes (Refused fault.AuditFull) read = refl
plain_read bytes (Refused fault.Unverified) read =
    let document = read.2.document in
    subst IsPlain (sym read.2.is) (plain_kind (line_kind document) document)
plain_read bytes (Refused fault.Pattern) read =
    let document = read.2.document in
    subst IsPlain (sym read.2.is) (plain_kind (line_kind document) document)
plain_read bytes (Refused fault.Stray) read =
    let document = read.2.document in
    subst IsPlain (sym read.2.is) (plain_kind (line_kind document) document)
plain_read bytes (Refused fault.NoPlace) read =
    let document = read.2.document in
    subst IsPlain (sym read.2.is) (plain_kind (line_kind document) document)
plain_read bytes (Refused (fault.OfWorkers f)) read =
    let document = read.2.document in
    subst IsPlain (sym read.2.is) (plain_kind (line_kind document) document)

-- the fault of such a line
pub plain_fault : (line : LineOf) (f : LineFault) → IsPlain line → line ≡ Refused f → is_of_the_lines f ≡ true
plain_fault line f plain is = subst IsPlain is plain

pub read_as : (ending : Ending) (bytes : List ℕ) (line l : LineOf) → lines_ended ending bytes ≡ bytes ∷ [] → ending ≢ TooLong
    → Reads bytes line → line ≡ l → IsReadAs ending bytes l
read_as ending bytes line l one short read is = record { one = one; short = short; read = subst (Reads bytes) is read }

-- ---- lines seen in another way

pub waits_as : {A E : Type 0} (r : Result A E) (Is Was : LineOf → Type 0) (old new : Session)
    → ((request : Request) → Is (Asks request) → Was (Asks request)) → OnOk r (new.group.items ≢ [] → Waits Is old new)
    → OnOk r (new.group.items ≢ [] → Waits Was old new)
waits_as (Ok x) Is Was old new asked waits = λ some.
    let on = waits some in
    record {
      log = on.log;
      history = on.history;
      first = on.first;
      review = λ none. (let (request, is) = on.review none in (request, asked request is));
      each = λ request there. asked_as Is Was old.group.items request (asked request) (on.each request there);
    }
waits_as (Err e) Is Was old new asked waits = tt

pub unjudged_as : {W : Type 0} (Is Was : LineOf → Type 0) (old : Session) (before after : Counted W) (number : ℕ)
    → ((request : Request) → Is (Asks request) → Was (Asks request)) → IsUnjudged Is old before after number
    → IsUnjudged Was old before after number
unjudged_as Is Was old before after number asked at = record {
  unwritten = at.unwritten;
  numbered = at.numbered;
  review = λ none. (let (request, is) = at.review none in (request, asked request is));
  asked = at.asked;
  waits = asked_as Is Was old.group.items at.asked (asked at.asked) at.waits;
  matches = at.matches;
}

pub unpublished_as : {W : Type 0} (contents : W → Option (List ℕ)) (Is Was : LineOf → Type 0) (old : Session) (before after : Counted W)
    (number : ℕ) → ((event : Event) → Is (Happens event) → Was (Happens event)) → IsUnpublished contents Is old before after number
    → IsUnpublished contents Was old before after number
unpublished_as contents Is Was old before after number asked at = record {
  event = at.event;
  line = asked at.event at.line;
  numbered = at.numbered;
  unverified = at.unverified;
  written = at.written;
}

-- the bytes of the next line are those of the first of the text
begins_of : (ending : Ending) (text : List ℕ) (left : Option (List ℕ)) (bytes : List ℕ) (line : LineOf)
    → IsFirst (Some text) left bytes ending → IsReadAs ending bytes line → BeginsWith text line
begins_of ending text None bytes line first asked = absurd first
begins_of Feed text (Some left) bytes line first asked = record { first = bytes; others = lines_of left; split = first; read = asked.read }
begins_of End text (Some left) [] line first asked =
    let one : [] ≡ [] ∷ [] = asked.one in
    cc
begins_of End text (Some left) (x ∷ bytes) line first asked = record { first = x ∷ bytes; others = []; split = first; read = asked.read }
begins_of TooLong text (Some left) bytes line first asked = absurd (asked.short refl)

pub next_unjudged : {W : Type 0} (ending : Ending) (text left : Option (List ℕ)) (bytes : List ℕ) (old : Session) (before after : Counted W)
    (number : ℕ) → IsFirst text left bytes ending → IsUnjudged (IsReadAs ending bytes) old before after number
    → IfSome text (λ t. IsUnjudged (BeginsWith t) old before after number)
next_unjudged ending None left bytes old before after number first at = tt
next_unjudged ending (Some text) left bytes old before after number first at =
    unjudged_as (IsReadAs ending bytes) (BeginsWith text) old before after number
    (λ request asked. begins_of ending text left bytes (Asks request) first asked) at

pub next_unpublished : {W : Type 0} (contents : W → Option (List ℕ)) (ending : Ending) (text left : Option (List ℕ)) (bytes : List ℕ)
    (old : Session) (before after : Counted W) (number : ℕ) → IsFirst text left bytes ending
    → IsUnpublished contents (IsReadAs ending bytes) old before after number
    → IfSome text (λ t. IsUnpublished contents (BeginsWith t) old before after number)
next_unpublished contents ending None left bytes old before after number first at = tt
next_unpublished contents ending (Some text) left bytes old before after number first at =
    unpublished_as contents (IsReadAs ending bytes) (BeginsWith text) old before after number
    (λ event asked. begins_of ending text left bytes (Happens event) first asked) at
