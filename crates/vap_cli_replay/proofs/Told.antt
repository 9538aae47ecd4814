-- What is written, in terms of the lines of the whole text.
use Rattle.std.proofs.Common.{◌≡◌, ◌≢◌, ℕ, Bool, List, ◌++◌, Option, None, Some, Result, Ok, Err, ap, ◌∙◌}
use Rattle.std.specs.Prelude.{IfErr, IfSome}
use Rattle.std.specs.Io.KnownBytes.{Appends}
use Rattle.base_containers.specs.Counted.{inner_of}
use Rattle.base_containers.specs.Lines.{lines_of}
use Rattle.base_containers.specs.declared.counted.Counted.{Counted}
use Rattle.vap_audit.specs.declared.entry.Entry.{Entry}
use Rattle.vap_cli_replay.specs.Moves.{RefusesNext, StopsAt, Writes}
use Rattle.vap_cli_replay.specs.Replay.{answers_text}
use Rattle.vap_cli_replay.specs.Sessions.{waiting_entries}
use Rattle.vap_cli_replay.specs.Streams.{Refuses, Stops}
use Rattle.vap_cli_lines.specs.declared.fault.LineFault.{LineFault}
use Rattle.vap_cli_replay.specs.declared.fault.ReplayError.{ReplayError}
use Rattle.vap_cli_replay.specs.declared.fault.ReplayError.TheVariants.{Write, Line as AtLine}
use Rattle.vap_cli_replay.specs.declared.session.Session.{Session}
use Rattle.vap_cli_replay.proofs.Groups.{answers_more}
use Rattle.vap_cli_replay.proofs.Stopping.{refused_at, stopped_at}
pub use Rattle.vap_cli_replay.proofs.Texts.{appends_more, appends_none, appends_kept, appends_same}
pub use Rattle.vap_cli_replay.proofs.Reached.{none_waiting}
pub use Rattle.vap_cli_replay.proofs.Stopping.{stops_here, stops_behind}
pub use Rattle.vap_cli_replay.proofs.Waiting.{Taken, taken_next}
pub use Rattle.vap_cli_replay.proofs.Unanswered.{unanswered_next, unanswered_last, unverified_next}
pub use Rattle.vap_cli_replay.proofs.Endings.{read_last, replays_each, stopped_each}

-- some answers more are written
pub written_next : {W : Type 0} (contents : W → Option (List ℕ)) (start : Option (List ℕ)) (old new : Session) (before after : Counted W)
    → Appends start (contents (inner_of before)) (answers_text old.history) → Writes contents old new before after
    → Appends start (contents (inner_of after)) (answers_text new.history)
written_next contents start old new before after there on =
    appends_same start (contents (inner_of after)) (answers_text new.history) (answers_text old.history ++ answers_text on.answered)
    (ap (λ (es : List Entry). answers_text es) on.grown ∙ answers_more old.history on.answered)
    (appends_more start (contents (inner_of before)) (contents (inner_of after)) (answers_text old.history) (answers_text on.answered)
    there on.written)

-- the next line is refused
pub refused_next : {W : Type 0} (contents : W → Option (List ℕ)) (audit : Bool) (all text : Option (List ℕ)) (session : Session)
    (start : Option (List ℕ)) (before after : Counted W) (number : ℕ) (why : LineFault) → Taken all text session
    → Appends start (contents (inner_of before)) (answers_text session.history)
    → IfSome text (λ left. RefusesNext contents left session before after number why)
    → IfSome all (λ bytes. Refuses audit bytes start (contents (inner_of after)) (record { line = number; fault = why }))
refused_next contents audit None text session start before after number why there written next = tt
refused_next contents audit (Some all) None session start before after number why there written next = absurd there
refused_next contents audit (Some all) (Some text) session start before after number why there written next =
    refused_at contents audit all there.front next.first next.others session next.line start before after number why
    (there.split ∙ ap (λ (l : List (List ℕ)). there.front ++ l) next.split) there.reached next.read next.refused written

-- if a line is reported, no write has failed, and nothing is written
pub told_unwritten : {A W : Type 0} (r : Result A ReplayError) (before after : Counted W) (number : ℕ) (why : LineFault)
    → r ≡ Err (AtLine number why) → IfErr r (λ error. error ≢ Write → after ≡ before) → after ≡ before
told_unwritten (Ok x) before after number why is at = cc
told_unwritten (Err e) before after number why is at = at (λ same. cc)

-- a call that ends by the error of another, which wrote nothing, stops here
pub stops_unless_written : {A B W : Type 0} (r : Result A ReplayError) (s : Result B ReplayError) (e : ReplayError)
    (contents : W → Option (List ℕ)) (session : Session) (before after : Counted W) → r ≡ Err e → s ≡ Err e
    → IfErr r (λ error. error ≢ Write → after ≡ before) → IfErr s (λ error. error ≢ Write → StopsAt contents session before after)
stops_unless_written r (Ok x) e contents session before after failed is at = tt
stops_unless_written (Ok x) (Err f) e contents session before after failed is at = cc
stops_unless_written (Err d) (Err f) e contents session before after failed is at =
    λ not. stops_here contents session before after (at (λ write. not (let same : f ≡ Write = cc in same)))

-- a call that ends by an error behind an answered group stops behind its answers
pub stops_answered : {A W : Type 0} (r : Result A ReplayError) (contents : W → Option (List ℕ)) (session : Session)
    (before after : Counted W) → Appends (contents (inner_of before)) (contents (inner_of after)) (answers_text (waiting_entries session))
    → IfErr r (λ error. error ≢ Write → StopsAt contents session before after)
stops_answered (Ok x) contents session before after written = tt
stops_answered (Err e) contents session before after written = λ not. stops_behind contents session before after written

-- the replay stops after what was taken
pub stopped_next : {W : Type 0} (contents : W → Option (List ℕ)) (audit : Bool) (all text : Option (List ℕ)) (session : Session)
    (start : Option (List ℕ)) (before after : Counted W) → Taken all text session
    → Appends start (contents (inner_of before)) (answers_text session.history) → StopsAt contents session before after
    → IfSome all (λ bytes. Stops audit bytes start (contents (inner_of after)))
stopped_next contents audit None text session start before after there written at = tt
stopped_next contents audit (Some all) None session start before after there written at = absurd there
stopped_next contents audit (Some all) (Some text) session start before after there written at =
    stopped_at contents audit all there.front (lines_of text) session start before after there.split there.reached at written

-- the replay stops before the last group is answered, if no write has failed
pub stopped_last : {A W : Type 0} (r : Result A ReplayError) (contents : W → Option (List ℕ)) (all text : Option (List ℕ))
    (session : Session) (start : Option (List ℕ)) (before after : Counted W) → Taken all text session
    → Appends start (contents (inner_of before)) (answers_text session.history) → IfErr r (λ error. error ≢ Write → after ≡ before)
    → IfErr r (λ error. error ≢ Write → (audit : Bool) → IfSome all (λ bytes. Stops audit bytes start (contents (inner_of after))))
stopped_last (Ok x) contents all text session start before after there written at = tt
stopped_last (Err e) contents all text session start before after there written at =
    λ not audit.
    stopped_next contents audit all text session start before after there written (stops_here contents session before after (at not))
