-- What lines that are taken leave as it was.
use Rattle.std.proofs.Common.{◌≡◌, ◌+◌, Bool, true, false, List, [], ◌∷◌, ◌++◌, length, Result, Ok, Err, refl, sym, ap, ◌∙◌}
use Rattle.std.proofs.Common.{append-nil, append_assoc, arith}
use Rattle.std.specs.Prelude.{if◌then◌else◌, nat_lt}
use Rattle.vap_watch.specs.Given.{takes}
use Rattle.vap_watch.specs.Logs.{StartsWith, objects_of, publication}
use Rattle.vap_watch.specs.Places.{most_events}
use Rattle.vap_watch.specs.declared.log.Logged.{Logged}
use Rattle.vap_audit.specs.Entries.{most_entries}
use Rattle.vap_cli_replay.specs.Moves.{after_lines, and_then}
use Rattle.vap_cli_replay.specs.Replay.{Choices, Sofar, after_line}
use Rattle.vap_cli_lines.specs.declared.fault.LineFault.{LineFault}
use Rattle.vap_cli_lines.specs.declared.line.Line.{Line}
use Rattle.vap_cli_lines.specs.declared.line.Line.TheVariants.{Skipped, Happens, Asks, Refused}

-- one line more is counted, and the log goes on
pub record GoesOn (s t : Sofar) : Type 0 where
  pub counted : t.lines ≡ s.lines + 1
  pub log : StartsWith t.log s.log

with_event : (a b : Bool) (s t u : Sofar) (e f : LineFault) → GoesOn s u → (if a then (if b then Ok u else Err e) else Err f) ≡ Ok t
    → GoesOn s t
with_event true true s t u e f on h =
    let same : u ≡ t = cc in
    rw (← same) on
with_event true false s t u e f on h = cc
with_event false b s t u e f on h = cc

with_review : (a : Bool) (s t u : Sofar) (f : LineFault) → GoesOn s u → (if a then Ok u else Err f) ≡ Ok t → GoesOn s t
with_review true s t u f on h =
    let same : u ≡ t = cc in
    rw (← same) on
with_review false s t u f on h = cc

same_log : (log : List Logged) → StartsWith log log
same_log log = record { rest = []; split = sym (append-nil log) }

pub goes_on : (choices : Choices) (line : Line) (s t : Sofar) → after_line choices line s ≡ Ok t → GoesOn s t
goes_on choices Skipped s t h =
    let u : Sofar = record { lines = s.lines + 1; log = s.log; entries = s.entries } in
    let same : u ≡ t = cc in
    rw (← same) (record { counted = refl; log = same_log s.log })
goes_on choices (Happens event) s t h =
    with_event (nat_lt (length s.log) most_events) (takes (objects_of s.log) event) s t _ _ _
    (record {
      counted = refl;
      log = record { rest = publication (choices (length s.log + 1)) (event ∷ []); split = refl };
    })
    h
goes_on choices (Asks request) s t h =
    with_review (nat_lt (length s.entries) most_entries) s t _ _ (record { counted = refl; log = same_log s.log }) h
goes_on choices (Refused f) s t h = cc

-- the same of several lines
pub lines_counted : (choices : Choices) (lines : List Line) (s t : Sofar) → after_lines choices lines s ≡ Ok t
    → t.lines ≡ s.lines + length lines
lines_counted choices [] s t h =
    let same : s ≡ t = cc in
    rw (← same) (omega arith)
lines_counted choices (l ∷ lines) s t h = at (after_line choices l s) refl (λ u k. lines_counted choices lines u t k) h
  where
    at : (r : Result Sofar LineFault) → after_line choices l s ≡ r
        → ((u : Sofar) → after_lines choices lines u ≡ Ok t → t.lines ≡ u.lines + length lines)
        → and_then (λ u. after_lines choices lines u) r ≡ Ok t → t.lines ≡ s.lines + length (l ∷ lines)
    at (Ok u) is rest k = omega (arith, (goes_on choices l s u is).counted, rest u k)
    at (Err f) is rest k = cc

more_log : (a b c : List Logged) → StartsWith b a → StartsWith c b → StartsWith c a
more_log a b c h k = record {
  rest = h.rest ++ k.rest;
  split = k.split ∙ (ap (λ (l : List Logged). l ++ k.rest) h.split ∙ append_assoc a h.rest k.rest);
}

pub log_goes_on : (choices : Choices) (lines : List Line) (s t : Sofar) → after_lines choices lines s ≡ Ok t → StartsWith t.log s.log
log_goes_on choices [] s t h =
    let same : s ≡ t = cc in
    rw (← same) (same_log s.log)
log_goes_on choices (l ∷ lines) s t h = at (after_line choices l s) refl (λ u k. log_goes_on choices lines u t k) h
  where
    at : (r : Result Sofar LineFault) → after_line choices l s ≡ r
        → ((u : Sofar) → after_lines choices lines u ≡ Ok t → StartsWith t.log u.log)
        → and_then (λ u. after_lines choices lines u) r ≡ Ok t → StartsWith t.log s.log
    at (Ok u) is rest k = more_log s.log u.log t.log (goes_on choices l s u is).log (rest u k)
    at (Err f) is rest k = cc
