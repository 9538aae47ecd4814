-- The revision of a verdict.
use Rattle.std.proofs.Common.{◌≡◌, ◌+◌, ℕ, Bool, true, false, List, [], ◌∷◌, length, Result, Ok, Err, refl, ap, ◌∙◌, suc, arith}
use Rattle.std.specs.Prelude.{if◌then◌else◌}
use Rattle.vap_read.specs.declared.event.Event.{Event}
use Rattle.vap_match.specs.declared.request.Request.{Request}
use Rattle.vap_policy_set.specs.Sets.{holdings_of, kinds_of}
use Rattle.vap_policy.specs.Evaluations.{found_by}
use Rattle.vap_policy.specs.Judging as judging
use Rattle.vap_policy.specs.Places.{is_exempt, kind_at}
use Rattle.vap_watch.specs.Given.{Choice, Objects, PolicySet, after, built_of, no_choice, no_objects}
use Rattle.vap_watch.specs.Logs.{choice_after, events_of, objects_after, objects_of, set_of}
use Rattle.vap_watch.specs.declared.log.Logged.{Logged}
use Rattle.vap_audit.specs.Verdicts.{Verdict, verdict_at, verdict_of}

-- two verdicts of one revision
either : (b : Bool) (v w : Verdict) (n : ℕ) → v.revision ≡ n → w.revision ≡ n → (if b then v else w).revision ≡ n
either true v w n h k = h
either false v w n h k = k

-- verdicts of what is or is not, all of one revision
of_each : {A E : Type 0} (f : Result A E → Verdict) (n : ℕ) → ((a : A) → (f (Ok a)).revision ≡ n) → ((e : E) → (f (Err e)).revision ≡ n)
    → (r : Result A E) → (f r).revision ≡ n
of_each f n h k (Ok a) = h a
of_each f n h k (Err e) = k e

-- the revision of what a set decides is the count of the events that it keeps
set_revision : (set : PolicySet) (request : Request) → (verdict_of set request).revision ≡ set.events
unfolding verdict_of judging.verdict_of
set_revision set request =
    let kind = kind_at (kinds_of set) request.admission in
    either (is_exempt request.admission.resource) (judging.verdict_by set.events (found_by []))
    (judging.verdict_at set request.admission kind) set.events refl
    (of_each (judging.verdict_with set request.admission kind) set.events (λ held. refl) (λ fault. refl) _)

-- which is that of its objects
kept_count : (objects : Objects) (choice : Choice) → (built_of objects choice).events ≡ objects.events
unfolding holdings_of
kept_count objects choice = refl

-- each event is counted
counted : (objects : Objects) (events : List Event) → (objects_after objects events).events ≡ objects.events + length events
counted objects [] = omega arith
counted objects (e ∷ events) = omega (arith, counted (after objects e) events)

length_events : (log : List Logged) → length (events_of log) ≡ length log
length_events [] = refl
length_events (x ∷ log) = ap suc (length_events log)

-- the revision of the verdict at a log is the log's length
pub verdict_revision : (log : List Logged) (request : Request) → (verdict_at log request).revision ≡ length log
verdict_revision log request =
    let all : (objects_after no_objects (events_of log)).events ≡ length (events_of log) =
    omega (arith, counted no_objects (events_of log)) in
    set_revision (set_of log) request ∙ kept_count (objects_of log) (choice_after no_choice log) ∙ (all ∙ length_events log)
