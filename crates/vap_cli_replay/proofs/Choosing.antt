-- The choices that a log keeps.
use Rattle.std.proofs.Common.{◌≡◌, ℕ, ◌-◌, ◌<◌, List, [], ◌∷◌, ◌++◌, length, refl, ap, ◌∙◌, suc, zero, arith}
use Rattle.vap_read.specs.declared.event.Event.{Event}
use Rattle.vap_watch.specs.Given.{Choice}
use Rattle.vap_watch.specs.Logs.{StartsWith, publication}
use Rattle.vap_watch.specs.declared.log.Logged.{Logged}
use Rattle.vap_cli_replay.specs.Replay.{Choices}
use Rattle.vap_cli_replay.specs.Sessions.{Agrees, kept_at}

-- the choices that a log keeps
abbrev pub choices_of : List Logged → Choices
choices_of log n = kept_at log (n - 1)

pub agrees_itself : (log : List Logged) → Agrees (choices_of log) log
agrees_itself log n below = ap (kept_at log) (omega arith)

-- an event that is published alone keeps its choice
pub kept_last : (log : List Logged) (choice : Choice) (event : Event)
    → kept_at (log ++ publication choice (event ∷ [])) (length log) ≡ choice
kept_last [] choice event = refl
kept_last (x ∷ log) choice event = kept_last log choice event

-- what a log begins with keeps what the log keeps there
kept_before : (log more : List Logged) (n : ℕ) → n < length log → kept_at (log ++ more) n ≡ kept_at log n
kept_before [] more n below = absurd (omega (arith, below))
kept_before (x ∷ log) more zero below = refl
kept_before (x ∷ log) more (suc n) below = kept_before log more n (omega (arith, below))

longer : (log more : List Logged) (n : ℕ) → n < length log → n < length (log ++ more)
longer [] more n below = absurd (omega (arith, below))
longer (x ∷ log) more zero below = omega arith
longer (x ∷ log) more (suc n) below = omega (arith, longer log more n (omega (arith, below)))

-- choices that agree with a log agree with what it begins with
pub agrees_start : (choices : Choices) (log seen : List Logged) → StartsWith log seen → Agrees choices log → Agrees choices seen
agrees_start choices log seen starts agrees n below =
    let all : Agrees choices (seen ++ starts.rest) = rw starts.split at agrees in
    all n (longer seen starts.rest n below) ∙ kept_before seen starts.rest n below
