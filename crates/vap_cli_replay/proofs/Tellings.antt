-- At which line it is reported that requests are not judged, and why.
use Rattle.std.proofs.Common.{◌≡◌, ◌≢◌, ℕ, false, List, [], ◌∷◌, Contains, Some, refl, subst, zero, suc, arith}
use Rattle.std.specs.Prelude.{slice_get}
use Rattle.vap_match.specs.declared.request.Request.{Request}
use Rattle.vap_plane_gathering.specs.declared.fault.PlaneFault.{PlaneFault}
use Rattle.vap_watch.specs.Logs.{set_of}
use Rattle.vap_watch.specs.declared.log.Logged.{Logged}
use Rattle.vap_audit.specs.Verdicts.{MayMatch}
use Rattle.vap_cli_replay.specs.Groups.{IsOfGroup, OneMayMatch, TellsRequests}
use Rattle.vap_cli_lines.specs.declared.fault.LineFault.{LineFault}
use Rattle.vap_cli_replay.specs.Streams.{is_of_the_lines}
use Rattle.vap_cli_lines.specs.declared.fault.LineFault.TheVariants as fault
use Rattle.vap_cli_lines.specs.declared.fault.LineFault.TheVariants.{Pattern, Stray, OfWorkers}
use Rattle.vap_cli_replay.specs.declared.fault.ReplayError.TheVariants.{Line}

contains_at : {X : Type 0} (xs : List X) (k : ℕ) (x : X) → slice_get xs k ≡ Some x → Contains xs x
contains_at [] k x at = let p : ⊥ = cc in absurd p
contains_at (y ∷ xs) zero x at = let same : y ≡ x = cc in (0, omega arith, same)
contains_at (y ∷ xs) (suc k) x at =
    let there = contains_at xs k x at in
    (suc there.0, omega (arith, there.1), there.2)

-- what is reported at a line is reported at that line
tells_of : (line number : ℕ) (log : List Logged) (requests : List Request) (told why : LineFault) → Line line told ≡ Line number why
    → requests ≢ [] → IsOfGroup told → (told ≡ Pattern → OneMayMatch log requests) → TellsRequests line log requests number why
tells_of line number log requests told why same some of one =
    let numbers : line ≡ number = cc in
    let faults : told ≡ why = cc in
    subst (λ (f : LineFault). TellsRequests line log requests number f) faults
    (subst (λ (n : ℕ). TellsRequests line log requests n told) numbers
    (record { numbered = refl; fault = of; waiting = some; one = one }))

-- an answer strays
pub tells_stray : (line number : ℕ) (log : List Logged) (requests : List Request) (why : LineFault) → Line line Stray ≡ Line number why
    → requests ≢ [] → TellsRequests line log requests number why
tells_stray line number log requests why same some =
    tells_of line number log requests Stray why same some tt (λ is. (let p : ⊥ = cc in absurd p))

-- workers do not answer
pub tells_workers : (line number : ℕ) (log : List Logged) (requests : List Request) (f : PlaneFault) (why : LineFault)
    → Line line (OfWorkers f) ≡ Line number why → requests ≢ [] → TellsRequests line log requests number why
tells_workers line number log requests f why same some =
    tells_of line number log requests (OfWorkers f) why same some tt (λ is. (let p : ⊥ = cc in absurd p))

-- a pattern that is looked for at one of the requests is not built again
pub tells_pattern : (line number : ℕ) (log : List Logged) (requests : List Request) (place : ℕ) (request : Request) (why : LineFault)
    → Line line Pattern ≡ Line number why → slice_get requests place ≡ Some request → MayMatch (set_of log) request → requests ≢ []
    → TellsRequests line log requests number why
tells_pattern line number log requests place request why same at matches some =
    tells_of line number log requests Pattern why same some tt
    (λ is. record { request = request; waits = contains_at requests place request at; matches = matches })

-- the lines alone do not determine why a group is not judged
pub not_of_lines : (why : LineFault) → IsOfGroup why → is_of_the_lines why ≡ false
not_of_lines fault.Pattern of = refl
not_of_lines fault.Stray of = refl
not_of_lines (fault.OfWorkers f) of = refl
not_of_lines fault.TooLong of = absurd of
not_of_lines fault.BadJson of = absurd of
not_of_lines fault.UnknownLine of = absurd of
not_of_lines (fault.OfEvent f) of = absurd of
not_of_lines (fault.OfReview f) of = absurd of
not_of_lines fault.LogFull of = absurd of
not_of_lines fault.TooManyObjects of = absurd of
not_of_lines fault.AuditFull of = absurd of
not_of_lines fault.Unverified of = absurd of
not_of_lines fault.NoPlace of = absurd of
