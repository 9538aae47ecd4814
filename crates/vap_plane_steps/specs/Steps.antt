-- A world and its steps.
use Rattle.std.specs.Prelude.{◌≡◌, ◌⊎◌, ◌≤◌, ◌==◌, ℕ, ◌+◌, ⊤, Bool, true, List, [], ◌∷◌, ◌++◌, length, slice_get, slice_set, replicate}
use Rattle.std.specs.Prelude.{nat_lt, if◌then◌else◌, Option, Some, None, option_and_then}
use Rattle.std.specs.List.{All}
use Rattle.vap_match.specs.declared.request.Request.{Request}
use Rattle.vap_policy_verdict.specs.declared.verdict.Verdict.{Verdict}
use Rattle.vap_watch.specs.Places.{HasRoomFor, Position, Publishes, at}
use Rattle.vap_audit.specs.Entries.{AreRightIn, most_entries}
use Rattle.vap_audit.specs.declared.entry.Entry.{Entry}
use Rattle.vap_plane_steps.specs.Held.{Holding, entered, entry_of, judged}
use Rattle.vap_plane_steps.specs.declared.step.Step.{Step}
use Rattle.vap_plane_steps.specs.declared.step.Step.TheVariants.{Stage, Publish, Enter, Judge, Record, GiveUp}

-- a world: the log, published and staged; what each worker holds; how often one entered; and the history
pub record State : Type 0 where
  pub position : Position
  pub workers : List (Option Holding)
  pub entered : ℕ
  pub history : List Entry

-- how many workers there are
abbrev pub most_workers : ℕ
most_workers = 256

-- nothing is published, staged, held or recorded
abbrev pub opening : State
opening = record { position = at [] []; workers = replicate most_workers None; entered = 0; history = [] }

-- what a worker holds
abbrev pub held_by : ℕ → State → Option Holding
held_by worker s = option_and_then (λ held. held) (slice_get s.workers worker)

-- a worker holds this
abbrev pub holding : ℕ → Option Holding → State → State
holding worker held s =
    record { position = s.position; workers = slice_set s.workers worker held; entered = s.entered; history = s.history }

-- another log, published and staged
abbrev pub moved : Position → State → State
moved position s = record { position = position; workers = s.workers; entered = s.entered; history = s.history }

-- one more entry, put last
abbrev pub with_entry : Entry → State → State
with_entry entry s = record { position = s.position; workers = s.workers; entered = s.entered; history = s.history ++ entry ∷ [] }

-- a worker that holds nothing enters at what is published, in the call of this number
abbrev pub after_enter : Option Holding → ℕ → Request → State → State
after_enter None worker request s = record {
  position = s.position;
  workers = slice_set s.workers worker (Some (entered request s.entered s.position.published));
  entered = s.entered + 1;
  history = s.history;
}
after_enter (Some held) worker request s = s

-- a request that a worker holds without a verdict is judged
abbrev pub after_judge : Option Holding → ℕ → State → State
after_judge None worker s = s
after_judge (Some held) worker s = holding worker (Some (judged held.verdict held)) s

-- a verdict is recorded if the history is not full
abbrev pub after_verdict : Option Verdict → Holding → ℕ → State → State
after_verdict None held worker s = s
after_verdict (Some verdict) held worker s =
    if nat_lt (length s.history) most_entries
    then with_entry (entry_of held verdict worker) (holding worker None s)
    else s

abbrev pub after_record : Option Holding → ℕ → State → State
after_record None worker s = s
after_record (Some held) worker s = after_verdict held.verdict held worker s

-- what a step may make of a world. One that cannot be taken changes nothing; which of those that publish or judge are refused is open
abbrev pub After : Step → State → State → Type 0
After (Stage event) s t = (HasRoomFor s.position event × (t ≡ moved (at s.position.published (s.position.staged ++ event ∷ [])) s))
    ⊎ ((HasRoomFor s.position event → ⊥) × (t ≡ s))
After Publish s t = (position : Position) × (Publishes s.position position ⊎ (position ≡ s.position)) × (t ≡ moved position s)
After (Enter worker request) s t = t ≡ after_enter (held_by worker s) worker request s
After (Judge worker) s t = (t ≡ after_judge (held_by worker s) worker s) ⊎ (t ≡ s)
After (Record worker) s t = t ≡ after_record (held_by worker s) worker s
After (GiveUp worker) s t = t ≡ holding worker None s

-- steps, one after the other, lead from one world to another
abbrev pub Runs : List Step → State → State → Type 0
Runs [] s t = t ≡ s
Runs (step ∷ steps) s t = (m : State) × After step s m × Runs steps m t

-- the revision at which a worker enters by a step, if it does
abbrev pub enters_where : Bool → Option Holding → State → List ℕ
enters_where true None s = length s.position.published ∷ []
enters_where _ _ s = []

abbrev pub enters_by : ℕ → Step → State → List ℕ
enters_by worker (Enter other request) s = enters_where (other == worker) (held_by other s) s
enters_by worker _ s = []

-- the revisions at which a worker enters in a run
abbrev pub revisions : ℕ → (steps : List Step) (s t : State) → Runs steps s t → List ℕ
revisions worker [] s t run = []
revisions worker (step ∷ steps) s t run = enters_by worker step s ++ revisions worker steps run.0 t run.2

-- each number is no less than those before it
abbrev pub NeverBack : List ℕ → Type 0
NeverBack [] = ⊤
NeverBack (n ∷ ns) = All (λ m. n ≤ m) ns × NeverBack ns

-- these steps lead from the opening world to this one; its history is right in what is published; and the revisions that a
-- worker enters at never go back
pub record Plays (steps : List Step) (world : State) : Type 0 where
  pub run : Runs steps opening world
  pub right : AreRightIn world.position.published world.history
  pub forward : (worker : ℕ) → NeverBack (revisions worker steps opening world run)
