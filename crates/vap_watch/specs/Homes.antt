-- The rule of the places that wait for readers, and what its steps say.
use Rattle.std.specs.Prelude.{◌≡◌, ◌≢◌, ℕ, List, [], ◌∷◌, slice_index, Option, Some, None}
use mathlib.Core.Option.{some}
use lib.ListN.{get_elem?}
use Rattle.atomic_table.specs.Table.{State, Me, Step}
use Rattle.vap_watch.specs.Shown.{Shown}

-- if a word is 1, a place of this board is at home
pub record Waits {X : Type 0} (key : Shown X) (s : State (Option (Shown X)) (Shown X)) : Type 0 where
  pub home : (i : ℕ) → slice_index s.words i ≡ 1 → (e : Shown X) × (get_elem? s.homes i ≡ some (some (Some e))) × (e.board ≡ key.board)
  pub views : (j : ℕ) (v : Shown X) → get_elem? s.views j ≡ some v → v ≡ key

-- what a seat has: its view, and the places that it took
abbrev pub Sat : Type 0 → Type 0
Sat X = Me (Option (Shown X)) (Shown X)

abbrev pub sits : {X : Type 0} → Step (Option (Shown X)) → Sat X → ℕ → Sat X → Type 0
sits st m n m' = m' ≡ m

-- if it found 1, it has taken the place
abbrev pub claims : {X : Type 0} → Step (Option (Shown X)) → Sat X → ℕ → Sat X → Type 0
claims {X = X} st m n m' = (n ≡ 1 → (e : Shown X) × (e.board ≡ m.0.board) × (m' ≡ (m.0, (st.word, Some e) ∷ m.1))) × (n ≢ 1 → m' ≡ m)
