-- The rule of a board, and what its steps say. A board has each list before it is published. After it comes the list that is
-- published after that, which is told.
use Rattle.std.specs.Prelude.{ℕ, ◌≡◌, ◌+◌, ◌*◌, ◌<◌, ◌==◌, ◌⊎◌, Bool, true, false, List, [], ◌∷◌, ◌++◌, length, slice_index_or, MatchBool}
use Rattle.logbook.specs.Pages.{Cell, Step, View, Book, Named, cell, may_make}
use Rattle.vap_watch.specs.declared.entry.Entry.{Entry}
use Rattle.vap_watch.specs.Begins.{StartsWith}

-- a list that was put on the board, and whether it is told
abbrev pub entry : {X : Type 0} → List X → Bool → Entry X
entry list told = record { list = list; is_told = told }

-- the entry of this number
abbrev pub nth : {X : Type 0} → List (Entry X) → ℕ → Entry X
nth entries i = slice_index_or entries i (entry [] false)

-- a list begins with each told one
abbrev pub Under : {X : Type 0} → List (Entry X) → List X → Type 0
Under entries list = (i : ℕ) → i < length entries → (nth entries i).is_told ≡ true → StartsWith list (nth entries i).list

-- each list begins with each one that was told before it
abbrev pub Chain : {X : Type 0} → List (Entry X) → Type 0
Chain entries = (i j : ℕ) → i < j → j < length entries → (nth entries i).is_told ≡ true
    → StartsWith (nth entries j).list (nth entries i).list

-- The first word is the number of entries. A word that is away is the last, and the last entry waits for the one after it
pub record IsKept {X : Type 0} (cells : List Cell) (entries : List (Entry X)) : Type 0 where
  pub some : 0 < length cells
  pub head : cell cells 0 ≡ (length entries, true)
  pub away : (k : ℕ) → k < length cells → (cell cells k).1 ≡ false → (k + 1 ≡ length cells) × (length entries + 1 ≡ 2 * k)
  pub count : (length entries + 2 ≡ 2 * length cells) ⊎ (length entries + 3 ≡ 2 * length cells)
  pub chain : Chain entries

-- the word that is the number of a board's entries
abbrev pub head_of : Book → Named
head_of book = record { tracked = true; key = 0; book = book }

-- the entry was put last, and there is a pen for the one after it; or nothing is said
abbrev pub Attempts : {X : Type 0} → Step (Entry X) → View (Entry X) ℕ → ℕ → View (Entry X) ℕ → Type 0
Attempts s v found w = MatchBool (found == s.old)
    ((w.0 ≡ v.0 ++ s.ask ∷ []) × (w.1.0.right ≡ may_make) × (2 * w.1.0.key ≡ length w.0 + 1)) (Unit {0})

-- the entry was put last
abbrev pub Concludes : {X : Type 0} → Step (Entry X) → View (Entry X) ℕ → ℕ → View (Entry X) ℕ → Type 0
Concludes s v found w = w.0 ≡ v.0 ++ s.ask ∷ []

-- the list of this number is told by the entry after it
pub record IsTold {X : Type 0} (entries : List (Entry X)) (at : ℕ) : Type 0 where
  pub inside : at + 1 < length entries
  pub told : (nth entries (at + 1)).is_told ≡ true
  pub same : (nth entries (at + 1)).list ≡ (nth entries at).list
