-- What places at a publication know.
use Rattle.std.specs.Prelude.{◌≡◌, ℕ, List, [], ◌∷◌, Option, Some, None, refl}
use Rattle.std.specs.List.{All}
use Rattle.std.specs.Coded.{Coded, code_by, coded×, coded_list}
use mathlib.Core.Option.{some}
use lib.ListN.{get_elem?}
use Rattle.logbook.specs.Pages.{Book, book_coded}
use Rattle.vap_watch.specs.Begins.{StartsWith}
use Rattle.vap_watch.specs.Shown.{Shown, shows}

-- the board of those that have seen nothing
abbrev nowhere : Book
nowhere = record { number = 0; log_name = 0; cells_name = 0 }

-- the first, if there is one
abbrev pub first_of : {X : Type 0} → List (Shown X) → Shown X
first_of [] = shows nowhere []
first_of (x ∷ xs) = x

-- what is shown, if something is
abbrev pub shown_in : {X : Type 0} → Option (Shown X) → Shown X
shown_in None = shows nowhere []
shown_in (Some shown) = shown

-- the same board, with a list that begins with the earlier one
pub record Follows {X : Type 0} (later earlier : Shown X) : Type 0 where
  pub board : later.board ≡ earlier.board
  pub more : StartsWith later.list earlier.list

-- what is shown follows each of these
abbrev pub FollowsAll : {X : Type 0} → Shown X → List (Shown X) → Type 0
FollowsAll shown seen = All (λ earlier. Follows shown earlier) seen

-- what is published follows all that a place has seen
abbrev pub Keeps : {X : Type 0} → Shown X → List (List (Shown X)) → Type 0
Keeps {X = X} shown views = (seat : ℕ) (seen : List (Shown X)) → get_elem? views seat ≡ some seen → FollowsAll shown seen

-- a place that publishes or enters has seen what is then published, which follows all that it had seen
abbrev pub Sees : {X : Type 0} → List (Shown X) → Shown X → Shown X → List (Shown X) → Type 0
Sees seen before after then = FollowsAll after seen × (then ≡ after ∷ [])

-- of which board a reader is, the list that it has seen last and the longest that it was told of
pub record Known (X : Type 0) : Type 0 where
  pub board : Book
  pub seen : List X
  pub told : List X

-- a reader of this board, of what it has seen and was told
abbrev pub knows : {X : Type 0} → Book → List X → List X → Known X
knows board seen told = record { board = board; seen = seen; told = told }

-- how this is stored
abbrev pub known_code : {X : Type 0} → Coded X → Coded (Known X)
known_code c = code_by (Book × (_ × _)) (coded× book_coded (coded× (coded_list c) (coded_list c))) (λ k. (k.board, (k.seen, k.told)))
    (λ p. knows p.0 p.1.0 p.1.1) (λ _. refl)

-- the board and what was told are the same, and the list that is seen now begins with the one that was seen
pub record SeesMore {X : Type 0} (before after : Known X) : Type 0 where
  pub board : after.board ≡ before.board
  pub told : after.told ≡ before.told
  pub seen : StartsWith after.seen before.seen

-- a reader has seen what is published, which begins with all that it had seen or was told of
pub record Looks {X : Type 0} (before after : Known X) : Type 0 where
  pub more : SeesMore before after
  pub told : StartsWith after.seen before.told

-- a reader was told of a list: it knows of one that begins with this and with what it was told of before, and has seen what it had
pub record Learns {X : Type 0} (before after : Known X) (list : List X) : Type 0 where
  pub board : after.board ≡ before.board
  pub seen : after.seen ≡ before.seen
  pub told : StartsWith after.told list
  pub kept : StartsWith after.told before.told
