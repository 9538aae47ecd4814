-- What notes and the writer's end of a board are seen as.
use Rattle.std.specs.Prelude.{List, refl}
use Rattle.std.specs.Coded.{Coded, code_by, coded×, coded_list}
use Rattle.logbook.specs.Pages.{Book, book_coded}

-- a list, and the board that it was put on
pub record Shown (X : Type 0) : Type 0 where
  pub board : Book
  pub list : List X

-- what is seen of a board on which this list is the last
abbrev pub shows : {X : Type 0} → Book → List X → Shown X
shows board list = record { board = board; list = list }

-- the board, what is published on it, and what is to be next
pub record Drafted (X : Type 0) : Type 0 where
  pub board : Book
  pub old : List X
  pub next : List X

-- what is seen of the writer's end, between two publications
abbrev pub drafts : {X : Type 0} → Book → List X → List X → Drafted X
drafts board old next = record { board = board; old = old; next = next }

-- how these are stored (the first for what is seen of notes, the second for the writer's end)
abbrev pub shown_code : {X : Type 0} → Coded X → Coded (Shown X)
shown_code c = code_by (Book × _) (coded× book_coded (coded_list c)) (λ s. (s.board, s.list)) (λ p. shows p.0 p.1) (λ _. refl)

-- the code of a list that is shown while its next one is made
abbrev pub drafted_code : {X : Type 0} → Coded X → Coded (Drafted X)
drafted_code c = code_by (Book × (_ × _)) (coded× book_coded (coded× (coded_list c) (coded_list c))) (λ d. (d.board, (d.old, d.next)))
    (λ p. drafts p.0 p.1.0 p.1.1) (λ _. refl)
