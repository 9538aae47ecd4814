-- The lines of a text, one line further.
use Rattle.std.proofs.Common.{◌≡◌, ◌≢◌, ◌≤◌, ◌<◌, ◌+◌, ℕ, List, [], ◌∷◌, ◌++◌, Bool, true, false, All, Option, Some, None}
use Rattle.std.proofs.Common.{append_assoc, append-nil, length, length-append, suc, arith, rules, refl, sym, ap, ◌∙◌}
use Rattle.std.specs.Prelude.{◌==◌, if◌then◌else◌}
use Rattle.std.proofs.lemmas.List.Elements.{All-append}
use Rattle.base_containers.specs.Lines.{BeginsTooLong, GoesOn, IsFirst, IsLine, lines_behind, lines_of, last_line}
use Rattle.base_containers.specs.declared.lines.Ending.{Ending}
use Rattle.base_containers.specs.declared.lines.Ending.TheVariants.{Feed, End, TooLong}

-- a byte that is no line feed goes into the line that is begun, and so do those after it
into_at : (line : List ℕ) (x : ℕ) (part rest : List ℕ) → x ≢ 10
    → lines_behind (line ++ x ∷ []) (part ++ rest) ≡ lines_behind ((line ++ x ∷ []) ++ part) rest → (b : Bool) → (x == 10) ≡ b
    → (if b then line ∷ lines_behind [] (part ++ rest) else lines_behind (line ++ x ∷ []) (part ++ rest))
    ≡ lines_behind (line ++ x ∷ part) rest
into_at line x part rest other later true is =
    let same : x ≡ 10 = search rules in
    absurd (other same)
into_at line x part rest other later false is = later ∙ ap (λ (l : List ℕ). lines_behind l rest) (append_assoc line (x ∷ []) part)

-- bytes that are no line feeds go into the line that is begun
pub into_line : (line part rest : List ℕ) → All (λ x. x ≢ 10) part → lines_behind line (part ++ rest) ≡ lines_behind (line ++ part) rest
into_line line [] rest plain = ap (λ (l : List ℕ). lines_behind l rest) (sym (append-nil line))
into_line line (x ∷ part) rest plain =
    into_at line x part rest (plain 0 0 (omega arith))
    (into_line (line ++ x ∷ []) part rest (λ k d h. plain (suc k) d (omega (arith, h)))) (x == 10) refl

-- a line that ends at a line feed is the first line
pub first_line : (line rest : List ℕ) → All (λ x. x ≢ 10) line → lines_of (line ++ 10 ∷ rest) ≡ line ∷ lines_of rest
first_line line rest plain = into_line [] line (10 ∷ rest) plain

-- a text without a line feed is one line, or none if it is empty
pub only_line : (line : List ℕ) → All (λ x. x ≢ 10) line → lines_of line ≡ last_line line
only_line line plain = ap (λ (l : List ℕ). lines_of l) (sym (append-nil line)) ∙ into_line [] line [] plain

-- a line that is begun is part of the first line
record Grows (line : List ℕ) (lines : List (List ℕ)) : Type 0 where
  pub first : List ℕ
  pub others : List (List ℕ)
  pub split : lines ≡ first ∷ others
  pub more : length line ≤ length first

grows_at : (line : List ℕ) (x : ℕ) (rest : List ℕ) → Grows (line ++ x ∷ []) (lines_behind (line ++ x ∷ []) rest)
    → (b : Bool) → Grows line (if b then line ∷ lines_behind [] rest else lines_behind (line ++ x ∷ []) rest)
grows_at line x rest later true = record { first = line; others = lines_behind [] rest; split = refl; more = omega arith }
grows_at line x rest later false =
    let longer : length (line ++ x ∷ []) ≡ length line + 1 = length-append line (x ∷ []) in
    record { first = later.first; others = later.others; split = later.split; more = omega (arith, later.more) }

grows : (line rest : List ℕ) → 0 < length line → Grows line (lines_behind line rest)
grows [] [] some = absurd (omega (arith, some))
grows (y ∷ line) [] some = record { first = y ∷ line; others = []; split = refl; more = omega arith }
grows line (x ∷ rest) some =
    let longer : length (line ++ x ∷ []) ≡ length line + 1 = length-append line (x ∷ []) in
    grows_at line x rest (grows (line ++ x ∷ []) rest (omega arith)) (x == 10)

-- a text that begins with too many bytes that are no line feeds has a first line that is too long
pub too_long : (line left : List ℕ) → All (λ x. x ≢ 10) line → GoesOn (Some left) line → BeginsTooLong (line ++ left)
too_long line left plain on =
    let (rest, is) = on.ahead in
    let joined : lines_of (line ++ left) ≡ lines_behind (line ++ on.more) rest =
    ap (λ (l : List ℕ). lines_of (line ++ l)) is ∙ ap (λ (l : List ℕ). lines_of l) (sym (append_assoc line on.more rest))
    ∙ into_line [] (line ++ on.more) rest (All-append (λ x. x ≢ 10) line on.more plain on.plain) in
    let long : length (line ++ on.more) ≡ length line + length on.more = length-append line on.more in
    let grown : Grows (line ++ on.more) (lines_behind (line ++ on.more) rest) = grows (line ++ on.more) rest (omega (arith, on.long)) in
    record { first = grown.first; others = grown.others; lines = joined ∙ grown.split; long = omega (arith, on.long, grown.more) }

-- a line is the first of the lines of what was unread
pub is_first : (ending : Ending) (text left : Option (List ℕ)) (line : List ℕ) → All (λ x. x ≢ 10) line
    → IsLine text left line ending → IsFirst text left line ending
is_first ending None left line plain is = tt
is_first Feed (Some text) None line plain is = absurd is
is_first Feed (Some text) (Some left) line plain is =
    ap (λ (l : List ℕ). lines_of l) (is ∙ append_assoc line (10 ∷ []) left) ∙ first_line line left plain
is_first End (Some text) None line plain (taken, done) = absurd taken
is_first End (Some text) (Some left) line plain (taken, done) =
    ap (λ (l : List ℕ). lines_of l) (taken ∙ ap (λ (l : List ℕ). line ++ l) done ∙ append-nil line) ∙ only_line line plain
is_first TooLong (Some text) None line plain (taken, on) = absurd taken
is_first TooLong (Some text) (Some left) line plain (taken, on) = rw taken (too_long line left plain on)
