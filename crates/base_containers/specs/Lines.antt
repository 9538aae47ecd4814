-- What a line is, and what is left of a reader after it.
use Rattle.std.specs.Prelude.{◌≡◌, ◌≢◌, ◌<◌, ◌≤◌, ◌⊎◌, ◌+◌, ◌*◌, ⊤, ℕ, List, [], ◌∷◌, ◌++◌, length, Option, Some, None, if◌then◌else◌, ◌==◌}
use Rattle.std.specs.List.{All}
use Rattle.std.specs.Io.KnownBytes.{Consumes, IsAtEnd, prepend_known}
use Rattle.base_containers.specs.Counted.{failures_of, inner_of, one_more}
use Rattle.base_containers.specs.declared.counted.Counted.{Counted}
use Rattle.base_containers.specs.declared.lines.Ending.{Ending}
use Rattle.base_containers.specs.declared.lines.Ending.TheVariants.{Feed, End, TooLong}

-- the most bytes of a line, without its line feed
abbrev pub longest_line : ℕ
longest_line = 1_048_576

-- the most reads of one reader
abbrev pub most_reads : ℕ
most_reads = 1_099_511_627_776

-- what is read and not yet handed on, and how many reads may follow
pub record Pending : Type 0 where
  pub bytes : List ℕ
  pub reads : ℕ

-- the bytes that are still to be handed on, if they are known
abbrev pub unread : {R : Type 0} → (R → Option (List ℕ)) → Counted R → Pending → Option (List ℕ)
unread remaining c pending = prepend_known pending.bytes (remaining (inner_of c))

-- known bytes begin with these
abbrev pub Begins : Option (List ℕ) → List ℕ → Type 0
Begins None front = ⊤
Begins (Some bytes) front = (rest : List ℕ) × (bytes ≡ front ++ rest)

-- a line of these bytes goes on with bytes that are no line feed, past the limit
pub record GoesOn (left : Option (List ℕ)) (line : List ℕ) : Type 0 where
  pub more : List ℕ
  pub ahead : Begins left more
  pub plain : All (λ x. x ≢ 10) more
  pub long : longest_line < length line + length more

-- the bytes of a line with what ended it, and what is left after it
abbrev pub IsLine : Option (List ℕ) → Option (List ℕ) → List ℕ → Ending → Type 0
IsLine old new line Feed = Consumes old new (line ++ 10 ∷ [])
IsLine old new line End = Consumes old new line × IsAtEnd new
IsLine old new line TooLong = Consumes old new line × GoesOn new line

-- the most bytes that may still come, if a read gives at most so many
abbrev pub room : Pending → ℕ
room pending = pending.reads * 262144 + length pending.bytes

-- at most so many of the reads gave no byte. Each other read gave at least one, and the known bytes are fewer by those
abbrev pub AllGive : ℕ → Option (List ℕ) → Option (List ℕ) → Pending → Pending → Type 0
AllGive empty None left old new = ⊤
AllGive empty (Some bytes) None old new = ⊥
AllGive empty (Some bytes) (Some left) old new = length left + old.reads ≤ length bytes + new.reads + empty

-- how many reads give no byte if a line ends so: the one that meets the end
abbrev pub empty_reads : Ending → ℕ
empty_reads End = 1
empty_reads _ = 0

-- no read is left: none failed, and each gave a byte at least
pub record IsSpent {R : Type 0} (remaining : R → Option (List ℕ)) (input left : Counted R) (old new : Pending) : Type 0 where
  pub none : new.reads ≡ 0
  pub counted : failures_of left ≡ failures_of input
  pub given : AllGive 0 (remaining (inner_of input)) (remaining (inner_of left)) old new

-- a reader reads no more: a read failed, or none is left
abbrev pub IsCutOff : {R : Type 0} → (R → Option (List ℕ)) → Counted R → Counted R → Pending → Pending → Type 0
IsCutOff remaining input left old new = (failures_of left ≡ one_more (failures_of input)) ⊎ IsSpent remaining input left old new

-- an input gave at least so many bytes
abbrev pub Gives : ℕ → Option (List ℕ) → Option (List ℕ) → Type 0
Gives count None left = ⊤
Gives count (Some bytes) None = ⊥
Gives count (Some bytes) (Some left) = count + length left ≤ length bytes

-- no more of an input is read: a read failed; or none did, and the input gave at least one byte for each read that may be made
abbrev pub StopsReading : {R : Type 0} → (R → Option (List ℕ)) → Counted R → Counted R → Type 0
StopsReading remaining before after =
    (failures_of after ≡ one_more (failures_of before))
    ⊎ ((failures_of after ≡ failures_of before) × Gives most_reads (remaining (inner_of before)) (remaining (inner_of after)))

-- the line that the end of a text ends, if one is begun
abbrev pub last_line : List ℕ → List (List ℕ)
last_line [] = []
last_line (x ∷ xs) = (x ∷ xs) ∷ []

-- the lines of a text after the bytes of one that is begun
abbrev pub lines_behind : List ℕ → List ℕ → List (List ℕ)
lines_behind line [] = last_line line
lines_behind line (x ∷ xs) = if x == 10 then line ∷ lines_behind [] xs else lines_behind (line ++ x ∷ []) xs

-- the lines of a text: a line ends at a line feed or at the end of the text
abbrev pub lines_of : List ℕ → List (List ℕ)
lines_of text = lines_behind [] text

-- the first line of a text is longer than a line may be
pub record BeginsTooLong (text : List ℕ) : Type 0 where
  pub first : List ℕ
  pub others : List (List ℕ)
  pub lines : lines_of text ≡ first ∷ others
  pub long : longest_line < length first

-- what a line that ended so is of the lines of a text, if this is left of the text
abbrev pub IsFirstOf : List ℕ → List ℕ → List ℕ → Ending → Type 0
IsFirstOf text left line Feed = lines_of text ≡ line ∷ lines_of left
IsFirstOf text left line End = lines_of text ≡ last_line line
IsFirstOf text left line TooLong = BeginsTooLong text

-- the same, if the text is known
abbrev pub IsFirst : Option (List ℕ) → Option (List ℕ) → List ℕ → Ending → Type 0
IsFirst None left line ending = ⊤
IsFirst (Some text) None line ending = ⊥
IsFirst (Some text) (Some left) line ending = IsFirstOf text left line ending
