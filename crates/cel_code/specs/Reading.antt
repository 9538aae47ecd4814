-- Reading from the front, with the first fault that is met.
use Rattle.std.specs.Prelude.{ℕ, zero, suc, Bool, true, false, List, [], ◌∷◌, length, take, drop, slice_get}
use Rattle.std.specs.Prelude.{Option, Some, None, Result, Ok, Err, nat_lt, if◌then◌else◌}
use Rattle.std.specs.Int.{Width, w32, w64, byte_len, from_be_bytes, cast_signed}
use Rattle.std.specs.Str.{is_utf8}
use Rattle.base_containers.specs.declared.text.Keyed.{Keyed}
use Rattle.cel_value.specs.declared.cel_type.Field.{Field}
use Rattle.cel_value.specs.declared.cel_type.CelType as type
use Rattle.cel_value.specs.declared.cel_type.CelType.{CelType}
use Rattle.cel_value.specs.declared.value.Value as value
use Rattle.cel_value.specs.declared.value.Value.{Value}
use Rattle.cel_code.specs.declared.fault.ReadFault.{ReadFault}
use Rattle.cel_code.specs.declared.fault.ReadFault.TheVariants.{Truncated, BadTable}
use Rattle.cel_code.specs.Spelling.{name_after}

-- what is at the front, and the bytes after it
abbrev pub Reader : Type 0 → Type 0
Reader A = List ℕ → Result (A × List ℕ) ReadFault

-- what was read, and then something of it
infixl 10 ◌>>=◌
abbrev pub ◌>>=◌ : {A B : Type 0} → Result A ReadFault → (A → Result B ReadFault) → Result B ReadFault
(Ok x) >>= f = f x
(Err e) >>= f = Err e

-- the one after all others
abbrev pub last_of : {A : Type 0} → List A → Option A
last_of [] = None
last_of (x ∷ []) = Some x
last_of (x ∷ y ∷ xs) = last_of (y ∷ xs)

-- one, and then the other
abbrev pub both : {A B : Type 0} → Reader A → Reader B → Reader (A × B)
both first second bytes = first bytes >>= λ x. second x.1 >>= λ y. Ok ((x.0, y.0), y.1)

-- what is made of what is read
abbrev pub made : {A B : Type 0} → (A → B) → Reader A → Reader B
made make read bytes = read bytes >>= λ x. Ok (make x.0, x.1)

-- what is read, if it passes a test
abbrev pub tested : {A : Type 0} → (A → Bool) → Reader A → Reader A
tested test read bytes = read bytes >>= λ x. if test x.0 then Ok x else Err BadTable

-- this, of no bytes
abbrev pub nothing : {A : Type 0} → A → Reader A
nothing x bytes = Ok (x, bytes)

-- none
abbrev pub refused : {A : Type 0} → Reader A
refused bytes = Err BadTable

-- the reader of a number, if there is one
abbrev pub read_by : {A : Type 0} → ReadFault → Option (Reader A) → Reader A
read_by fault None bytes = Err fault
read_by fault (Some read) bytes = read bytes

-- a tag, and what the reader of its number reads after it
abbrev pub tagged : {A : Type 0} → ReadFault → List (Reader A) → Reader A
tagged fault readers [] = Err Truncated
tagged fault readers (tag ∷ bytes) = read_by fault (slice_get readers tag) bytes

-- a number of so many bits
abbrev pub number_at : Width → Reader ℕ
number_at w bytes =
    if nat_lt (length bytes) (byte_len w) then Err Truncated
    else Ok (from_be_bytes w (take (byte_len w) bytes), drop (byte_len w) bytes)

-- so many bytes
abbrev pub so_many : ℕ → Reader (List ℕ)
so_many n bytes = if nat_lt (length bytes) n then Err Truncated else Ok (take n bytes, drop n bytes)

-- a text: its count of bytes, and these
unfoldable pub text_at : Reader (List ℕ)
text_at = tested is_utf8 (λ bytes. number_at w32 bytes >>= λ n. so_many n.0 n.1)

-- one byte, which is 0 or 1
unfoldable pub truth_at : Reader Bool
truth_at [] = Err Truncated
truth_at (zero ∷ bytes) = Ok (false, bytes)
truth_at (suc zero ∷ bytes) = Ok (true, bytes)
truth_at (suc (suc b) ∷ bytes) = Err BadTable

-- so many items, each read with the one before it known
unfoldable pub items_at : {A : Type 0} → (Option A → Reader A) → Option A → ℕ → Reader (List A)
items_at read last zero bytes = Ok ([], bytes)
items_at read last (suc n) bytes = read last bytes >>= λ x. items_at read (Some x.0) n x.1 >>= λ xs. Ok (x.0 ∷ xs.0, xs.1)

-- a list: its count, and so many items
abbrev pub list_at : {A : Type 0} → (Option A → Reader A) → Reader (List A)
list_at read bytes = number_at w32 bytes >>= λ n. items_at read None n.0 n.1

-- a field of its name, its byte and its type
abbrev pub field_from : (List ℕ × (Bool × CelType)) → Keyed (Field CelType)
field_from p = record { key = p.0; value = record { required = p.1.0; cel_type = p.1.1 } }

-- name, byte, type
abbrev pub field_at : Reader CelType → Option (Keyed (Field CelType)) → Reader (Keyed (Field CelType))
field_at inside last = made field_from (both (tested (name_after last) text_at) (both truth_at inside))

-- the readers of what is after each tag of a type, by their numbers
abbrev pub type_readers : (Bool → Reader CelType) → Bool → List (Reader CelType)
type_readers inside in_nullable =
    (if in_nullable then refused else nothing type.Never)
    ∷ (if in_nullable then refused else nothing type.Null)
    ∷ nothing type.Bool
    ∷ nothing type.Int
    ∷ nothing type.Uint
    ∷ made (λ max. type.Text max) (number_at w32)
    ∷ made (λ p. type.List p.0 p.1.0 p.1.1) (both (number_at w32) (both truth_at (inside false)))
    ∷ made (λ p. type.Map p.0 p.1.0 p.1.1) (both (number_at w32) (both (number_at w32) (inside false)))
    ∷ made (λ fields. type.Object fields) (list_at (field_at (inside false)))
    ∷ (if in_nullable then refused else made (λ item. type.Nullable item) (inside true))
    ∷ nothing type.Opaque
    ∷ nothing type.Timestamp
    ∷ nothing type.Duration
    ∷ []

-- one level, with the reader of the types inside
abbrev pub level_at : (Bool → Reader CelType) → Bool → Reader CelType
level_at inside in_nullable bytes = tagged BadTable (type_readers inside in_nullable) bytes

-- a type of at most so many levels, by whether it is in a Nullable
unfoldable pub type_at : ℕ → Bool → Reader CelType
type_at zero in_nullable bytes = Err BadTable
type_at (suc depth) in_nullable bytes = level_at (type_at depth) in_nullable bytes

-- the readers of what is after each tag of a constant, by their numbers
abbrev pub constant_readers : List (Reader Value)
constant_readers =
    nothing value.Null
    ∷ made (λ b. value.Bool b) truth_at
    ∷ made (λ n. value.Int (cast_signed w64 n)) (number_at w64)
    ∷ made (λ n. value.Uint n) (number_at w64)
    ∷ made (λ t. value.Text t) text_at
    ∷ []

-- a tag, and what it holds
unfoldable pub constant_at : Reader Value
constant_at bytes = tagged BadTable constant_readers bytes
