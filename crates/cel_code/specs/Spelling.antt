-- How numbers, texts, lists, types and constants are spelt, and which of them have a spelling.
use Rattle.std.specs.Prelude.{ℕ, ℤ, pos, negsuc, zero, suc, ◌^◌, Bool, true, false, not, ◌&&◌, nat_lt, List, [], ◌∷◌, ◌++◌, length}
use Rattle.std.specs.Prelude.{Option, Some, None, if◌then◌else◌}
use Rattle.std.specs.List.{flat_map}
use Rattle.std.specs.Int.{w32, w64, to_be_bytes, cast_unsigned}
use Rattle.std.specs.Str.{is_utf8}
use Rattle.std.specs.Ordering.{nat_cmp, is_lt}
use Rattle.std.specs.Cmp.Lexicographic.{slice_cmp}
use Rattle.base_containers.specs.declared.text.Keyed.{Keyed}
use Rattle.cel_value.specs.declared.cel_type.Field.{Field}
use Rattle.cel_value.specs.declared.cel_type.CelType.{CelType, fold-CelType}
use Rattle.cel_value.specs.declared.cel_type.CelType.TheOpen.{CelType-F}
use Rattle.cel_value.specs.declared.value.Value.{Value, out-Value}
use Rattle.cel_value.specs.declared.value.Value.TheOpen.{Value-F}

-- four bytes, the highest first
abbrev pub be32 : ℕ → List ℕ
be32 n = to_be_bytes w32 n

-- eight bytes, the highest first
abbrev pub be64 : ℕ → List ℕ
be64 n = to_be_bytes w64 n

-- a number has a spelling below 2 ^ 32
abbrev pub is_short : ℕ → Bool
is_short n = nat_lt n (2 ^ 32)

-- one byte
abbrev pub truth : Bool → List ℕ
truth b = (if b then 1 else 0) ∷ []

-- the number of bytes, and these
abbrev pub text : List ℕ → List ℕ
text bytes = be32 (length bytes) ++ bytes

-- a text has a spelling if its length has, and if its bytes are UTF-8
abbrev pub is_text : List ℕ → Bool
is_text bytes = is_short (length bytes) && is_utf8 bytes

-- the number of items, and these
abbrev pub listed : {A : Type 0} → (A → List ℕ) → List A → List ℕ
listed one items = be32 (length items) ++ flat_map one items

-- each item passes the test after the one before it
abbrev pub each_after : {A : Type 0} → (Option A → A → Bool) → Option A → List A → Bool
each_after fits last [] = true
each_after fits last (x ∷ xs) = fits last x && each_after fits (Some x) xs

-- a list has a spelling if its length has one, and each item has one after the one before it
abbrev pub is_list : {A : Type 0} → (Option A → A → Bool) → List A → Bool
is_list fits items = is_short (length items) && each_after fits None items

-- a field's name comes after the name of the one before it
abbrev pub name_after : {V : Type 0} → Option (Keyed V) → List ℕ → Bool
name_after None name = true
name_after (Some f) name = is_lt (slice_cmp nat_cmp f.key name)

-- name, byte, type
abbrev pub field : Keyed (Field (List ℕ)) → List ℕ
field f = text f.key ++ (truth f.value.required ++ f.value.cel_type)

-- the tag, and what the type holds; types inside are given as they are spelt
abbrev pub type_step : CelType-F (List ℕ) → List ℕ
type_step CelType-F.Never = 0 ∷ []
type_step CelType-F.Null = 1 ∷ []
type_step CelType-F.Bool = 2 ∷ []
type_step CelType-F.Int = 3 ∷ []
type_step CelType-F.Uint = 4 ∷ []
type_step (CelType-F.Text max) = 5 ∷ be32 max
type_step (CelType-F.List max plain item) = 6 ∷ (be32 max ++ (truth plain ++ item))
type_step (CelType-F.Map max key_max item) = 7 ∷ (be32 max ++ (be32 key_max ++ item))
type_step (CelType-F.Object fields) = 8 ∷ listed field fields
type_step (CelType-F.Nullable item) = 9 ∷ item
type_step CelType-F.Opaque = 10 ∷ []
type_step CelType-F.Timestamp = 11 ∷ []
type_step CelType-F.Duration = 12 ∷ []

-- a type, level by level
abbrev pub type_spelling : CelType → List ℕ
type_spelling = fold-CelType (List ℕ) type_step

-- whether a type has a spelling, by how many levels deep it may be and by whether it is in a Nullable
abbrev pub Spellable : Type 0
Spellable = ℕ → Bool → Bool

-- a field has a spelling after the last one if its name and its type have one, and it comes after it
abbrev pub is_field : {V : Type 0} → (V → Bool) → Option (Keyed (Field V)) → Keyed (Field V) → Bool
is_field inside last f = (is_text f.key && name_after last f.key) && inside f.value.cel_type

-- one level, given that so many may be inside
abbrev pub level_is_spellable : CelType-F Spellable → ℕ → Bool → Bool
level_is_spellable CelType-F.Never depth in_nullable = not in_nullable
level_is_spellable CelType-F.Null depth in_nullable = not in_nullable
level_is_spellable CelType-F.Bool depth in_nullable = true
level_is_spellable CelType-F.Int depth in_nullable = true
level_is_spellable CelType-F.Uint depth in_nullable = true
level_is_spellable (CelType-F.Text max) depth in_nullable = is_short max
level_is_spellable (CelType-F.List max plain item) depth in_nullable = is_short max && item depth false
level_is_spellable (CelType-F.Map max key_max item) depth in_nullable = is_short max && (is_short key_max && item depth false)
level_is_spellable (CelType-F.Object fields) depth in_nullable = is_list (is_field (λ inside. inside depth false)) fields
level_is_spellable (CelType-F.Nullable item) depth in_nullable = not in_nullable && item depth true
level_is_spellable CelType-F.Opaque depth in_nullable = true
level_is_spellable CelType-F.Timestamp depth in_nullable = true
level_is_spellable CelType-F.Duration depth in_nullable = true

-- no level, if none may be
abbrev pub spellable_step : CelType-F Spellable → Spellable
spellable_step t zero in_nullable = false
spellable_step t (suc depth) in_nullable = level_is_spellable t depth in_nullable

-- whether a type has a spelling, given that it may have so many levels
abbrev pub is_spellable : CelType → Spellable
is_spellable = fold-CelType Spellable spellable_step

-- 64 bits, two's complement
abbrev pub signed : ℤ → List ℕ
signed n = be64 (cast_unsigned w64 n)

-- a number of 64 bits
abbrev pub is_signed : ℤ → Bool
is_signed (pos n) = nat_lt n (2 ^ 63)
is_signed (negsuc n) = nat_lt n (2 ^ 63)

-- the tag, and what the constant holds; other values are none
abbrev pub constant_at : Value-F Value → List ℕ
constant_at Value-F.Null = 0 ∷ []
constant_at (Value-F.Bool b) = 1 ∷ truth b
constant_at (Value-F.Int n) = 2 ∷ signed n
constant_at (Value-F.Uint n) = 3 ∷ be64 n
constant_at (Value-F.Text bytes) = 4 ∷ text bytes
constant_at _ = []

-- a constant, by what it holds
abbrev pub constant : Value → List ℕ
constant v = constant_at (out-Value v)

-- null, a truth value, a number of 64 bits or a text
abbrev pub is_constant_at : Value-F Value → Bool
is_constant_at Value-F.Null = true
is_constant_at (Value-F.Bool b) = true
is_constant_at (Value-F.Int n) = is_signed n
is_constant_at (Value-F.Uint n) = nat_lt n (2 ^ 64)
is_constant_at (Value-F.Text bytes) = is_text bytes
is_constant_at _ = false

-- a value that has a spelling as a constant
abbrev pub is_constant : Value → Bool
is_constant v = is_constant_at (out-Value v)
