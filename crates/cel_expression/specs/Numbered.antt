-- Constants that are found by what distinguishes them: a key, or a text.
use Rattle.std.specs.Prelude.{◌≡◌, ◌≢◌, ℕ, List, slice_get, Option, Some, None}
use Rattle.std.specs.declared.cmp.Ordering.{Ordering}
use Rattle.std.specs.BTreeMap.{BTreeMap, get}
use Rattle.cel_value.specs.declared.value.Value as value
use Rattle.cel_value.specs.declared.value.Value.{Value, out-Value}
use Rattle.cel_value.specs.declared.value.Value.TheOpen.{Value-F}
use Rattle.cel_expression.specs.declared.key.Key.TheVariants as key
use Rattle.cel_expression.specs.declared.key.Key.{Key}
use Rattle.cel_expression.specs.contracts.key.KeyOrd.TheImpl.{cmp-value}

-- constants, each at its number
abbrev pub Values : Type 0
Values = List Value

-- the key of a value, by its outermost level: null, a truth value and a number has one
abbrev pub key_at : Value-F Value → Option Key
key_at Value-F.Null = Some key.Null
key_at (Value-F.Bool b) = Some (key.Truth b)
key_at (Value-F.Int n) = Some (key.Int n)
key_at (Value-F.Uint n) = Some (key.Uint n)
key_at _ = None

-- the key of a value
abbrev pub key_of : Value → Option Key
key_of v = key_at (out-Value v)

-- the order of keys, which is derived: by the kind, and then by the content
abbrev pub key_cmp : Key → Key → Ordering
key_cmp = cmp-value.it

-- each constant that has a key is under the number that its key has
pub record IsNumbered (constants : Values) (numbers : BTreeMap Key ℕ) : Type 0 where
  pub each : (k : ℕ) (v : Value) (q : Key) → slice_get constants k ≡ Some v → key_of v ≡ Some q
      → (n : ℕ) × (get key_cmp numbers q ≡ Some n) × (slice_get constants n ≡ Some v)

-- each text among the constants is under the number that the text has
pub record AreTextsNumbered (constants : Values) (number_of : List ℕ → Option ℕ) : Type 0 where
  pub each : (k : ℕ) (text : List ℕ) → slice_get constants k ≡ Some (value.Text text)
      → (n : ℕ) × (number_of text ≡ Some n) × (slice_get constants n ≡ Some (value.Text text))

-- if the value is a text, this has the number, and other texts keep theirs
pub record NotesText (old new : List ℕ → Option ℕ) (v : Value) (number : ℕ) : Type 0 where
  pub own : (text : List ℕ) → v ≡ value.Text text → new text ≡ Some number
  pub others : (text : List ℕ) → v ≢ value.Text text → new text ≡ old text

-- the key of a value has this number, and what is under other keys stays
pub record Notes (old new : BTreeMap Key ℕ) (v : Value) (number : ℕ) : Type 0 where
  pub own : (q : Key) → key_of v ≡ Some q → get key_cmp new q ≡ Some number
  pub others : (q : Key) → key_of v ≢ Some q → get key_cmp new q ≡ get key_cmp old q
