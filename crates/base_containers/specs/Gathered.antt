-- What is gathered of a list or an object.
use Rattle.std.specs.Prelude.{ℕ, Bool, true, List, [], ◌∷◌, map}
use Rattle.std.specs.Borrow.{Bor}
use Rattle.std.specs.Cmp.Lexicographic.{slice_cmp}
use Rattle.std.specs.List.Sorted.{IsStrictlySortedBy}
use Rattle.std.specs.Ordering.{nat_cmp, is_lt}
use Rattle.serde_json.specs.Data as json
use Rattle.serde_json.specs.Data.{Data, Items, Members}

-- the items of documents
abbrev pub items_of : List Data → Items
items_of [] = json.no_items
items_of (d ∷ ds) = json.item d (items_of ds)

-- a document under its name, which is lent
abbrev pub Member : Type 0
Member = Bor (List ℕ) × Data

-- the members of documents under their names
abbrev pub members_of : List Member → Members
members_of [] = json.no_members
members_of (m ∷ ms) = json.member m.0.now m.1 (members_of ms)

-- the names of members, in their order
abbrev pub names_of : List Member → List (List ℕ)
names_of ms = map (λ m. m.0.now) ms

-- each name comes once, and before all greater ones
abbrev pub AreInOrder : List Member → Type 0
AreInOrder ms = IsStrictlySortedBy (slice_cmp nat_cmp) (names_of ms)

-- whether a name is above the last one
abbrev pub is_above : List ℕ → List Member → Bool
is_above name [] = true
is_above name (m ∷ []) = is_lt (slice_cmp nat_cmp m.0.now name)
is_above name (m ∷ n ∷ ms) = is_above name (n ∷ ms)
