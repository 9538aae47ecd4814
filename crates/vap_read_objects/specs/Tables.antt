-- Entries in the order of their keys.
use Rattle.std.specs.Prelude.{◌≡◌, ◌<◌, ◌≤◌, ◌-◌, ℕ, suc, true, false, if◌then◌else◌, length, map, take, drop, List, [], ◌∷◌, ◌++◌}
use Rattle.std.specs.Prelude.{slice_index_or}
use Rattle.std.specs.FinMap.Entries.{by_order, is_sorted}
use Rattle.std.specs.List.{All}
use Rattle.std.specs.Ordering.{is_eq, is_gt}
use Rattle.vap_read.specs.Keys.{key_cmp}
use Rattle.vap_read.specs.declared.key.Key.{Key}
use Rattle.vap_read.specs.declared.object.Object.{Object}
use Rattle.vap_read_objects.specs.Blocks.{joined}
use Rattle.vap_read_objects.specs.declared.entry.Entry.{Entry}

-- an entry's key with its object
abbrev pub entry_of : {T : Type 0} → Entry T → Key × Object
entry_of e = (e.key, e.object)

-- the same for each
abbrev pub entries_in : {T : Type 0} → List (Entry T) → List (Key × Object)
entries_in es = map entry_of es

-- entries are in the order of their keys, each of which occurs once
abbrev pub AreInOrder : {T : Type 0} → List (Entry T) → Type 0
AreInOrder es = is_sorted key_cmp (entries_in es) ≡ true

-- entries in order with others in place of the one of a key
abbrev pub replaced : {T : Type 0} → Key → List (Entry T) → List (Entry T) → List (Entry T)
replaced k new [] = new
replaced k new (e ∷ es) = by_order (key_cmp k e.key) (new ++ e ∷ es) (new ++ es) (e ∷ replaced k new es)

-- how many entries are before a key
abbrev pub place_for : {T : Type 0} → Key → List (Entry T) → ℕ
place_for k [] = 0
place_for k (e ∷ es) = if is_gt (key_cmp k e.key) then suc (place_for k es) else 0

-- entries without the first, if that is of this key
abbrev pub not_at : {T : Type 0} → Key → List (Entry T) → List (Entry T)
not_at k [] = []
not_at k (e ∷ es) = if is_eq (key_cmp k e.key) then es else e ∷ es

-- all entries are below a key
abbrev pub StandBelow : {T : Type 0} → Key → List (Entry T) → Type 0
StandBelow k es = All (λ e. is_gt (key_cmp k e.key) ≡ true) es

-- there is a last entry, and it is not below a key
abbrev pub EndsAbove : {T : Type 0} → Key → List (Entry T) → Type 0
EndsAbove {T} k es = (0 < length es) × ((d : Entry T) → is_gt (key_cmp k (slice_index_or es (length es - 1) d).key) ≡ false)

-- what is put under a key among the entries of blocks is put there among those of one block
pub record IsBlockFor {T : Type 0} (k : Key) (blocks : List (List (Entry T))) (at : ℕ) : Type 0 where
  pub within : at ≤ length blocks
  pub there : (new : List (Entry T))
      → replaced k new (joined blocks)
      ≡ joined (take at blocks) ++ (replaced k new (joined (take 1 (drop at blocks))) ++ joined (drop 1 (drop at blocks)))
