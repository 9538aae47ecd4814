-- Entries in the order of their keys.
use Rattle.std.specs.Prelude.{◌≡◌, ◌<◌, ℕ, length, Bool, true, false, List, []}
use Rattle.std.specs.Prelude.{◌∷◌, map, Option, Some, None, if◌then◌else◌, suc, refl}
use Rattle.std.specs.List.{insert, remove}
use Rattle.std.specs.Ordering.{nat_cmp, is_lt, is_ge}
use Rattle.std.specs.Str.{bytes_eq}
use Rattle.std.specs.Cmp.Lexicographic.{slice_cmp}
use Rattle.std.specs.List.Sorted.{IsStrictlySortedBy}
use Rattle.std.specs.Coded.{Coded, code_by, coded×, coded_list, coded_ℕ}
use Rattle.base_containers.specs.declared.text.Keyed.{Keyed}

-- the keys of entries, in their order
abbrev pub keys_in : {V : Type 0} → List (Keyed V) → List (List ℕ)
keys_in es = map (λ e. e.key) es

-- each key comes once, and before all greater ones
abbrev pub IsInKeyOrder : {V : Type 0} → List (Keyed V) → Type 0
IsInKeyOrder es = IsStrictlySortedBy (slice_cmp nat_cmp) (keys_in es)

-- the value under a key
abbrev pub value_under : {V : Type 0} → List ℕ → List (Keyed V) → Option V
value_under k [] = None
value_under k (e ∷ es) = if bytes_eq e.key k then Some e.value else value_under k es

-- where a key goes: before the first entry that has a greater one
abbrev pub place_for : {V : Type 0} → List ℕ → List (Keyed V) → ℕ
place_for k [] = 0
place_for k (e ∷ es) = if is_lt (slice_cmp nat_cmp k e.key) then 0 else suc (place_for k es)

-- the entries with one more, in its place
abbrev pub with_entry : {V : Type 0} → List ℕ → V → List (Keyed V) → List (Keyed V)
with_entry k v es = insert es (place_for k es) (record { key = k; value = v })

-- the entries except the one under a key
abbrev pub without : {V : Type 0} → List ℕ → List (Keyed V) → List (Keyed V)
without k [] = []
without k (e ∷ es) = if bytes_eq e.key k then es else e ∷ without k es

-- the place of the entry under a key, or that there is none
abbrev pub IsPlaceOf : {V : Type 0} → List ℕ → List (Keyed V) → Option ℕ → Type 0
IsPlaceOf k es (Some place) = (place < length es) × (without k es ≡ remove es place)
IsPlaceOf k es None = without k es ≡ es

-- each key is above the one before it, the first above the one given
abbrev pub rises_from : {V : Type 0} → List ℕ → List (Keyed V) → Bool
rises_from k [] = true
rises_from k (e ∷ es) = if is_ge (slice_cmp nat_cmp k e.key) then false else rises_from e.key es

-- how an entry is stored
abbrev pub entry_code : {V : Type 0} → Coded V → Coded (Keyed V)
entry_code c = code_by (List ℕ × _) (coded× (coded_list coded_ℕ) c) (λ e. (e.key, e.value)) (λ p. record { key = p.0; value = p.1 })
    (λ _. refl)

-- how a list of entries is stored
abbrev pub entries_code : {V : Type 0} → Coded V → Coded (List (Keyed V))
entries_code c = coded_list (entry_code c)
