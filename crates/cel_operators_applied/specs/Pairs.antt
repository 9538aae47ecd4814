-- Keys with their values.
use Rattle.std.specs.Prelude.{ℕ, zero, suc, List, ◌∷◌, reverse, Option, Some, None, Result, Ok, Err}
use Rattle.std.specs.Option.{option_map}
use Rattle.base_containers.specs.declared.text.Keyed.{Keyed}
use Rattle.cel_value.specs.declared.value.Value.{Value}
use Rattle.cel_value.specs.declared.cel_error.CelError.{CelError}
use Rattle.cel_operators.specs.Outcomes.{Outcome}
use Rattle.cel_operators.specs.Wants.{taken}
use Rattle.cel_operators.specs.declared.operands.Want.TheVariants.{Characters}
use Rattle.cel_operators.specs.Maps.{Entries, entry_in_front}

-- a value under a key, or its error
abbrev pub under : List ℕ → Outcome → Result (Keyed Value) CelError
under k (Err e) = Err e
under k (Ok v) = Ok (record { key = k; value = v })

-- a value under what is taken for a key, or the leftmost error; nothing if it is no key
abbrev pub entry_of : Option (Result (List ℕ) CelError) → Outcome → Option (Result (Keyed Value) CelError)
entry_of None v = None
entry_of (Some (Err e)) v = Some (Err e)
entry_of (Some (Ok k)) v = Some (under k v)

-- an entry in front of entries, or the leftmost error
abbrev pub in_front : Result (Keyed Value) CelError → Entries → Entries
in_front (Err e) es = Err e
in_front (Ok e) (Err x) = Err x
in_front (Ok e) (Ok es) = Ok (e ∷ es)

-- entries from the last to the first, in their order
abbrev pub turned : Result (List (Keyed Value)) CelError → Entries
turned (Err e) = Err e
turned (Ok es) = Ok (reverse es)

-- the entries that so many keys and values on a stack are, each value on its key, in front of those that were taken
-- before, and what is below; None if there are fewer, or a key is no text
abbrev pub entries_off : ℕ → Option Entries → List Outcome → Option (Entries × List Outcome)
entries_off zero es stack = option_map (λ taken. (taken, stack)) es
entries_off (suc n) es (v ∷ k ∷ stack) = entries_off n (entry_in_front (taken Characters (Some k)) v es) stack
entries_off (suc n) es _ = None
