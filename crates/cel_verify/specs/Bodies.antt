-- In which loop's body an instruction is, by where the loops lead.
use Rattle.std.specs.Prelude.{ℕ, zero, suc, Bool, true, false, nat_eq, nat_lt, List, Option, Some, None, slice_get, if◌then◌else◌}
use Rattle.cel_code.specs.declared.instr.Instr.{Instr}
use Rattle.cel_code.specs.declared.instr.Instr.TheVariants.{Loop, Item, Next}

-- a loop that leads past an instruction
abbrev pub leads_behind : Option Instr → ℕ → Bool
leads_behind (Some (Loop n exit)) at = nat_lt at exit
leads_behind _ at = false

-- the last of so many first instructions that is a loop which leads past an instruction
abbrev pub last_behind : List Instr → ℕ → ℕ → Option ℕ
last_behind code at zero = None
last_behind code at (suc s) = if leads_behind (slice_get code s) at then Some s else last_behind code at s

-- the loop whose body an instruction is in: the last one before it that leads past it
abbrev pub innermost : List Instr → ℕ → Option ℕ
innermost code at = last_behind code at at

-- the same loop, or none
abbrev pub same_loop : Option ℕ → Option ℕ → Bool
same_loop None None = true
same_loop (Some s) (Some t) = nat_eq s t
same_loop _ _ = false

-- two instructions of one body
abbrev pub same_body : List Instr → ℕ → ℕ → Bool
same_body code at to = same_loop (innermost code at) (innermost code to)

-- an instruction that takes an item
abbrev pub is_item : Option Instr → Bool
is_item (Some Item) = true
is_item _ = false

-- an instruction that ends a loop's body
abbrev pub is_next : Option Instr → Bool
is_next (Some Next) = true
is_next _ = false
