-- Which values have data, by their tokens.
use Rattle.std.specs.Prelude.{ℕ, ◌+◌, ◌-◌, ◌&&◌, nat_lt, Bool, true, is_some, if◌then◌else◌, List, [], ◌∷◌, Option, Some, None}
use Rattle.json.specs.Token.{Token}
use Rattle.json.specs.Tape.{node_token}
use Rattle.json.specs.declared.tape.Node.{Node}
use Rattle.serde_json.specs.Read.{number_of}

-- a number is in range
abbrev pub is_read : Token → Bool
is_read (Token.number s) = is_some (number_of s)
is_read Token.begin_object = true
is_read Token.end_object = true
is_read Token.begin_array = true
is_read Token.end_array = true
is_read (Token.key s) = true
is_read (Token.string s) = true
is_read (Token.boolean b) = true
is_read Token.null = true
is_read Token.bad = true

-- arrays and objects nest no deeper than so many levels
abbrev pub is_within : ℕ → List Token → Bool
is_within n [] = true
is_within n (Token.begin_object ∷ ts) = nat_lt 0 n && is_within (n - 1) ts
is_within n (Token.end_object ∷ ts) = is_within (n + 1) ts
is_within n (Token.begin_array ∷ ts) = nat_lt 0 n && is_within (n - 1) ts
is_within n (Token.end_array ∷ ts) = is_within (n + 1) ts
is_within n (Token.key s ∷ ts) = is_within n ts
is_within n (Token.string s ∷ ts) = is_within n ts
is_within n (Token.number s ∷ ts) = is_within n ts
is_within n (Token.boolean b ∷ ts) = is_within n ts
is_within n (Token.null ∷ ts) = is_within n ts
is_within n (Token.bad ∷ ts) = is_within n ts

-- the levels that are left after a token, if there are enough
abbrev pub room_after : ℕ → Token → Option ℕ
room_after n Token.begin_object = if nat_lt 0 n then Some (n - 1) else None
room_after n Token.end_object = Some (n + 1)
room_after n Token.begin_array = if nat_lt 0 n then Some (n - 1) else None
room_after n Token.end_array = Some (n + 1)
room_after n (Token.key s) = Some n
room_after n (Token.string s) = Some n
room_after n (Token.number s) = Some n
room_after n (Token.boolean b) = Some n
room_after n Token.null = Some n
room_after n Token.bad = Some n

-- the number of a node is in range, if it is one
abbrev pub is_read_node : Node → Bool
is_read_node n = is_read (node_token n)
