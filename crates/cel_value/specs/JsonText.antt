-- Values as JSON.
use Rattle.std.specs.Prelude.{ℕ, List, [], ◌∷◌, ◌++◌, decimal, flat_map}
use Rattle.std.specs.Fmt.{signed_decimal}
use Rattle.json.specs.Print.{print}
use Rattle.json.specs.Token.{Token, begin_array, begin_object, boolean, end_array, end_object, key, null, number, string}
use Rattle.base_containers.specs.declared.text.Keyed.{Keyed}
use Rattle.cel_value.specs.Printed.{timestamp_text, duration_text}
use Rattle.cel_value.specs.declared.value.Value.{Value, fold-Value}
use Rattle.cel_value.specs.declared.value.Value.TheOpen.{Value-F}

-- the tokens of some items, in a row
abbrev pub listed : List (List Token) → List Token
listed items = begin_array ∷ (flat_map (λ tokens. tokens) items ++ end_array ∷ [])

-- each key with the tokens of what is under it, in a row
abbrev pub keyed : List (Keyed (List Token)) → List Token
keyed members = begin_object ∷ (flat_map (λ member. key member.key ∷ member.value) members ++ end_object ∷ [])

-- one level, with the tokens of each value inside in its place
abbrev pub tokens_step : Value-F (List Token) → List Token
tokens_step Value-F.Null = null ∷ []
tokens_step (Value-F.Bool truth) = boolean truth ∷ []
tokens_step (Value-F.Int n) = number (signed_decimal n) ∷ []
tokens_step (Value-F.Uint n) = number (decimal n) ∷ []
tokens_step (Value-F.Timestamp n) = string (timestamp_text n) ∷ []
tokens_step (Value-F.Duration n) = string (duration_text n) ∷ []
tokens_step (Value-F.Text bytes) = string bytes ∷ []
tokens_step (Value-F.List items) = listed items
tokens_step (Value-F.Map members) = keyed members
tokens_step (Value-F.Object members) = keyed members
tokens_step Value-F.Opaque = null ∷ []

-- the tokens of a value
abbrev pub tokens_of : Value → List Token
tokens_of = fold-Value (List Token) tokens_step

-- a value as compact JSON
abbrev pub json_text : Value → List ℕ
json_text value = print (tokens_of value)

-- the tokens of a list's items
abbrev pub items_tokens : List Value → List Token
items_tokens items = flat_map tokens_of items

-- the tokens of a map's or an object's members
abbrev pub members_tokens : List (Keyed Value) → List Token
members_tokens members = flat_map (λ member. key member.key ∷ tokens_of member.value) members
