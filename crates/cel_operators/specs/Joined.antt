-- Texts in a row.
use Rattle.std.specs.Prelude.{ℕ, List, [], ◌∷◌, Option, Some, None}
use Rattle.std.specs.List.{join_by}
use Rattle.std.specs.Option.{option_map, option_and_then}
use Rattle.cel_value.specs.declared.value.Value.{Value, out-Value}
use Rattle.cel_value.specs.declared.value.Value.TheOpen.{Value-F}

-- the bytes of one level of a value, if it is a text
abbrev pub text_at : Value-F Value → Option (List ℕ)
text_at (Value-F.Text bytes) = Some bytes
text_at _ = None

-- the bytes of a value that is a text
abbrev pub text_of : Value → Option (List ℕ)
text_of v = text_at (out-Value v)

-- the texts that values are, if each is one
abbrev pub texts_of : List Value → Option (List (List ℕ))
texts_of [] = Some []
texts_of (v ∷ vs) = option_and_then (λ t. option_map (λ ts. t ∷ ts) (texts_of vs)) (text_of v)

-- those texts, each further one after a separator
abbrev pub joined : List ℕ → List Value → Option (List ℕ)
joined separator parts = option_map (λ ts. join_by (λ t. t) separator ts) (texts_of parts)
