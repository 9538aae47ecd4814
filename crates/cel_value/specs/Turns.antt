-- The keys and values of a map literal.
use Rattle.std.specs.Prelude.{List, [], ◌∷◌}
use Rattle.cel_value.specs.declared.expr.Entry.{Entry}

-- keys and values by turns, each key in front of its value
abbrev pub by_turns : {A : Type 0} → List (Entry A) → List A
by_turns [] = []
by_turns (e ∷ es) = e.key ∷ e.value ∷ by_turns es
