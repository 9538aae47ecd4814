-- Lists that are kept in blocks.
use Rattle.std.specs.Prelude.{List, flat_map}

-- the elements of blocks, one block after the other
abbrev pub joined : {X : Type 0} → List (List X) → List X
joined blocks = flat_map (λ block. block) blocks
