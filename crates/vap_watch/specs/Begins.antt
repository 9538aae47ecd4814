-- Lists that begin with one another.
use Rattle.std.specs.Prelude.{◌≡◌, List, ◌++◌}

-- the list begins with what was seen
pub record StartsWith {X : Type 0} (list seen : List X) : Type 0 where
  pub rest : List X
  pub split : list ≡ seen ++ rest
