-- The literal texts that `matches` is given in the expression of a text.
use Rattle.std.specs.Prelude.{◌≡◌, ◌≢◌, ℕ, List, [], Result, Ok, Err}
use Rattle.cel_parse.specs.declared.fault.ParseFault.{ParseFault}
use Rattle.cel_value.specs.declared.expr.Expr.{Expr}
use Rattle.cel_parse.specs.Parsed.{parsed}
use Rattle.cel_check.specs.PatternTexts.{patterns_in}
use Rattle.cel_expression.specs.Source.{Source}

-- those in an expression, from left to right, if it is one
abbrev pub patterns_by : Result Expr ParseFault → List (List ℕ)
patterns_by (Ok e) = patterns_in e
patterns_by (Err fault) = []

-- those in the expression that a text spells
abbrev pub patterns_of : List ℕ → List (List ℕ)
patterns_of text = patterns_by (parsed text)

-- the text spells an expression in which `matches` is given a literal text
pub record MayMatch (s : Source) : Type 0 where
  pub expression : Expr
  pub spelled : parsed s.text ≡ Ok expression
  pub some : patterns_in expression ≢ []
