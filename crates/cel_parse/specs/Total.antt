-- That a text has an answer.
use Rattle.std.specs.Prelude.{ℕ, List}
use Rattle.cel_parse.specs.declared.fault.ParseFault.{ParseFault}
use Rattle.cel_value.specs.declared.expr.Expr.{Expr}
use Rattle.cel_parse.specs.Parsing.{IsParsed, IsRefused}

-- a text spells an expression, or is refused
pub data IsAnswered (text : List ℕ) : Type 0 where
  is_parsed : {e : Expr} → IsParsed text e → IsAnswered text
  is_refused : {f : ParseFault} → IsRefused text f → IsAnswered text
