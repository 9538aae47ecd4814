-- That a text has an answer.
use Rattle.std.specs.Prelude.{ℕ, List}
use Rattle.cel_lex.specs.declared.token.Token.{Token}
use Rattle.cel_lex.specs.declared.fault.LexFault.{LexFault}
use Rattle.cel_lex.specs.Lexis.{IsCut, Refuses}

-- a text has a cut, or a fault
pub data HasAnswer (bytes : List ℕ) : Type 0 where
  is_cut : {ts : List Token} → IsCut bytes ts → HasAnswer bytes
  is_refused : {f : LexFault} → Refuses bytes f → HasAnswer bytes
