-- The names that are printed.
use Rattle.std.specs.Prelude.{ℕ, List, codes}
use Rattle.cel_lex.specs.declared.fault.LexFaultKind.{LexFaultKind}
use Rattle.cel_lex.specs.declared.fault.LexFaultKind.TheVariants as kind

-- the name of a fault of the lexer
abbrev pub lex_fault_name : LexFaultKind → List ℕ
lex_fault_name kind.BadChar = codes "BadChar"
lex_fault_name kind.Unterminated = codes "Unterminated"
lex_fault_name kind.BadEscape = codes "BadEscape"
lex_fault_name kind.IntRange = codes "IntRange"
lex_fault_name kind.TooLong = codes "TooLong"
