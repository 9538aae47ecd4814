-- The names that are printed, and the places beside them.
use Rattle.std.specs.Prelude.{ℕ, List, Option, Some, None, codes}
use Rattle.cel_lex.specs.Names.{lex_fault_name}
use Rattle.cel_parse.specs.declared.fault.ParseFault.{ParseFault}
use Rattle.cel_parse.specs.declared.fault.ParseFault.TheVariants as fault

-- the name of a fault of the parser: of one of the lexer its own
abbrev pub parse_fault_name : ParseFault → List ℕ
parse_fault_name (fault.Lex f) = lex_fault_name f.kind
parse_fault_name (fault.Unexpected place) = codes "Unexpected"
parse_fault_name (fault.BadMacro place) = codes "BadMacro"
parse_fault_name fault.TooDeep = codes "TooDeep"

-- where a text has a fault of the parser, if it is at one place
abbrev pub parse_fault_place : ParseFault → Option ℕ
parse_fault_place (fault.Lex f) = Some f.place
parse_fault_place (fault.Unexpected place) = Some place
parse_fault_place (fault.BadMacro place) = Some place
parse_fault_place fault.TooDeep = None
