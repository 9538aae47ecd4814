use Rattle.std.proofs.Common.{◌≤◌, ◌-◌, ◌++◌, List, length, drop}
use Rattle.cel_lex.specs.declared.token.Token.{Token}
use Rattle.cel_lex.specs.declared.fault.LexFault.{LexFault}
use Rattle.cel_lex.specs.Lexis.{Cuts, Fails}
use Rattle.cel_lex.proofs.scan.tokens.Given as goal

-- what is left completes the cut, or has the first fault
abbrev pub invariant-loop-place : goal.invariant-loop-place
invariant-loop-place l = record {
  within : l.place ≤ length l.text;
  cut : (ts : List Token) → Cuts l.place (drop l.place l.text) ts → Cuts 0 l.text (l.out.items ++ ts);
  fault : (f : LexFault) → Fails l.place (drop l.place l.text) f → Fails 0 l.text f;
}

abbrev pub decreases-loop-place : goal.decreases-loop-place
decreases-loop-place l = length l.text - l.place
