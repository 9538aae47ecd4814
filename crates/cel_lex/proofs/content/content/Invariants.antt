use Rattle.std.proofs.Common.{◌≡◌, ◌≤◌, ◌-◌, length, drop, string_bytes}
use Rattle.std.specs.Str.{IsCharBoundary}
use Rattle.cel_lex.specs.Escapes.{meaning_of}
use Rattle.cel_lex.proofs.Meaning.{after}
use Rattle.cel_lex.proofs.content.content.Given as goal

-- the text so far and what is left mean what the whole does
abbrev pub invariant-loop-place : goal.invariant-loop-place
invariant-loop-place l = record {
  within : l.place ≤ length l.bytes;
  cut : IsCharBoundary l.bytes l.place;
  means : after (string_bytes l.out) l.place (meaning_of 0 (drop l.place l.bytes)) ≡ meaning_of 0 l.bytes;
}

abbrev pub decreases-loop-place : goal.decreases-loop-place
decreases-loop-place l = length l.bytes - l.place
