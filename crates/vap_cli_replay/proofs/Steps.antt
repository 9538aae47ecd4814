-- One line more.
use Rattle.std.proofs.Common.{◌≡◌, ℕ, List, [], ◌∷◌, ◌++◌, Result, Ok, Err, ap}
use Rattle.vap_cli_lines.specs.Lines.{EachReads}
use Rattle.vap_cli_replay.specs.Moves.{after_lines, and_then}
use Rattle.vap_cli_replay.specs.Replay.{Choices, Sofar, after_line, behind, replay_from}
use Rattle.vap_cli_lines.specs.declared.fault.LineFault.{LineFault}
use Rattle.vap_cli_lines.specs.declared.line.Line.{Line}

-- more lines are read after others
pub reads_more : (bytes more : List (List ℕ)) (lines others : List Line) → EachReads bytes lines → EachReads more others
    → EachReads (bytes ++ more) (lines ++ others)
reads_more [] more [] others h k = k
reads_more [] more (l ∷ lines) others h k = absurd h
reads_more (b ∷ bytes) more [] others h k = absurd h
reads_more (b ∷ bytes) more (l ∷ lines) others h k = (h.0, reads_more bytes more lines others h.1 k)

-- lines that were all taken, and then others
pub taken_more : (choices : Choices) (lines others : List Line) (s t : Sofar) → after_lines choices lines s ≡ Ok t
    → after_lines choices (lines ++ others) s ≡ after_lines choices others t
taken_more choices [] others s t h = ap (λ (r : Result Sofar LineFault). and_then (λ u. after_lines choices others u) r) h
taken_more choices (l ∷ lines) others s t h = at (after_line choices l s) (λ u k. taken_more choices lines others u t k) h
  where
    at : (r : Result Sofar LineFault)
        → ((u : Sofar) → after_lines choices lines u ≡ Ok t → after_lines choices (lines ++ others) u ≡ after_lines choices others t)
        → and_then (λ u. after_lines choices lines u) r ≡ Ok t
        → and_then (λ u. after_lines choices (lines ++ others) u) r ≡ after_lines choices others t
    at (Ok u) rest k = rest u k
    at (Err f) rest k = cc

-- if no line of a stream is refused, what it results in is how far it was replayed
pub replayed_whole : (choices : Choices) (lines : List Line) (s t : Sofar) → after_lines choices lines s ≡ Ok t
    → replay_from choices s lines ≡ replay_from choices t []
replayed_whole choices [] s t h = ap (λ (r : Result Sofar LineFault). behind s (λ u. replay_from choices u []) r) h
replayed_whole choices (l ∷ lines) s t h = at (after_line choices l s) (λ u k. replayed_whole choices lines u t k) h
  where
    at : (r : Result Sofar LineFault)
        → ((u : Sofar) → after_lines choices lines u ≡ Ok t → replay_from choices u lines ≡ replay_from choices t [])
        → and_then (λ u. after_lines choices lines u) r ≡ Ok t
        → behind s (λ u. replay_from choices u lines) r ≡ replay_from choices t []
    at (Ok u) rest k = rest u k
    at (Err f) rest k = cc

-- a stream whose lines are taken up to some others results in what these result in from there
pub replayed_behind : (choices : Choices) (lines others : List Line) (s t : Sofar) → after_lines choices lines s ≡ Ok t
    → replay_from choices s (lines ++ others) ≡ replay_from choices t others
replayed_behind choices [] others s t h = ap (λ (r : Result Sofar LineFault). behind s (λ u. replay_from choices u others) r) h
replayed_behind choices (l ∷ lines) others s t h = at (after_line choices l s) (λ u k. replayed_behind choices lines others u t k) h
  where
    at : (r : Result Sofar LineFault)
        → ((u : Sofar) → after_lines choices lines u ≡ Ok t → replay_from choices u (lines ++ others) ≡ replay_from choices t others)
        → and_then (λ u. after_lines choices lines u) r ≡ Ok t
        → behind s (λ u. replay_from choices u (lines ++ others)) r ≡ replay_from choices t others
    at (Ok u) rest k = rest u k
    at (Err f) rest k = cc
