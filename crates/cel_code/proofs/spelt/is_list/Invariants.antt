use Rattle.std.proofs.Common.{◌≡◌, None, take, drop}
use Rattle.cel_code.specs.Spelling.{each_after}
use Rattle.cel_code.specs.Reading.{last_of}
use Rattle.cel_code.proofs.spelt.is_list.Given as goal

abbrev pub invariant-loop-place : goal.invariant-loop-place
invariant-loop-place g l = each_after g.T.Spelt.fits (last_of (take l.place l.items)) (drop l.place l.items)
    ≡ each_after g.T.Spelt.fits None l.items
