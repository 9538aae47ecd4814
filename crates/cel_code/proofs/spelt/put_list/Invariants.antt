use Rattle.std.proofs.Common.{◌≡◌, ◌++◌, length, take}
use Rattle.std.specs.List.{flat_map}
use Rattle.cel_code.specs.Spelling.{be32}
use Rattle.cel_code.proofs.spelt.put_list.Given as goal

abbrev pub invariant-loop-item : goal.invariant-loop-item
invariant-loop-item g l = l.out.items ≡ l.fn.out.items ++ (be32 (length l.items) ++ flat_map g.T.Spelt.spelling (take l.item-index l.items))
