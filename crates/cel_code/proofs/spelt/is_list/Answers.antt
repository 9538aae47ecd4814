use Rattle.std.proofs.Common.{◌≡◌, arith, ◌∙◌, ◌+◌, sym, ap, get_or, Bool, true, ◌&&◌, take, drop}
use Rattle.cel_code.specs.Spelling.{each_after}
use Rattle.cel_code.specs.Reading.{last_of}
use Rattle.cel_code.proofs.Loops.{each_step}
use Rattle.cel_code.proofs.spelt.is_list.Goals as goal

pub loop-place-preserved : goal.loop-place-preserved
loop-place-preserved g c =
    let fits = g.T.Spelt.fits in
    let xs = c.args.items.now in
    let place = c.loop-place.place in
    let x = c.index-items-place.result in
    let last = last_of (take place xs) in
    let rest = each_after fits (last_of (take (place + 1) xs)) (drop (place + 1) xs) in
    let one : fits last x ≡ true = grind arith in
    let two : fits last (get_or xs place x) ≡ true = ap (λ y. fits last y) (sym c.index-items-place.is) ∙ one in
    let three : (fits last (get_or xs place x) && rest) ≡ rest = ap (λ (b : Bool). b && rest) two in
    sym three ∙ sym (each_step fits xs place x c.loop-place-test.true) ∙ c.loop-place.invariant
