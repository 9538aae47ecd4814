use Rattle.std.proofs.Common.{◌≡◌, refl, ◌∙◌, arith, pos, ◌+ℤ◌, ◌-ℤ◌, ◌*ℤ◌, w32, w64, FitsSigned, to_z-of_z}
use Rattle.std.specs.Int.{w128}
use Rattle.jiff_core.proofs.SignedLemmas.{signed_arith}
use Rattle.cel_value.proofs.reading.instant.Goals as goal

pub returns : goal.returns
returns c =
    let d = c.args.day in
    let s = c.args.second in
    let o = c.args.offset in
    let day : c.from.result ≡ d = c.from.ensures ∙ to_z-of_z {w = w32} {z = d} c.ranges.day in
    let offset : c.from-3.result ≡ o = c.from-3.ensures ∙ to_z-of_z {w = w32} {z = o} c.ranges.offset in
    let f1 : FitsSigned w64 d = omega (arith, signed_arith) in
    let f2 : FitsSigned w64 (d *ℤ pos 86_400) = omega (arith, signed_arith) in
    let f3 : FitsSigned w64 (pos s) = omega (arith, signed_arith) in
    let f4 : FitsSigned w64 (d *ℤ pos 86_400 +ℤ pos s) = omega (arith, signed_arith) in
    let f5 : FitsSigned w64 o = omega (arith, signed_arith) in
    let f6 : FitsSigned w64 (d *ℤ pos 86_400 +ℤ pos s -ℤ o) = omega (arith, signed_arith) in
    let n = d *ℤ pos 86_400 +ℤ pos s -ℤ o in
    let seconds : c.from-4.result ≡ n =
    c.from-4.ensures
    ∙ rw (day, c.from-2.ensures, offset, to_z-of_z f1, to_z-of_z f2, to_z-of_z f3, to_z-of_z f4, to_z-of_z f5, to_z-of_z f6) refl in
    let g1 : FitsSigned w128 n = omega (arith, signed_arith) in
    let g2 : FitsSigned w128 (n *ℤ pos 1_000_000_000) = omega (arith, signed_arith) in
    let g3 : FitsSigned w128 (pos c.args.fraction) = omega (arith, signed_arith) in
    let g4 : FitsSigned w128 (n *ℤ pos 1_000_000_000 +ℤ pos c.args.fraction) = omega (arith, signed_arith) in
    c.from_nanosecond.ensures ∙ rw (seconds, c.from-5.ensures, to_z-of_z g1, to_z-of_z g2, to_z-of_z g3, to_z-of_z g4) refl
