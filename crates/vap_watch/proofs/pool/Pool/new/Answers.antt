use Rattle.std.proofs.Common.{◌≡◌, ap, length, arith}
use Rattle.vap_watch.proofs.Pools.{waits_all}
use Rattle.vap_watch.proofs.pool.Pool.new.Goals as goal

pub new-requires : goal.new-requires
new-requires c =
    let words = c.as_slice.result.now in
    let places = c.args.places.items in
    let same = ap length c.as_slice.ensures.value in
    let len : length words ≡ length places = omega (arith, same, c.in_ok-words.ensures, c.len.ensures, c.args.places.ok) in
    waits_all c.args.board.now words places len c.requires.board
