use Rattle.cel_operators_applied.proofs.Turned.{map_whole}
use Rattle.cel_operators_applied.proofs.maps.map_of.Goals as goal

pub returns-in_ok-placed-in-Ok : goal.returns-in_ok-placed-in-Ok
returns-in_ok-placed-in-Ok c =
    map_whole c.args.entries c.in-Ok.entries c.as_slice.result.now c.in_ok-placed-in-Ok.field-0 c.entries_charge-charge.result c.made.result
    c.in-Ok.is c.as_slice.ensures c.in_ok-placed-in-Ok.ensures c.entries_charge-charge.ensures c.made.ensures
