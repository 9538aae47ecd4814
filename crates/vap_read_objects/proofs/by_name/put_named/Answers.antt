use Rattle.std.proofs.Common.{rules, arith}
use Rattle.std.proofs.lemmas.Grind.{common_steps}
use Rattle.vap_read_objects.proofs.Gathering.{adds_one}
use Rattle.vap_read_objects.proofs.by_name.put_named.Goals as goal

pub returns : goal.returns
returns g c =
    adds_one c.args.name c.args.value c.args.entries.now.items c.insert.new.self.items (λ sorted.
    let at = c.place_of-place.ensures.place (rw c.as_slice.ensures.value sorted) in
    first_of (search rules, grind (arith, common_steps)))
