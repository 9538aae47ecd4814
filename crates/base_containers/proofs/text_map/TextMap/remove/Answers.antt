use Rattle.std.proofs.Common.{◌≡◌, None, subst, rules}
use Rattle.base_containers.specs.Keys.{IsInKeyOrder, value_under, without}
use Rattle.base_containers.proofs.Removal.{without_in_order, none_left}
use Rattle.base_containers.proofs.text_map.TextMap.remove.Goals as goal

pub invariant_of-self : goal.invariant_of-self
invariant_of-self g c =
    let same : c.remove.new.self.items ≡ without c.args.key.now c.self.inside.entries.items = search rules in
    rw same (without_in_order c.args.key.now c.self.inside.entries.items c.self.invariant)

pub returns-in-Some-clause-absent : goal.returns-in-Some-clause-absent
returns-in-Some-clause-absent g c =
    let same : c.remove.new.self.items ≡ without c.args.key.now c.self.inside.entries.items = search rules in
    rw same (none_left c.args.key.now c.self.inside.entries.items c.self.invariant)

pub returns-in_default-clause-absent : goal.returns-in_default-clause-absent
returns-in_default-clause-absent g c =
    let same : without c.args.key.now c.args.self.now ≡ c.args.self.now = search rules in
    let ordered : IsInKeyOrder c.args.self.now = search rules in
    subst (λ es. value_under c.args.key.now es ≡ None) same (none_left c.args.key.now c.args.self.now ordered)
