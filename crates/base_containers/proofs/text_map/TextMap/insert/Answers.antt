use Rattle.std.proofs.Common.{◌≡◌, None, rules}
use Rattle.base_containers.specs.Keys.{with_entry, value_under}
use Rattle.base_containers.proofs.Order.{with_entry_ordered}
use Rattle.base_containers.proofs.text_map.TextMap.insert.Goals as goal

-- the entry is put in its place, so the order stays
pub invariant_of-self-2 : goal.invariant_of-self-2
invariant_of-self-2 g c =
    let same : c.insert.new.self.items ≡ with_entry c.args.key c.args.value c.self.inside.entries.items = search rules in
    let absent : value_under c.args.key c.self.inside.entries.items ≡ None = search rules in
    rw same (with_entry_ordered c.args.key c.args.value c.self.inside.entries.items c.self.invariant absent)
