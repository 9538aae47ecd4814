use Rattle.base_containers.proofs.Order.{decides_empty, decides_first}
use Rattle.base_containers.proofs.text_map.is_in_key_order.Goals as goal

pub returns-in-empty : goal.returns-in-empty
returns-in-empty g c = decides_empty c.args.entries.now c.in-empty.len_below

pub returns-in-len1-up : goal.returns-in-len1-up
returns-in-len1-up g c =
    decides_first c.args.entries.now c.first-item.result c.rises_from.result c.in-len1-up.len_at_least c.first-item.is c.rises_from.ensures
