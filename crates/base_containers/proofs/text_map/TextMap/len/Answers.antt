use Rattle.std.proofs.Common.{rules}
use Rattle.base_containers.proofs.text_map.TextMap.len.Goals as goal

pub returns : goal.returns
returns g c = search rules
