use Rattle.std.proofs.Common.{◌≡◌, ◌≤◌, ◌+◌, map, drop}
use Rattle.std.specs.List.{list_all}
use Rattle.json.specs.Tape.{node_token}
use Rattle.base_containers.specs.Accepted.{is_read_node, is_within}
use Rattle.base_containers.proofs.acceptance.are_accepted.Given as goal

abbrev pub invariant-loop-node : goal.invariant-loop-node
invariant-loop-node l = record {
  bound : l.room ≤ 127 + l.node-index;
  read : list_all is_read_node l.nodes ≡ list_all is_read_node (drop l.node-index l.nodes);
  left : is_within 127 (map node_token l.nodes) ≡ is_within l.room (drop l.node-index (map node_token l.nodes));
}
