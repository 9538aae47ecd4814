use Rattle.std.proofs.Common.{rules}
use Rattle.cel_value.proofs.JsonLevels.{tokens_of-List, tokens_of-Map, tokens_of-Object}
use Rattle.cel_value.proofs.json_values.+put.Goals as goal

pub put-returns-in-List-clause-tokens : goal.put-returns-in-List-clause-tokens
put-returns-in-List-clause-tokens t c = search (rules, tokens_of-List c.in-List.items)

pub put-returns-in-Map-clause-tokens : goal.put-returns-in-Map-clause-tokens
put-returns-in-Map-clause-tokens t c = search (rules, tokens_of-Map c.in-Map.entries, tokens_of-Object c.in-Map.entries)
