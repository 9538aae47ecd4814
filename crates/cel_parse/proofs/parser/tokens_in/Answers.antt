use Rattle.cel_parse.proofs.Parsed.{cut_told}
use Rattle.cel_parse.proofs.parser.tokens_in.Goals as goal

pub returns-clause-fault : goal.returns-clause-fault
returns-clause-fault c = cut_told c.args.text.now c.tokens.result c.map_err.result c.map_err.ensures.cases c.tokens.ensures.fault
