use Rattle.cel_operators.proofs.Read.{regex_is_pattern}
use Rattle.cel_operators.proofs.regexes.regex_of.Goals as goal

pub returns-in-Ok-clause-is_pattern : goal.returns-in-Ok-clause-is_pattern
returns-in-Ok-clause-is_pattern c =
    regex_is_pattern c.args.text.now c.in-Ok.regex (c.in-Ok.ensures.source, c.in-Ok.ensures.config, c.in-Ok.ensures.read)

pub returns-in-Err-clause-refused : goal.returns-in-Err-clause-refused
returns-in-Err-clause-refused c = c.refused.ensures.reason c.args.text.now c.in-Err.ensures.by_grammar c.in-Err.ensures.kind
