use Rattle.std.proofs.Common.{rules}
use Rattle.cel_parse.specs.Descent.{all_of}
use Rattle.cel_parse.proofs.descent.read_all.Goals as goal

pub returns-in_err-what : goal.returns-in_err-what
unfolding all_of
returns-in_err-what c = search rules

pub returns-in-empty : goal.returns-in-empty
unfolding all_of
returns-in-empty c = search rules

pub returns-in-len1-up : goal.returns-in-len1-up
unfolding all_of
returns-in-len1-up c = search rules
