use Rattle.vap_cli_lines.proofs.Reading.{not_judged}
use Rattle.vap_cli_lines.proofs.judging.ReadLine.new.Goals as goal

pub returns-clause-judged : goal.returns-clause-judged
returns-clause-judged c = λ log. not_judged log c.args.line
