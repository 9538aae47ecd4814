use Rattle.cel_operators.proofs.Read.{answers_its_text}
use Rattle.cel_operators.proofs.Alike.{alike}
use Rattle.cel_operators.proofs.built.Built.new.Goals as goal

pub invariant_of-result : goal.invariant_of-result
invariant_of-result c =
    let text = c.args.text.now in
    let r = c.in_ok-regex.regex in
    let is_regex = c.in_ok-regex.ensures.regex in
    record {
      is_pattern = rw is_regex.0 c.in_ok-regex.ensures.is_pattern;
      answers = answers_its_text text r is_regex;
      runs = c.in_ok-forward.ensures.own;
      alike = alike text r c.in_ok-program.program is_regex c.in_ok-program.ensures.program;
    }
