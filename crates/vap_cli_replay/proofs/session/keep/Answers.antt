use Rattle.std.proofs.Common.{◌≡◌, ◌++◌, inr, length, rules}
use Rattle.vap_cli_replay.proofs.session.keep.Goals as goal

-- the answer is kept behind the others
pub returns-in_ok-push-in-Some : goal.returns-in_ok-push-in-Some
returns-in_ok-push-in-Some c =
    let many : length c.args.verdicts.now.items ≡ c.args.others = search rules in
    let line : c.extend_from_slice.new.self.items ≡ c.args.answers.now.items ++ c.in-Some.answer.line.items = search rules in
    inr (record {
      kept = c.in-Some.answer;
      is = c.in-Some.is;
      many = many;
      verdict = c.in_ok-push-in-Some.ensures.items;
      line = line;
    })
