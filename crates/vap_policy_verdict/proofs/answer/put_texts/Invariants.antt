use Rattle.std.proofs.Common.{◌≡◌, ◌++◌, drop, map}
use Rattle.json.specs.Token.{string}
use Rattle.vap_policy_verdict.proofs.answer.put_texts.Given as goal

abbrev pub invariant-loop-text : goal.invariant-loop-text
invariant-loop-text l =
    (l.out.tokens ++ map string (drop l.text-index l.texts) ≡ l.initial.out.tokens ++ map string l.texts)
    × (l.out.before ≡ l.initial.out.before)
