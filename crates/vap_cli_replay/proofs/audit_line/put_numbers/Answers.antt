use Rattle.std.proofs.Common.{◌≡◌, List, ◌++◌, Result, Ok, Err, ap, ◌∙◌, append_assoc, codes}
use Rattle.std.specs.Prelude.{OnOk}
use Rattle.json.specs.Token.{Token}
use Rattle.vap_policy_verdict.specs.Members.{number_member}
use Rattle.vap_cli_replay.specs.AuditLine.{number_members}
use Rattle.vap_cli_replay.proofs.audit_line.put_numbers.Goals as goal

-- what is put after what was put
behind : {A E : Type 0} (r : Result A E) (old mid new xs ys : List Token) → mid ≡ old ++ xs → OnOk r (new ≡ mid ++ ys)
    → OnOk r (new ≡ old ++ (xs ++ ys))
behind (Ok x) old mid new xs ys e h = h ∙ (ap (λ (l : List Token). l ++ ys) e ∙ append_assoc old xs ys)
behind (Err x) old mid new xs ys e h = tt

pub returns-clause-ok : goal.returns-clause-ok
unfolding number_members
returns-clause-ok c =
    behind c.put_number-2.result c.args.out.now.tokens c.put_number.new.out.tokens c.put_number-2.new.out.tokens
    (number_member (codes "call") c.args.call) (number_member (codes "revision") c.args.revision) c.in_ok-put_number.ensures.ok
    c.put_number-2.ensures.ok
