use Rattle.std.proofs.Common.{sym, subst}
use Rattle.vap_policy_set.specs.Ready.{IsOneOf}
use Rattle.vap_policy_set.specs.Sets.{kinds_of}
use Rattle.vap_policy.proofs.Named.{kind_first}
use Rattle.vap_policy.proofs.case.Case.new.Goals as goal

pub returns-clause-ready : goal.returns-clause-ready
returns-clause-ready c =
    let set = c.args.set.now in
    let asked = c.args.request.now.request.now.admission in
    record {
      held = c.requires.held;
      kind = subst (IsOneOf (kinds_of set)) (sym c.requires.kind) (kind_first (kinds_of set) asked);
      labels = c.requires.labels;
    }
