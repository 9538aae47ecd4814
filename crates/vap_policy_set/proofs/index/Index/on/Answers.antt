use Rattle.std.proofs.Common.{None, subst, ◌∙◌}
use Rattle.vap_policy_set.specs.Index.{AreEnough, IsFoundAt}
use Rattle.vap_policy_set.proofs.Indexed.{enough_none}
use Rattle.vap_policy_set.proofs.index.Index.on.Goals as goal

pub returns-in-None : goal.returns-in-None
returns-in-None c =
    let i = c.self.inside in
    let g = c.args.group.now in
    let s = c.args.resource.now in
    let none = subst (λ es. IsFoundAt g s es None) c.as_slice-entries.ensures c.in-None.ensures in
    subst (λ all. AreEnough g s all c.as_slice-in-None.result.now) c.self.view_is
    (enough_none i.entries g s i.all c.as_slice-in-None.result.now none c.self.invariant.1
    (c.as_slice-in-None.ensures ∙ c.self.invariant.0))
