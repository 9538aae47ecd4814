use Rattle.std.proofs.Common.{not, sym, ap, ◌∙◌}
use Rattle.vap_read.specs.declared.key.Key.{Key}
use Rattle.vap_read.specs.declared.object.Object.{Object}
use Rattle.vap_read_objects.specs.Classes.{misses}
use Rattle.vap_policy_set.proofs.Changed.{takes_if}
use Rattle.vap_policy_set.proofs.changed_policies.ChangedPolicies.add.Goals as goal

pub returns-in-Put : goal.returns-in-Put
returns-in-Put c =
    takes_if c.add_key.result c.args.event.now c.get.result.now.key c.args.self.now c.add_key.new.self
    (λ class out. ap (misses class) c.in-Put.is ∙ ap not (ap (λ (o : Object). class o.key) (sym c.get.ensures) ∙ out))
    c.add_key.ensures.all c.add_key.ensures.names

pub returns-in-Removed : goal.returns-in-Removed
returns-in-Removed c =
    takes_if c.add_key-in-Removed.result c.args.event.now c.get-in-Removed.result.now c.args.self.now c.add_key-in-Removed.new.self
    (λ class out. ap (misses class) c.in-Removed.is ∙ ap not (ap (λ (k : Key). class k) (sym c.get-in-Removed.ensures) ∙ out))
    c.add_key-in-Removed.ensures.all c.add_key-in-Removed.ensures.names
