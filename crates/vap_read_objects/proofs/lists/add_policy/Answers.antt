use Rattle.vap_read_objects.proofs.Gathering.{adds_none}
use Rattle.vap_read_objects.proofs.lists.add_policy.Goals as goal

pub returns-in-Binding : goal.returns-in-Binding
returns-in-Binding c = rw c.in-Binding.is (adds_none c.args.policies.now.items)

pub returns-in-Other : goal.returns-in-Other
returns-in-Other c = rw c.in-Other.is (adds_none c.args.policies.now.items)
