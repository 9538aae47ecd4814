use Rattle.vap_read_objects.proofs.Gathering.{adds_none}
use Rattle.vap_read_objects.proofs.lists.add_binding.Goals as goal

pub returns-in-Policy : goal.returns-in-Policy
returns-in-Policy c = rw c.in-Policy.is (adds_none c.args.bindings.now.items)

pub returns-in-Other : goal.returns-in-Other
returns-in-Other c = rw c.in-Other.is (adds_none c.args.bindings.now.items)
