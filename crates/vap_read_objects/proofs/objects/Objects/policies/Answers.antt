use Rattle.std.proofs.Common.{◌≡◌, IfOk, rules}
use Rattle.vap_read_objects.specs.Listed.{policies_among, policies_in}
use Rattle.vap_read_objects.proofs.ByName.{each_by_name}
use Rattle.vap_read_objects.proofs.objects.Objects.policies.Goals as goal

pub returns-clause-by_name : goal.returns-clause-by_name
returns-clause-by_name c =
    let is : IfOk c.policies_in.result (λ list. list ≡ policies_in c.args.self.now.objects) = search rules in
    each_by_name c.policies_in.result (policies_among c.args.self.now.objects) is
