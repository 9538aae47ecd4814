use Rattle.std.proofs.Common.{◌≡◌, IfOk, rules}
use Rattle.vap_read_objects.specs.Listed.{bindings_among, bindings_in}
use Rattle.vap_read_objects.proofs.ByName.{each_by_name}
use Rattle.vap_read_objects.proofs.objects.Objects.bindings.Goals as goal

pub returns-clause-by_name : goal.returns-clause-by_name
returns-clause-by_name c =
    let is : IfOk c.bindings_in.result (λ list. list ≡ bindings_in c.args.self.now.objects) = search rules in
    each_by_name c.bindings_in.result (bindings_among c.args.self.now.objects) is
