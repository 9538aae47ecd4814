use Rattle.std.proofs.Common.{◌≡◌, IfOk, rules}
use Rattle.vap_read_objects.specs.OfKind.{namespaces_in}
use Rattle.vap_read_objects.proofs.Classed.{each_namespace}
use Rattle.vap_read_objects.proofs.objects.Objects.namespaces.Goals as goal

pub returns-clause-each : goal.returns-clause-each
returns-clause-each c =
    let is : IfOk c.namespaces_in.result (λ found. found ≡ namespaces_in c.args.self.now.objects) = search rules in
    each_namespace c.namespaces_in.result c.args.self.now.objects is
