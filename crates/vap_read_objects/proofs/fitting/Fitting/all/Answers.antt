use Rattle.std.proofs.Common.{◌≡◌, rules}
use Rattle.vap_read_objects.specs.Fitted.{entries_of}
use Rattle.vap_read_objects.proofs.Placed.{few_of_kind}
use Rattle.vap_read_objects.proofs.fitting.Fitting.all.Goals as goal
use Rattle.vap_read_objects.specs.Tables.{entries_in}

pub returns-clause-few : goal.returns-clause-few
returns-clause-few c =
    let kind = c.args.self.now.kind.now in
    let objects = c.args.self.now.objects.now in
    let whole : entries_in c.in_ok-from_entries.field-0 ≡ entries_of kind objects = search rules in
    few_of_kind kind objects c.in_ok-from_entries.field-0 c.len-count.ensures.within whole
