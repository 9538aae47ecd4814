use Rattle.std.proofs.Common.{ap, sym, lit<}
use Rattle.std.proofs.lemmas.Str.Pattern.{strip_prefix_char}
use Rattle.vap_read_objects.specs.Naming.{spelled}
use Rattle.vap_read_objects.proofs.Slashes.{spelled_same}
use Rattle.vap_read_objects.proofs.naming.spelled.Goals as goal

pub returns-in-Some : goal.returns-in-Some
returns-in-Some c =
    let cut = strip_prefix_char 47 c.args.api_version.now _ c.strip_prefix.ensures.cases (lit< tt) in
    let is = rw c.in-Some.is at cut in
    sym (ap spelled is)

pub returns-in-None : goal.returns-in-None
returns-in-None c =
    let cut = strip_prefix_char 47 c.args.api_version.now _ c.strip_prefix.ensures.cases (lit< tt) in
    let not = rw c.in-None.is at cut in
    sym (spelled_same c.args.api_version.now not)
