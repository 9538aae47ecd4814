use Rattle.std.proofs.Common.{subst, rules}
use Rattle.std.specs.Prelude.{All, IfOk}
use Rattle.cel_value.specs.Fits.{HasItsField}
use Rattle.vap_schema.specs.Paths.{path_text}
use Rattle.vap_schema.proofs.Fitted.{object_fits}
use Rattle.vap_schema.proofs.values.complete.Goals as goal

pub returns-clause-fits : goal.returns-clause-fits
returns-clause-fits c = λ all.
    object_fits c.args.fields.now (path_text c.args.path.now) c.in_ok-entries.entries c.in_ok-check_all_there.field-0
    c.as_slice-2.ensures.ordered c.as_slice.ensures.ordered
    (subst (λ r. IfOk r (All (HasItsField c.args.fields.now))) c.in_ok-entries.was all)
    (rw (c.as_slice.ensures.entries, c.as_slice-2.ensures.entries) at c.in_ok-check_all_there.ensures)

pub returns-in_err-check_all_there-clause-exact : goal.returns-in_err-check_all_there-clause-exact
returns-in_err-check_all_there-clause-exact c = search rules

pub returns-clause-exact : goal.returns-clause-exact
returns-clause-exact c = search rules
