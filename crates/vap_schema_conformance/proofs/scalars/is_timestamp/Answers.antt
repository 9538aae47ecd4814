use Rattle.std.proofs.Common.{sym, ap, ◌∙◌, is_some}
use Rattle.vap_schema_conformance.proofs.Simple.{date_is_value, timestamp_is_value}
use Rattle.vap_schema_conformance.proofs.scalars.is_timestamp.Goals as goal

pub returns-then-is_some : goal.returns-then-is_some
returns-then-is_some c = λ spelled.
    timestamp_is_value c.args.document.now c.in-Some.text.now (sym c.in-Some.ensures)
    (ap is_some (sym c.read_timestamp.ensures) ∙ sym c.is_some.ensures ∙ spelled)

pub returns-else-is_some : goal.returns-else-is_some
returns-else-is_some c = λ spelled.
    date_is_value c.args.document.now c.in-Some.text.now (sym c.in-Some.ensures)
    (ap is_some (sym c.read_date.ensures) ∙ sym c.is_some-else-is_some.ensures ∙ spelled)
