use Rattle.std.proofs.Common.{◌≡◌, ◌++◌, drop}
use Rattle.vap_cli_report.specs.Reports.{told}
use Rattle.vap_cli_report.proofs.found.causes_of.Given as goal

-- what is reported so far, and the items that are left, are the report
abbrev pub invariant-loop-item : goal.invariant-loop-item
invariant-loop-item l = told l.refused ++ drop l.item-index l.report ≡ l.report
