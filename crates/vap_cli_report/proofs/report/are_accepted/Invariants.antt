use Rattle.std.proofs.Common.{◌≡◌, drop}
use Rattle.std.specs.List.{list_all}
use Rattle.vap_cli_report.specs.Reports.{is_accepted}
use Rattle.vap_cli_report.proofs.report.are_accepted.Given as goal

-- what is asked of all is what is asked of those that are left
abbrev pub invariant-loop-policy : goal.invariant-loop-policy
invariant-loop-policy l =
    list_all (λ e. is_accepted e.outcome) l.elsewhere ≡ list_all (λ e. is_accepted e.outcome) (drop l.policy-index l.elsewhere)
