-- What a report says, and how the program ends after it.
use Rattle.std.specs.Prelude.{Bool, true, false, ◌&&◌, List, [], ◌∷◌, map, if◌then◌else◌}
use Rattle.std.specs.List.{list_all}
use Rattle.vap_cli.specs.declared.status.Status.{Status}
use Rattle.vap_cli.specs.declared.status.Status.TheVariants.{Done, Fault}
use Rattle.vap_policy_set.specs.declared.report.Misconfigured.{Misconfigured}
use Rattle.vap_cli_report.specs.declared.outcome.Elsewhere.{Elsewhere}
use Rattle.vap_cli_report.specs.declared.outcome.Outcome.{Outcome}
use Rattle.vap_cli_report.specs.declared.outcome.Outcome.TheVariants as outcome
use Rattle.vap_cli_report.specs.declared.outcome.Refused.{Refused}
use Rattle.vap_cli_report.specs.declared.report.Report.{Report}

-- where policies are misconfigured, by the refusals that are reported
abbrev pub told : List Refused → List Misconfigured
told rs = map (λ r. r.misconfigured) rs

-- whether there is none
abbrev pub is_none : {A : Type 0} → List A → Bool
is_none [] = true
is_none (x ∷ xs) = false

-- whether a policy is accepted
abbrev pub is_accepted : Outcome → Bool
is_accepted (outcome.Accepted charges) = true
is_accepted (outcome.Refused fault cause) = false

-- the program ends well if no policy is misconfigured at a known kind that it names, nor, if it names none, elsewhere
abbrev pub status_of : Report → Status
status_of r = if is_none r.refused && list_all (λ e. is_accepted e.outcome) r.elsewhere then Done else Fault
