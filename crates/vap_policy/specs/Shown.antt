-- What the code holds, as the definitions see it.
use Rattle.std.specs.Prelude.{Option, option_map}
use Rattle.std.specs.Option.{option_copied}
use Rattle.vap_policy.specs.Evaluations.{Findings, Rule}
use Rattle.vap_policy.specs.Judging.{Case}
use Rattle.vap_policy.specs.Params.{Place, Cluster, Namespace}
use Rattle.vap_policy.specs.declared.case.Case.{Case as LentCase}
use Rattle.vap_policy.specs.declared.findings.Findings.{Findings as Gathered}
use Rattle.vap_policy.specs.declared.findings.Rule.{Rule as LentRule}
use Rattle.vap_policy.specs.declared.params.Place.{Place as LentPlace}
use Rattle.vap_policy.specs.declared.params.Place.TheVariants as lent

-- what is found, as lists
abbrev pub findings_of : Gathered → Findings
findings_of g = record { failures = g.failures.items; notes = g.notes.items; charged = g.charged }

-- a rule, whose names are lent
abbrev pub rule_of : LentRule → Rule
rule_of l = record { policy = l.policy.now; binding = l.binding.now; actions = l.actions; failure_policy = l.failure_policy }

-- a place, whose namespace is lent
abbrev pub lent_place : LentPlace → Place
lent_place lent.Cluster = Cluster
lent_place (lent.Namespace namespace) = Namespace namespace.now

-- a place, if there is one
abbrev pub lent_place_of : Option LentPlace → Option Place
lent_place_of p = option_map lent_place p

-- a case, whose parts are lent
abbrev pub case_of : LentCase → Case
case_of l = record { set = l.set.now; request = l.request.now.request.now.admission; kind = option_copied l.kind; held = l.held.now }
