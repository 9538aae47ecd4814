-- If the program ends well, no fault is reported.
use Rattle.std.proofs.Common.{◌≡◌, List, [], ◌∷◌, refl, ap, sym, subst, ◌∙◌}
use Rattle.std.specs.Prelude.{Bool, true, false, ◌&&◌, if◌then◌else◌}
use Rattle.vap_cli.specs.declared.status.Status.{Status}
use Rattle.vap_cli.specs.declared.status.Status.TheVariants.{Done, Fault}
use Rattle.vap_policy_set.specs.declared.bound.BoundPolicy.{BoundPolicy}
use Rattle.vap_policy_set.specs.declared.report.Misconfigured.{Misconfigured}
use Rattle.vap_policy_set.specs.Sets.{IsReport}
use Rattle.vap_cli_report.specs.Reports.{is_none, told}
use Rattle.vap_cli_report.specs.declared.outcome.Refused.{Refused}

-- if the program ends well by the refusals and by whatever else is asked, there is no refusal
none_by : (rs : List Refused) (b : Bool) → (if is_none rs && b then Done else Fault) ≡ Done → told rs ≡ []
none_by [] b e = refl
none_by (r ∷ rs) b e = absurd (let no : Fault ≡ Done = e in cc)

pub clean : (ps : List BoundPolicy) (rs : List Refused) (b : Bool) (status : Status)
    → status ≡ (if is_none rs && b then Done else Fault) → IsReport ps (told rs) → status ≡ Done → IsReport ps []
clean ps rs b status is report done = subst (IsReport ps) (none_by rs b (sym is ∙ done)) report
