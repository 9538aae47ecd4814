use Rattle.std.proofs.Common.{Option, Some, sym, ap, subst, ◌∙◌}
use Rattle.vap_read.specs.declared.policy.PolicySpec.{PolicySpec}
use Rattle.vap_read_objects.specs.Fitted.{Fitted}
use Rattle.vap_policy_set.specs.Sets.{params_in}
use Rattle.vap_policy.specs.Ready.{CanRun, types_of}
use Rattle.vap_policy.specs.Shown.{case_of}
use Rattle.vap_policy.proofs.Fitting.{can_run}
use Rattle.vap_policy.proofs.evaluations.Judging.binding.Goals as goal

pub params-requires : goal.params-requires
params-requires c =
    let case = case_of c.args.self.now.case.now in
    let same = c.params_of-params.ensures
    ∙ ap (λ (s : PolicySpec). params_in case.set s.param_kind) c.get-spec.ensures in (
      subst (λ (q : Option Fitted). CanRun case q (types_of case q) c.in-Some-Runs.programs) (sym same)
          (can_run case c.args.policy.now c.in-Some-Runs.programs (sym c.in-Some-Runs.ensures ∙ ap Some c.in-Some-Runs.field-0-is)
          c.requires.case.held c.requires.ready),
      c.requires.budget,
    )
