use Rattle.std.proofs.Common.{refl, sym, ap, ◌∙◌}
use Rattle.vap_policy.specs.Adds.{progress_of}
use Rattle.vap_policy.specs.Judging.{at_none}
use Rattle.vap_policy.specs.Params.{is_param}
use Rattle.vap_policy.specs.Shown.{case_of, lent_place, rule_of}
use Rattle.vap_policy.proofs.Budget.{behind_none}
use Rattle.vap_policy.proofs.KeptParams.{there_are, there_are_none}
use Rattle.vap_policy.proofs.evaluations.Judging.selected.Goals as goal

pub returns-then-takes_one-clause-adds : goal.returns-then-takes_one-clause-adds
returns-then-takes_one-clause-adds g c =
    rw (
    there_are (case_of c.args.self.now.case.now) (rule_of c.args.rule.now) c.args.programs.now c.args.selection.now.params.now.cel_type
    c.args.selection.now.reference.now.parameter_not_found_action
    (is_param (lent_place c.args.selection.now.place) c.args.selection.now.reference.now) c.args.selection.now.params.now.objects
    (sym c.takes_one.ensures ∙ c.if-takes_one.true)
    ) c.each.ensures.adds

pub returns-in-Allow-clause-adds : goal.returns-in-Allow-clause-adds
returns-in-Allow-clause-adds g c =
    rw (
    there_are_none (case_of c.args.self.now.case.now) (rule_of c.args.rule.now) c.args.programs.now c.args.selection.now.params.now.cel_type
    c.args.selection.now.reference.now.parameter_not_found_action
    (is_param (lent_place c.args.selection.now.place) c.args.selection.now.reference.now) c.args.selection.now.params.now.objects
    (sym c.takes_one.ensures ∙ c.if-takes_one.false)
    ∙ ap (at_none (rule_of c.args.rule.now)) c.in-Allow.is
    ) (record {
      case = refl;
      progress = sym (behind_none (progress_of c.args.self.now));
      within = c.requires.1;
    })

pub returns-in-Deny-clause-adds : goal.returns-in-Deny-clause-adds
returns-in-Deny-clause-adds g c =
    rw (
    there_are_none (case_of c.args.self.now.case.now) (rule_of c.args.rule.now) c.args.programs.now c.args.selection.now.params.now.cel_type
    c.args.selection.now.reference.now.parameter_not_found_action
    (is_param (lent_place c.args.selection.now.place) c.args.selection.now.reference.now) c.args.selection.now.params.now.objects
    (sym c.takes_one.ensures ∙ c.if-takes_one.false)
    ∙ ap (at_none (rule_of c.args.rule.now)) c.in-Deny.is
    ) c.fail.ensures.adds

pub returns-then-takes_one-clause-pattern : goal.returns-then-takes_one-clause-pattern
returns-then-takes_one-clause-pattern g c =
    rw (
    there_are (case_of c.args.self.now.case.now) (rule_of c.args.rule.now) c.args.programs.now c.args.selection.now.params.now.cel_type
    c.args.selection.now.reference.now.parameter_not_found_action
    (is_param (lent_place c.args.selection.now.place) c.args.selection.now.reference.now) c.args.selection.now.params.now.objects
    (sym c.takes_one.ensures ∙ c.if-takes_one.true)
    ) c.each.ensures.pattern
