use Rattle.std.specs.Option.{option_copied}
use Rattle.vap_policy.specs.Ready.{types_of}
use Rattle.vap_policy.specs.Shown.{case_of}
use Rattle.vap_policy.proofs.evaluations.Judging.binding.Given as goal

abbrev pub ghost-params : goal.ghost-params
ghost-params a = types_of (case_of a.self.now.case.now) (option_copied a.params)
