use Rattle.std.specs.Option.{option_copied}
use Rattle.vap_policy.specs.Shown.{case_of}
use Rattle.vap_policy.proofs.Fitting.{null_runs}
use Rattle.vap_policy.proofs.evaluations.Judging.params.Goals as goal

pub run-requires : goal.run-requires
run-requires g c =
    let ready = c.requires.0 in (
      ready.ready,
      (
        ready.within,
        (
          null_runs (case_of c.args.self.now.case.now) (option_copied c.args.params) g.types c.args.programs.now ready,
          c.requires.1,
        ),
      ),
    )
