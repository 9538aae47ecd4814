use Rattle.cel_verify.specs.Paths.{charge_at}
use Rattle.cel_verify.proofs.Labels.{is_sound, walks}
use Rattle.cel_verify.proofs.Routes.{greatest_path}
use Rattle.cel_verify.proofs.Steps.{runs_within}
use Rattle.cel_verify.proofs.ToGo.{path_cost, path_steps}
use Rattle.cel_verify.proofs.program.verify.Goals as goal

pub returns-in-Ok-clause-walked : goal.returns-in-Ok-clause-walked
returns-in-Ok-clause-walked c = (walks c.args.image, is_sound c.args.image)

pub returns-in-Err-clause-walked : goal.returns-in-Err-clause-walked
returns-in-Err-clause-walked c = (walks c.args.image, is_sound c.args.image)

pub returns-in-Ok-clause-dearest : goal.returns-in-Ok-clause-dearest
returns-in-Ok-clause-dearest c =
    record {
      most = path_cost c.args.image;
      is = greatest_path c.args.image (walks c.args.image c.in-Ok.ensures.accepted.sound) (charge_at c.args.image);
    }

pub returns-in-Ok-clause-longest : goal.returns-in-Ok-clause-longest
returns-in-Ok-clause-longest c =
    record {
      most = path_steps c.args.image;
      is = greatest_path c.args.image (walks c.args.image c.in-Ok.ensures.accepted.sound) (λ _. 1);
    }

pub returns-in-Ok-clause-runs : goal.returns-in-Ok-clause-runs
returns-in-Ok-clause-runs c = λ slots fits. runs_within c.args.image slots (walks c.args.image c.in-Ok.ensures.accepted.sound) fits
