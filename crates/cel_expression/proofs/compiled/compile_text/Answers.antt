use Rattle.std.proofs.Common.{◌≡◌, rules, ap, subst}
use Rattle.std.specs.Prelude.{Err}
use Rattle.cel_check.specs.Typing.{types_in}
use Rattle.base_containers.specs.declared.failed.Failed.TheVariants.{Fault}
use Rattle.cel_expression.specs.declared.refusal.CompileFault.TheVariants.{Unverified}
use Rattle.cel_expression.specs.Expressions.{accepted_of}
use Rattle.cel_expression.specs.Faulty.{IsFaulty}
use Rattle.cel_expression.specs.Source.{Source}
use Rattle.cel_expression.specs.Stages.{IsRated}
use Rattle.cel_expression.proofs.compiled.compile_text.Goals as goal

pub returns-clause-unverified : goal.returns-clause-unverified
returns-clause-unverified c =
    λ at is.
    let tree = c.in-Ok.accepted.typed.tree in
    let source : Source = record { choice = c.args.choice.now; names = c.args.names.now; text = c.args.text.now } in
    let rated : IsRated (types_in c.args.names.now) (accepted_of source) c.in-Ok.accepted = search rules in
    let same : c.in-Err-compiled_by.error ≡ Fault (Unverified at) = cc in
    record {
      tree = tree;
      is = rated.tree;
      faulty = subst (λ types. IsFaulty tree types at) rated.slots (c.in-Err-compiled_by.ensures.unverified at (ap Err same));
    }
