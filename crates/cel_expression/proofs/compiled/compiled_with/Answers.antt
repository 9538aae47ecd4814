use Rattle.std.proofs.Common.{rules, sym, subst, ap, ◌∙◌}
use Rattle.cel_check.specs.Typing.{types_in}
use Rattle.cel_expression.specs.Compiled.{IsCompiled as IsImageOf}
use Rattle.cel_expression.specs.Correct.{Computes, Preserves}
use Rattle.cel_expression.specs.Stages.{Bounds}
use Rattle.cel_expression.proofs.compiled.compiled_with.Goals as goal

pub invariant_of-result : goal.invariant_of-result
invariant_of-result c =
    let accepted = c.args.accepted.now in
    let rated = c.requires.rated in
    let names = ap types_in (sym c.in_ok-share-2.ensures) in
    record {
      tree = accepted.typed.tree;
      is = search rules;
      type = search rules;
      estimate = rated.estimate;
      within = rated.within;
      slots = search rules;
      image = subst (λ types. IsImageOf c.in_ok-program.program accepted.typed.tree types) (rated.slots ∙ names)
          (subst (λ p. IsImageOf p accepted.typed.tree accepted.typed.slots) (sym c.in_ok-program.ensures) c.requires.image);
      computes = subst (λ p. Computes p accepted.typed.tree) (sym c.in_ok-program.ensures) c.requires.computes;
      preserves = subst (λ types. Preserves types accepted.typed.tree) (rated.slots ∙ names) c.requires.preserves;
      bounds = subst (λ types. Bounds types accepted.typed.tree accepted.estimate) names rated.bounds;
    }
