use Rattle.std.proofs.Common.{◌≡◌, ◌∙◌, sym, ap, subst}
use Rattle.std.specs.Prelude.{IfOk, Ok}
use Rattle.vap_policy_programs.specs.Scopes.{source}
use Rattle.vap_policy_programs.specs.Wanted.{as_wanted, compiled_as}
use Rattle.cel_expression.specs.Expressions.{root_type, typed_of}
use Rattle.vap_policy_programs.proofs.Typed.{type_is}
use Rattle.vap_policy_programs.proofs.wanted.compile_as.Goals as goal

pub returns-in-Ok-clause-compiled : goal.returns-in-Ok-clause-compiled
unfolding compiled_as
returns-in-Ok-clause-compiled c =
    let s = source c.args.choice.now c.args.names.now c.args.text.now in
    let found = sym c.in_ok-compiled.ensures.compiled ∙ c.in-Ok.is in
    c.of_wanted_type.ensures.typed
    ∙ ap (λ t. as_wanted c.args.wanted t (Ok c.in-Ok.compiled)) (sym (type_is s c.in-Ok.compiled found))
    ∙ ap (λ r. as_wanted c.args.wanted (root_type (typed_of s)) r) (sym found)

pub returns-in-Ok-clause-itself : goal.returns-in-Ok-clause-itself
returns-in-Ok-clause-itself c =
    let s = source c.args.choice.now c.args.names.now c.args.text.now in
    let same : c.in-Ok.compiled ≡ s = rw c.in-Ok.is at c.in_ok-compiled.ensures.itself in
    subst (λ z. IfOk c.of_wanted_type.result (λ x. x ≡ z)) same c.of_wanted_type.ensures.itself
