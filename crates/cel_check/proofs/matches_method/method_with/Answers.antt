use Rattle.std.proofs.Common.{◌≡◌, Bool, true, false, codes, sym, ◌∙◌, subst, if◌then◌else◌}
use Rattle.std.specs.Str.{bytes_eq}
use Rattle.base_containers.specs.Failures.{Answers}
use Rattle.cel_check.specs.Typing.{after, matched, over_two, method_overloads_with, refused_by}
use Rattle.cel_check.proofs.matches_method.method_with.Goals as goal

pub returns-then-eq : goal.returns-then-eq
returns-then-eq c =
    λ known answer.
    let is : bytes_eq c.args.name.now (codes "matches") ≡ true = sym c.eq.ensures ∙ c.if-eq.true in
    subst (λ (b : Bool). Answers (after known (λ t. if b then matched c.args.place (refused_by c.args.refusals.now) c.args.operand t
    else over_two c.args.place (method_overloads_with c.args.name.now) c.args.operand t)) c.matched.result)
    (sym is) (c.matched.ensures known answer)

pub returns : goal.returns
returns c =
    λ known answer.
    let is : bytes_eq c.args.name.now (codes "matches") ≡ false = sym c.eq.ensures ∙ c.if-eq.false in
    subst (λ (b : Bool). Answers (after known (λ t. if b then matched c.args.place (refused_by c.args.refusals.now) c.args.operand t
    else over_two c.args.place (method_overloads_with c.args.name.now) c.args.operand t)) c.binary.result)
    (sym is) (rw (sym c.method_overloads_with.ensures) (c.binary.ensures known answer))
