use Rattle.std.specs.Prelude.{IsTrue}
use Rattle.std.proofs.Common.{◌⊎◌}
use Rattle.cel_value.specs.declared.value.Value.{Value}
use Rattle.cel_value.specs.Fits.{fits}
use Rattle.cel_value.specs.Greatest.{AllowsAsMuch}
use Rattle.cel_value.specs.Assignable.{assignable}
use Rattle.cel_value.proofs.JoinLaws.{admits_both, allows_as_much, by_rules, itself, of_join}
use Rattle.cel_value.proofs.common_types.join.Goals as goal

pub returns-clause-by_rules : goal.returns-clause-by_rules
returns-clause-by_rules c = by_rules c.args.left.now c.args.right.now _ c.join_or_share.ensures

pub returns-clause-takes_left : goal.returns-clause-takes_left
returns-clause-takes_left c =
    of_join (λ u. IsTrue (assignable c.args.left.now u)) c.args.left.now c.args.right.now _ (λ u h k. h) c.join_or_share.ensures

pub returns-clause-takes_right : goal.returns-clause-takes_right
returns-clause-takes_right c =
    of_join (λ u. IsTrue (assignable c.args.right.now u)) c.args.left.now c.args.right.now _ (λ u h k. k) c.join_or_share.ensures

pub returns-clause-admits_both : goal.returns-clause-admits_both
returns-clause-admits_both c =
    let s = c.args.left.now in
    let t = c.args.right.now in
    of_join (λ u. (v : Value) → IsTrue (fits v s) ⊎ IsTrue (fits v t) → IsTrue (fits v u)) s t _
    (admits_both s t) c.join_or_share.ensures

pub returns-clause-left_limits : goal.returns-clause-left_limits
returns-clause-left_limits c =
    of_join (AllowsAsMuch c.args.left.now) c.args.left.now c.args.right.now _
    (λ u h k. allows_as_much c.args.left.now u h) c.join_or_share.ensures

pub returns-clause-right_limits : goal.returns-clause-right_limits
returns-clause-right_limits c =
    of_join (AllowsAsMuch c.args.right.now) c.args.left.now c.args.right.now _
    (λ u h k. allows_as_much c.args.right.now u k) c.join_or_share.ensures

pub returns-clause-itself : goal.returns-clause-itself
returns-clause-itself c = λ e. itself c.args.left.now c.args.right.now _ e c.join_or_share.ensures
