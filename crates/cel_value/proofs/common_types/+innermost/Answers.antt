use Rattle.std.proofs.Common.{sym, subst}
use Rattle.cel_value.specs.Joining.{IsInside}
use Rattle.cel_value.proofs.Joins.{inside_Nullable, inside_other}
use Rattle.cel_value.proofs.common_types.+innermost.Goals as goal

pub returns-in-Nullable-clause-inside : goal.returns-in-Nullable-clause-inside
returns-in-Nullable-clause-inside t c =
    let inner = subst (λ u. IsInside u c.innermost.result.now) c.get.ensures c.innermost.ensures.inside in
    subst (λ u. IsInside u c.innermost.result.now) (sym c.in-Nullable.is)
    (inside_Nullable c.in-Nullable.inner c.innermost.result.now inner)

pub returns-in_default : goal.returns-in_default
returns-in_default t c = record { inside = inside_other c.args.cel_type.now c.in_default.not-Nullable; bare = c.in_default.not-Nullable }
