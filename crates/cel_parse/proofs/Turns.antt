-- One turn of the loops over operators and over what goes on a member, and what follows a sign.
use Rattle.std.proofs.Common.{◌≡◌, ℕ, suc, ◌+◌, ◌-◌, ◌<◌, ◌≤◌, List, Option, Some}
use Rattle.std.proofs.Common.{None, Result, Ok, Err, sym, ap, subst, ◌∙◌, arith}
use Rattle.cel_lex.specs.declared.token.Token.{Token}
use Rattle.cel_parse.specs.declared.fault.ParseFault.{ParseFault}
use Rattle.cel_parse.specs.declared.fault.ParseFault.TheVariants.{TooDeep}
use Rattle.base_containers.specs.declared.failed.Failed.{Failed}
use Rattle.base_containers.specs.declared.failed.Failed.TheVariants as failed
use Rattle.cel_parse.specs.declared.tree.Tree.{Tree}
use Rattle.cel_value.specs.declared.expr.UnaryOperator.TheVariants.{Not}
use Rattle.cel_parse.specs.declared.nodes.Taken.{Taken}
use Rattle.cel_parse.specs.Views.{seen, Fails, Gives}
use Rattle.cel_parse.specs.Descent.{◌>>=◌, Found, Read, Reader, head_if, is_bang, is_minus}
use Rattle.cel_parse.specs.Descent.{if_at, more, member, wrapped, nots_at, minuses_at, unary_at}

module _ {A : Type 0} (ask : List Token → Option A) (act : A → Found Tree → Read) (t : ℕ) (left : Found Tree) (total : Read) (lt : t < 100)
    (kept : more ask act (100 - t) left ≡ total) where
  next : Option A → Read
  next o = if_at o (Ok left) (λ x. act x left >>= more ask act (100 - (t + 1)))

  unrolled : next (ask left.rest) ≡ total
  unfolding next more
  unrolled =
      let e : 100 - t ≡ suc (100 - (t + 1)) = omega arith in
      sym (ap (λ k. more ask act k left) e) ∙ kept

  at_next : (o : Option A) → o ≡ ask left.rest → total ≡ next o
  at_next o h = sym (ap next h ∙ unrolled)

  pub loop_ends : None ≡ ask left.rest → total ≡ Ok left
  unfolding next
  loop_ends h = at_next None h

  module _ (x : A) (h : Some x ≡ ask left.rest) where
    after_act : (r : Read) → act x left ≡ r → total ≡ (r >>= more ask act (100 - (t + 1)))
    unfolding next
    after_act r q = at_next (Some x) h ∙ ap (λ (o : Read). o >>= more ask act (100 - (t + 1))) q

    pub act_fails : (e : Failed ParseFault) → Fails e (act x left) → Fails e total
    act_fails failed.OutOfMemory q = tt
    act_fails (failed.Fault f) q = after_act (Err f) q

    pub loop_goes_on : (both : Found Tree) → act x left ≡ Ok both → more ask act (100 - (t + 1)) both ≡ total
    loop_goes_on both q = sym (after_act (Ok both) q)

-- no turn is left
pub out_of_turns : {A : Type 0} (ask : List Token → Option A) (act : A → Found Tree → Read) (t : ℕ) (left : Found Tree)
    (total : Read) → 100 ≤ t → more ask act (100 - t) left ≡ total → total ≡ Err TooDeep
unfolding more
out_of_turns ask act t left total le kept =
    let e : 100 - t ≡ 0 = omega arith in
    sym kept ∙ ap (λ k. more ask act k left) e

-- a sign "!" comes first
pub nots_give : (inner : Reader) (source : List ℕ) (brackets : ℕ) (ts : List Token) (x : ℕ × List Token)
    (r : Result (Taken Tree) (Failed ParseFault)) → Some x ≡ head_if is_bang ts
    → Gives seen r (nots_at inner source brackets 100 x.1 >>= wrapped x.0 Not) → Gives seen r (unary_at inner source brackets ts)
unfolding unary_at
nots_give inner source brackets ts x r h g =
    subst
    (λ (o : Option (ℕ × List Token)). Gives seen r
    (if_at o (if_at (head_if is_minus ts) (member inner source brackets ts) (λ x. minuses_at inner source brackets 100 x.0 x.1))
    (λ x. nots_at inner source brackets 100 x.1 >>= wrapped x.0 Not)))
    h g
