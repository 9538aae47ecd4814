use Rattle.std.proofs.Common.{◌≡◌, ◌∷◌, ◌++◌, [], nat_cmp, refl, ap, sym, ◌∙◌, subst, rules}
use Rattle.std.specs.List.Sorted.{IsStrictlySortedBy}
use Rattle.std.specs.Cmp.Lexicographic.{slice_cmp}
use Rattle.base_containers.specs.Gathered.{names_of}
use Rattle.base_containers.proofs.InOrder.{before_held, before_push, before_none, held_names, held_in_order, names_push, Held}
use Rattle.base_containers.proofs.contents.members_in_tree.Goals as goal

pub loop-name-init : goal.loop-name-init
loop-name-init c =
    let all : c.into_iter-name-iterator.result ≡ c.args.members.now.entries = search rules in
    let none = c.in_ok-found.ensures.items in record {
      exact = rw (all, none) refl;
      ordered = rw (all, none) (held_in_order c.args.members.now.entries c.iter-name-items.ensures.ordered);
    }

pub loop-name-preserved : goal.loop-name-preserved
loop-name-preserved c =
    let l = c.loop-name in
    let k = c.as_str.result in
    let e : Held = (c.in-Some.name.now, c.in-Some.member.now) in
    let next = c.next.new.self in
    let pushed = c.in_ok-push.ensures.items ∙ ap (λ d. l.found.items ++ (k, d) ∷ []) c.of_tree.ensures in record {
      exact = l.invariant.exact ∙ ap (before_held l.found.items) c.in-Some.ensures.steps
          ∙ before_push l.found.items k e next c.as_str.ensures.value ∙ ap (λ ms. before_held ms next) (sym pushed);
      ordered = subst (IsStrictlySortedBy (slice_cmp nat_cmp))
          (ap (λ es. names_of l.found.items ++ held_names es) c.in-Some.ensures.steps
          ∙ names_push l.found.items k e next c.as_str.ensures.value ∙ ap (λ ms. names_of ms ++ held_names next) (sym pushed))
          l.invariant.ordered;
    }

pub returns-clause-exact : goal.returns-clause-exact
returns-clause-exact c =
    let l = c.loop-name in
    sym (l.invariant.exact ∙ ap (before_held l.found.items) c.in-None.ensures.steps.0 ∙ before_none l.found.items)
