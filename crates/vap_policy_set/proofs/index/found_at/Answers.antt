use Rattle.std.proofs.Common.{rules, ◌≡◌, ◌+◌, [], List, ap, map, take, sym, subst, ◌∙◌}
use Rattle.std.specs.List.{All}
use Rattle.std.proofs.lemmas.List.{length-map}
use Rattle.std.proofs.Common.{length}
use Rattle.vap_policy_set.specs.Index.{IsEntryOf, entry_places, with_policy}
use Rattle.vap_policy_set.specs.declared.bound.BoundPolicy.{BoundPolicy}
use Rattle.vap_policy_set.specs.declared.index.Entry.{Entry}
use Rattle.vap_policy_set.proofs.Entries.{cut_before, empty_places, empty_right, for_places, next_right, places_kept, wide_next, written}
use Rattle.vap_policy_set.proofs.Indexed.{read_at}
use Rattle.vap_policy_set.proofs.index.found_at.Goals as goal

-- no policy so far
pub loop-policy-init : goal.loop-policy-init
loop-policy-init c =
    let made = c.in_ok-entries.ensures in
    record {
      right = subst (All (IsEntryOf [])) (sym made) (empty_right c.args.places.now);
      places = ap (λ (es : List Entry). entry_places es) made ∙ empty_places c.args.places.now;
      wide = search rules;
    }

pub put_policy-requires-clause-read : goal.put_policy-requires-clause-read
put_policy-requires-clause-read c =
    read_at c.args.policies.now c.loop-policy.policy-index c.policy-item.result c.loop-policy-test.true c.policy-item.is c.requires.read

-- one policy more
pub loop-policy-preserved : goal.loop-policy-preserved
loop-policy-preserved c =
    let l = c.loop-policy in
    let p = c.policy-item.result in
    let ps = c.args.policies.now in
    let es = l.entries.items in
    let new : c.put_policy.new.entries ≡ map (with_policy p) es =
    c.in_ok-put_policy.ensures.entries ∙ ap (λ (xs : List Entry). map (with_policy p) xs) c.as_mut_slice.ensures.value in
    let whole =
    written l.entries.len c.put_policy.new.entries es (ap (λ (xs : List Entry). length xs) new ∙ length-map es (with_policy p))
    l.entries.ok.0
    ∙ new in
    record {
      right = subst (All (IsEntryOf (take (l.policy-index + 1) ps))) (sym whole)
          (
          subst (λ (qs : List BoundPolicy). All (IsEntryOf qs) (map (with_policy p) es))
          (sym (cut_before ps l.policy-index p c.loop-policy-test.true c.policy-item.is))
          (next_right (take l.policy-index ps) p es l.invariant.right)
          );
      places = ap (λ (xs : List Entry). entry_places xs) whole ∙ places_kept p es ∙ l.invariant.places;
      wide =
          wide_next ps l.policy-index p l.wide.items c.put_policy.new.wide.items c.loop-policy-test.true c.policy-item.is
          c.in_ok-put_policy.ensures.wide l.invariant.wide;
    }

pub returns-clause-named : goal.returns-clause-named
returns-clause-named c =
    for_places c.args.places.now c.from_vec.result
    (ap (λ (es : List Entry). entry_places es) c.from_vec.ensures ∙ c.loop-policy.invariant.places)
