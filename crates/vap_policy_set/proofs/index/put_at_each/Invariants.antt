use Rattle.std.proofs.Common.{◌≡◌, drop, map}
use Rattle.std.specs.List.Sorted.{IsStrictlySortedBy}
use Rattle.vap_policy_set.specs.Index.{AreApart, with_named}
use Rattle.vap_policy_set.specs.PlaceOrder.{place_cmp}
use Rattle.vap_policy_set.proofs.index.put_at_each.Given as goal

-- what is put so far, with what is put for the places that are left, is all
abbrev pub invariant-loop-place : goal.invariant-loop-place
invariant-loop-place l = record {
  rest : map (with_named (drop l.place-index l.places) l.policy) l.entries ≡ map (with_named l.places l.policy) l.initial.entries;
  ordered : IsStrictlySortedBy place_cmp (drop l.place-index l.places);
  apart : AreApart l.entries;
}
