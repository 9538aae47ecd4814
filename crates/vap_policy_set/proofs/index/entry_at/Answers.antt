use Rattle.std.proofs.Common.{rules, of_calls}
use Rattle.std.proofs.lemmas.Fn.{always_returns_same}
use Rattle.vap_policy_set.specs.PlaceOrder.{place_cmp}
use Rattle.vap_policy_set.proofs.Entries.{found_none, found_some}
use Rattle.vap_policy_set.proofs.PlaceOrder.{place}
use Rattle.vap_policy_set.proofs.index.entry_at.Goals as goal

pub returns-in-Ok : goal.returns-in-Ok
returns-in-Ok c =
    let g = c.args.group.now in
    let s = c.args.resource.now in
    let equal = c.in-Ok.ensures.position (λ e. place_cmp e.place (place g s))
    (always_returns_same _ _ _ (λ a r f k. search (rules, of_calls))) in
    found_some g s c.args.entries.now c.in-Ok.at c.in-Ok.ensures.bound equal

pub returns-in-Err : goal.returns-in-Err
returns-in-Err c =
    let g = c.args.group.now in
    let s = c.args.resource.now in
    found_none g s c.args.entries.now c.in-Err.field-0 c.requires
    (c.in-Err.ensures.position (λ e. place_cmp e.place (place g s)) (always_returns_same _ _ _ (λ a r f k. search (rules, of_calls))))
