use Rattle.std.proofs.Common.{Some, None, ap, get_or, subst}
use Rattle.vap_policy_set.specs.Index.{IsFoundAt}
use Rattle.vap_policy_set.specs.declared.index.Entry.{Entry}
use Rattle.vap_policy_set.proofs.Entries.{put_nowhere, put_where}
use Rattle.vap_policy_set.proofs.index.put_at.Goals as goal

pub returns-in-Some : goal.returns-in-Some
returns-in-Some c =
    let k = c.args.place.now in
    let es = c.args.entries.now in
    let found =
    subst (λ s. IsFoundAt k.group s es (Some c.in-Some.at)) c.as_str-2.ensures
    (subst (λ g. IsFoundAt g c.as_str-2.result.now es (Some c.in-Some.at)) c.as_str.ensures c.in-Some.ensures) in
    put_where c.put_behind.result c.args.policy.now k es c.in-Some.at (get_or es c.in-Some.at c.index-entries-at.result)
    c.put_behind.new.entry (ap (λ (e : Entry). get_or es c.in-Some.at e) c.index-entries-at.is) found c.requires.apart
    c.put_behind.ensures

pub returns-in-None : goal.returns-in-None
returns-in-None c =
    let k = c.args.place.now in
    let es = c.args.entries.now in
    let found =
    subst (λ s. IsFoundAt k.group s es None) c.as_str-2.ensures
    (subst (λ g. IsFoundAt g c.as_str-2.result.now es None) c.as_str.ensures c.in-None.ensures) in
    put_nowhere c.args.policy.now k es found
