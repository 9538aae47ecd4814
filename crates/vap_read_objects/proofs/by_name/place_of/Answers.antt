use Rattle.std.proofs.Common.{◌-◌, length, sym, ap, ◌∙◌}
use Rattle.std.specs.Cmp.Lexicographic.{slice_cmp}
use Rattle.std.specs.Ordering.{is_lt, nat_cmp}
use Rattle.std.proofs.lemmas.Option.{get_or_from_slice_get}
use Rattle.vap_read_objects.proofs.ByName.{goes_last}
use Rattle.vap_read_objects.proofs.by_name.place_of.Goals as goal

-- the last is not above the name
pub returns-in-Some-clause-place : goal.returns-in-Some-clause-place
returns-in-Some-clause-place g c = λ sorted.
    let es = c.args.entries.now in
    let name = c.args.name.now in
    let below = sym c.is_above.ensures ∙ c.if-not-is_above.true in
    goes_last name es sorted (λ d some.
    ap (λ e. is_lt (slice_cmp nat_cmp name e.key))
    (get_or_from_slice_get es (length es - 1) c.in-Some.last.now d (sym c.in-Some.ensures.value))
    ∙ below)
