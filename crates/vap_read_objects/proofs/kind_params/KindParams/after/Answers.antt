use Rattle.std.proofs.Common.{List, sym, ap, ◌∙◌, subst}
use Rattle.vap_read_objects.specs.Fitted.{Fitted, entries_of, is_of_params, refitted}
use Rattle.vap_read_objects.specs.Reuse.{StandUnless}
use Rattle.vap_read_objects.specs.Seen.{Param}
use Rattle.vap_read_objects.proofs.Placed.{fitted_by}
use Rattle.vap_read_objects.proofs.kind_params.KindParams.after.Goals as goal
use Rattle.vap_read_objects.specs.Tables.{entries_in}

-- the params before the events
pub put_events-requires-clause-stand : goal.put_events-requires-clause-stand
put_events-requires-clause-stand c =
    let k = c.self.inside.kind in
    let objects = c.args.objects.now in
    let events = c.args.events.now in
    subst (λ (ps : List Param). StandUnless (is_of_params k) (entries_of k objects) events (entries_in ps)) (sym c.in_ok-params.ensures)
    (
    subst (λ (q : Fitted). StandUnless (is_of_params q.kind) (entries_of q.kind objects) events q.entries) (sym c.self.view_is)
    c.requires.each
    )

pub returns : goal.returns
returns c =
    let i = c.self.inside in
    let objects = c.args.objects.now in
    fitted_by objects i.kind c.in_ok-copied.field-0 i.namespaced i.cel_type c.in_ok-copy.field-0 c.put_events.new.params
    c.in_ok-copied.ensures c.in_ok-copy.ensures c.in_ok-put_events.ensures.entries
    ∙ ap (λ (q : Fitted). refitted objects q) c.self.view_is
