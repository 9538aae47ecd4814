use Rattle.std.proofs.Common.{List, sym, subst}
use Rattle.std.specs.List.{All}
use Rattle.vap_read_objects.specs.Seen.{IsSeenAt, Param}
use Rattle.vap_read_objects.proofs.Placed.{found_set}
use Rattle.vap_read_objects.proofs.fitting.Fitting.put_found.Goals as goal
use Rattle.vap_read_objects.proofs.Replaced.{all_set}

pub returns-clause-settles : goal.returns-clause-settles
returns-clause-settles c =
    let with = c.args.self.now in
    found_set with.kind.now with.objects.now c.args.key.now c.in_ok-param.param c.args.params.now c.set.new.self c.requires.kind
    c.in_ok-param.ensures.key c.in_ok-param.ensures.object c.set.ensures.before c.in_ok-set.ensures.set

pub returns-clause-seen : goal.returns-clause-seen
returns-clause-seen c =
    let t = c.args.self.now.cel_type.now in
    subst (λ (ps : List Param). All (IsSeenAt t) ps) (sym c.in_ok-set.ensures.set)
    (all_set (IsSeenAt t) c.args.key.now c.in_ok-param.param c.args.params.now c.in_ok-param.ensures.seen c.requires.seen)
