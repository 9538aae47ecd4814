use Rattle.std.proofs.Common.{refl}
use Rattle.vap_plane_steps.proofs.Taken.{published_from}
use Rattle.vap_plane_steps.proofs.world.World.publish.Goals as goal

pub returns-clause-after : goal.returns-clause-after
returns-clause-after c =
    published_from _ c.args.self.now _ c.publish.new.self c.publish.result c.self.view_is refl c.publish.ensures.all c.publish.ensures.err
