use Rattle.std.proofs.Common.{ap, ◌∙◌, drop}
use Rattle.base_containers.proofs.Taken.{slice_range-later}
use Rattle.base_containers.proofs.line_reader.LineReader.pass.Goals as goal

pub returns-clause-bytes : goal.returns-clause-bytes
returns-clause-bytes c =
    slice_range-later c.self.inside.chunk.items c.self.inside.at c.args.count c.self.inside.end
    (rw (ap (λ p. p.bytes) c.self.view_is) c.requires)
    ∙ ap (λ p. drop c.args.count p.bytes) c.self.view_is
