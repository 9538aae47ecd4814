use Rattle.std.proofs.Common.{rules}
use Rattle.std.specs.BTreeMap.{get_by_text}
use Rattle.cel_operators.specs.KeptPatterns.{texts_of}
use Rattle.cel_operators.proofs.Places.{named_here}
use Rattle.cel_operators.proofs.matchers.Matchers.place_of.Goals as goal

pub returns-in-Some-clause-place : goal.returns-in-Some-clause-place
returns-in-Some-clause-place c =
    named_here (texts_of c.args.self.now) (get_by_text c.args.self.now.places c.args.pattern.now) _ c.args.pattern.now (search rules)
    (c.args.self.now.named c.args.pattern.now)
