use Rattle.std.proofs.Common.{◌∙◌}
use Rattle.regex_meta.proofs.LeftmostLemmas.{are_bytes}
use Rattle.cel_operators.proofs.built.Built.slowly.Goals as goal

pub returns : goal.returns
returns c =
    let hay = c.args.text.now in
    c.is_match.ensures.found ∙ rw c.in_ok-matcher.ensures.pattern (c.args.self.now.answers hay (are_bytes hay c.type_inv.text))
