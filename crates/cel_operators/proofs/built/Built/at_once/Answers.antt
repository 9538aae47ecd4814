use Rattle.std.proofs.Common.{arith, ◌<◌, ◌∙◌, ap, sym, is_some}
use Rattle.regex_meta.proofs.LeftmostLemmas.{are_bytes}
use Rattle.cel_operators.proofs.Alike.{said}
use Rattle.cel_operators.proofs.built.Built.at_once.Goals as goal

pub returns-in-At-clause-found : goal.returns-in-At-clause-found
returns-in-At-clause-found c =
    let h = c.args.self.now in
    let hay = c.args.text.now in
    let some : 0 < h.program.min_len = omega (arith, c.if-self-eq0.false) in
    sym (rw c.as_bytes-hay.ensures.value at c.in-At.ensures.end.0) ∙ said h hay (are_bytes hay c.type_inv.text) some

pub returns-in-NoMatch-clause-found : goal.returns-in-NoMatch-clause-found
returns-in-NoMatch-clause-found c =
    let h = c.args.self.now in
    let hay = c.args.text.now in
    let some : 0 < h.program.min_len = omega (arith, c.if-self-eq0.false) in
    sym (rw c.as_bytes-hay.ensures.value at (ap is_some c.in-NoMatch.ensures.end)) ∙ said h hay (are_bytes hay c.type_inv.text) some
