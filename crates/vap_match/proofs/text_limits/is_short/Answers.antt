use Rattle.std.proofs.Common.{◌≡◌, ◌≤◌, ◌∙◌, length, rules, ap, sym, arith, le-leb}
use Rattle.std.specs.Prelude.{nat_le}
use Rattle.std.proofs.lemmas.Str.{chars_from_encodes, encodes-chars, length-le-encodes}
use Rattle.std.specs.Str.{chars}
use Rattle.vap_match.proofs.text_limits.is_short.Goals as goal

-- a text has no more code points than bytes
pub returns-then-text-limit : goal.returns-then-text-limit
returns-then-text-limit c =
    let text = c.args.text.now in
    let fewer : length (chars text) ≤ c.args.limit =
    omega (arith, c.if-text-limit.true, length-le-encodes (chars text), ap length (encodes-chars text c.utf8.text)) in
    le-leb (length text) c.args.limit c.if-text-limit.true ∙ sym (le-leb (length (chars text)) c.args.limit fewer)

pub returns-else-text-limit : goal.returns-else-text-limit
returns-else-text-limit c =
    let count : c.count.result ≡ length (chars c.args.text.now) = search (rules, chars_from_encodes) in
    ap (λ n. nat_le n c.args.limit) count
