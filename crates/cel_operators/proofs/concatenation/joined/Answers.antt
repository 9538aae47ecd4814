use Rattle.std.proofs.Common.{◌≡◌, ◌-◌, ◌++◌, length, take, drop, get_or, Some, sym, ap, ◌∙◌, string_bytes}
use Rattle.std.specs.Option.{option_copied}
use Rattle.cel_operators.specs.Joined.{text_of}
use Rattle.cel_operators.proofs.Joins.{more, more_step, more_end, joined_opened, joined_length}
use Rattle.cel_operators.proofs.concatenation.joined.Goals as goal

pub loop-part-preserved : goal.loop-part-preserved
loop-part-preserved c =
    let rest = take (length c.args.parts.now - 1) (drop 1 c.args.parts.now) in
    let text : text_of (get_or rest c.loop-part.part-index c.part-item.result) ≡ Some c.in-Some-text_in.part.now =
    ap text_of (sym c.part-item.is) ∙ sym c.text_in-in-loop-part.ensures ∙ ap option_copied c.in-Some-text_in.is in
    more_step c.args.separator.now (string_bytes c.loop-part.text) _ c.in-Some-text_in.part.now rest c.loop-part.part-index
    c.part-item.result
    c.loop-part-test.true text (c.in_ok-push_str-2.ensures.bytes ∙ ap (λ l. l ++ c.in-Some-text_in.part.now) c.in_ok-push_str.ensures.bytes)
    ∙ c.loop-part.invariant

pub returns-clause-exact : goal.returns-clause-exact
returns-clause-exact c =
    let parts = c.args.parts.now in
    let separator = c.args.separator.now in
    let rest = take (length parts - 1) (drop 1 parts) in
    let text : text_of (get_or parts 0 c.first-item.result) ≡ Some c.in-Some.first.now =
    ap text_of (sym c.first-item.is) ∙ sym c.text_in.ensures ∙ ap option_copied c.in-Some.is in
    ap Some c.from_string-2.ensures ∙ sym
    (more_end separator (string_bytes c.loop-part.text) rest c.loop-part.part-index c.loop-part-test.false)
    ∙ c.loop-part.invariant ∙ ap (λ l. more separator l rest) c.in_ok-text.ensures.ok
    ∙ sym (joined_opened separator c.in-Some.first.now parts c.first-item.result c.in-len1-up.len_at_least text)

pub returns-clause-length : goal.returns-clause-length
returns-clause-length c = joined_length c.args.separator.now c.args.parts.now c.from_string-2.result (sym (returns-clause-exact c))
