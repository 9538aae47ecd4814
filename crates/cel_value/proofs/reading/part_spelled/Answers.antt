use Rattle.std.proofs.Common.{ap, ◌∙◌, take}
use Rattle.std.specs.Str.{all_ascii_digits}
use Rattle.cel_value.proofs.Digits.{first_digits}
use Rattle.cel_value.proofs.reading.part_spelled.Goals as goal

pub whole_of-requires : goal.whole_of-requires
whole_of-requires c =
    ap all_ascii_digits (c.split_at.ensures.front ∙ ap (λ n. take n c.args.bytes.now) c.digits_in-count.ensures.exact)
    ∙ first_digits c.args.bytes.now
