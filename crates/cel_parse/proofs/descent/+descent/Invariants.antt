use Rattle.std.proofs.Common.{◌≡◌, ◌+◌, ◌-◌, ◌*◌, ◌<◌}
use Rattle.cel_parse.specs.declared.heads.Closer.TheVariants as closer
use Rattle.cel_parse.specs.Views.{seen}
use Rattle.cel_parse.specs.Descent.{suffix_at, operator_at, go_on_member, join, more, member}
use Rattle.cel_parse.specs.Descent.{operators, expression, items, entry, entries, items_from}
use Rattle.cel_parse.proofs.Rows.{with_front}
use Rattle.cel_parse.proofs.descent.+descent.Given as goal

-- within one bracket: a conditional, its operators by level, a sign, a member, what goes on it, and what comes first
abbrev pub decreases-read_expression : goal.decreases-read_expression
decreases-read_expression l = 1000 * l.brackets

abbrev pub decreases-read_conditional : goal.decreases-read_conditional
decreases-read_conditional l = 1000 * l.brackets + 500 + l.turns

abbrev pub decreases-read_operators : goal.decreases-read_operators
decreases-read_operators l = 1000 * l.brackets + 300 + l.level

abbrev pub decreases-read_unary : goal.decreases-read_unary
decreases-read_unary l = 1000 * l.brackets + 200

abbrev pub decreases-read_nots : goal.decreases-read_nots
decreases-read_nots l = 1000 * l.brackets + 50 + l.turns

abbrev pub decreases-read_minuses : goal.decreases-read_minuses
decreases-read_minuses l = 1000 * l.brackets + 50 + l.turns

abbrev pub decreases-read_member : goal.decreases-read_member
decreases-read_member l = 1000 * l.brackets + 20

abbrev pub decreases-read_suffix : goal.decreases-read_suffix
decreases-read_suffix l = 1000 * l.brackets + 10

abbrev pub decreases-read_primary : goal.decreases-read_primary
decreases-read_primary l = 1000 * l.brackets + 10

abbrev pub decreases-read_items : goal.decreases-read_items
decreases-read_items l = 1000 * l.brackets + 2

abbrev pub decreases-read_entries : goal.decreases-read_entries
decreases-read_entries l = 1000 * l.brackets + 2

abbrev pub decreases-read_entry : goal.decreases-read_entry
decreases-read_entry l = 1000 * l.brackets + 1

-- what the loops give from here is the answer
abbrev pub invariant-read_operators-loop-turn : goal.invariant-read_operators-loop-turn
invariant-read_operators-loop-turn l =
    (0 < l.level)
    × (more (operator_at l.level) (join (operators (expression l.source l.brackets) l.source l.brackets (l.level - 1))) (100 - l._turn)
    (seen l.left) ≡ operators (expression l.source l.brackets) l.source l.brackets l.level l.tokens)

abbrev pub invariant-read_member-loop-turn : goal.invariant-read_member-loop-turn
invariant-read_member-loop-turn l =
    more suffix_at (go_on_member (expression l.source l.brackets) l.source l.brackets) (100 - l._turn) (seen l.left)
    ≡ member (expression l.source l.brackets) l.source l.brackets l.tokens

abbrev pub invariant-read_items-loop-turn : goal.invariant-read_items-loop-turn
invariant-read_items-loop-turn l =
    with_front l.items l.deepest (items_from l.source l.closer (expression l.source l.brackets) (16384 - l._turn) l.ahead)
    ≡ items (expression l.source l.brackets) l.source l.brackets l.closer l.tokens

abbrev pub invariant-read_entries-loop-turn : goal.invariant-read_entries-loop-turn
invariant-read_entries-loop-turn l =
    with_front l.entries l.deepest
    (items_from l.source closer.Brace (entry (expression l.source l.brackets) l.source) (16384 - l._turn) l.ahead) ≡ entries
    (expression l.source l.brackets) l.source l.brackets l.tokens
