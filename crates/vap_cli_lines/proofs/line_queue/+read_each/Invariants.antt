use Rattle.std.proofs.Common.{◌+◌, ◌-◌, ◌*◌, length}
use Rattle.vap_cli_lines.proofs.line_queue.+read_each.Given as goal

abbrev pub decreases-read_each : goal.decreases-read_each
decreases-read_each g l = 4 * length l.lines.now

abbrev pub decreases-read_both : goal.decreases-read_both
decreases-read_both g l = 4 * (length l.first.now + length l.others.now) - 1

abbrev pub decreases-read_both-back : goal.decreases-read_both-back
decreases-read_both-back g l = 4 * length l.others.now + 1
