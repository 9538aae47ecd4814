use Rattle.std.proofs.Common.{◌++◌, List, ℕ, sym, ap, ◌∙◌, subst, arith}
use Rattle.vap_cli_lines.specs.LineQueues.{AreWhole, Queued, text_of}
use Rattle.vap_cli_lines.proofs.LineQueues.{more_text, more_whole}
use Rattle.vap_cli_lines.proofs.line_queue.pending_lines.Goals as goal

pub loop-lines-preserved : goal.loop-lines-preserved
loop-lines-preserved c =
    let l = c.loop-lines in
    let log = c.args.snapshot.now in
    let taken = rw c.in-Some.is at c.in_ok-line.ensures.taken in
    let line = c.in-Some.line in
    let left = c.pending_line.new.reader.bytes in
    record {
      whole = subst (AreWhole log) (sym c.in_ok-push.ensures.items) (more_whole log l.lines.items line l.invariant.whole taken.0);
      text =
          l.invariant.text
          ∙ ap (λ (bytes : List ℕ). text_of l.lines.items ++ bytes) taken.1
          ∙ sym (more_text l.lines.items line left)
          ∙ ap (λ (lines : List Queued). text_of lines ++ left) (sym c.in_ok-push.ensures.items);
      reads = c.in_ok-line.ensures.reads ∙ l.invariant.reads;
      no_more = omega (arith, c.in_ok-line.ensures.no_more, l.invariant.no_more);
    }
