use Rattle.std.proofs.Common.{◌+◌, List, ℕ, [], ap, subst, ◌∙◌, arith}
use Rattle.std.specs.Io.KnownBytes.{Appends}
use Rattle.base_containers.specs.Counted.{failures_of, inner_of}
use Rattle.vap_cli_replay.proofs.Auditing.{audits_more, audits_on, audits_same}
use Rattle.vap_cli_replay.proofs.session.Session.write_audit.Goals as goal
use Rattle.vap_cli_replay.proofs.session.Session.write_audit.Goals.{then-len-ge-FULL_TEXT+in_ok-write_text, else-len-ge-FULL_TEXT}

pub loop-number-preserved : goal.loop-number-preserved
loop-number-preserved g c =
    let start = g.W.Write.contents (inner_of c.args.out.now) in
    let before = g.W.Write.contents (inner_of c.loop-number.out) in
    let entries = c.args.self.now.history in
    let number = c.loop-number.number in
    let text = c.in_ok-text.text.items in
    let more = audits_more start before entries number c.loop-number.text.items text (omega arith)
    (λ e at. c.in_ok-text.ensures.line e at) c.loop-number.invariant.written in
    let now = g.W.Write.contents (inner_of c.if-len-ge-FULL_TEXT.out) in
    let rest = c.if-len-ge-FULL_TEXT.text.items in
    elim c.if-len-ge-FULL_TEXT.branch [
      | then-len-ge-FULL_TEXT+in_ok-write_text w ↦ (
          let after = g.W.Write.contents (inner_of w.write_text.new.out) in
          record {
            written = audits_same start after now entries (number + 1) [] rest
                (ap (λ o. g.W.Write.contents (inner_of o)) w.out-is) (ap (λ t. t.items) w.text-is ∙ w.clear.ensures.items)
                (audits_on start before after entries (number + 1) text more
                (subst (λ (x : List ℕ). Appends before after x) w.as_slice.ensures.value w.in_ok-write_text.ensures.written));
            counted = ap (λ o. failures_of o) w.out-is ∙ (w.in_ok-write_text.ensures.counts.all ∙ c.loop-number.invariant.counted);
          })
      | else-len-ge-FULL_TEXT w ↦ record {
        written = audits_same start before now entries (number + 1) text rest (ap (λ o. g.W.Write.contents (inner_of o)) w.out-is)
            (ap (λ t. t.items) w.text-is) more;
        counted = ap (λ o. failures_of o) w.out-is ∙ c.loop-number.invariant.counted;
      }
    ]
