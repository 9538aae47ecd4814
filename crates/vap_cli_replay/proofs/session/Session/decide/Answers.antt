use Rattle.std.proofs.Common.{◌≡◌, ℕ, ◌++◌, List, Some, length, sym, ap, ◌∙◌, append-nil}
use Rattle.std.specs.Prelude.{slice_get}
use Rattle.vap_audit.specs.declared.entry.Entry.{Entry}
use Rattle.vap_cli_replay.specs.Replay.{answer_line, entry_of}
use Rattle.vap_cli_replay.proofs.Groups.{last_entry}
use Rattle.vap_cli_replay.proofs.session.Session.decide.Goals as goal

pub returns-clause-text : goal.returns-clause-text
returns-clause-text c =
    let old : List Entry = c.args.self.now.history in
    let e : Entry = entry_of c.args.self.now.writer.published (length old) c.args.request in
    let at : slice_get c.record.new.self.history c.in_ok-number.number ≡ Some e =
    ap (λ (n : ℕ). slice_get c.record.new.self.history n) c.in_ok-number.ensures.number
    ∙ (ap (λ (es : List Entry). slice_get es (length old)) c.in_ok-number.ensures.decided.history ∙ last_entry old e) in
    c.in_ok-all.ensures.line e at ∙ ap (λ (l : List ℕ). c.args.text.items ++ l) (sym (append-nil (answer_line e)))
