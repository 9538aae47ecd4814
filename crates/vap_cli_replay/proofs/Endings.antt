-- The input is read to its end, and the audit is written.
use Rattle.std.proofs.Common.{◌≡◌, ◌≢◌, ℕ, Bool, true, false, List, [], ◌∷◌, ◌++◌, length, map, flat_map, take, drop, Option, None, Some}
use Rattle.std.proofs.Common.{Result, Ok, Err, refl, sym, ap, ◌∙◌, append-nil, append_assoc, arith}
use Rattle.std.specs.Prelude.{IfErr, IfSome, OnOk}
use Rattle.std.specs.Io.KnownBytes.{Appends, IsAtEnd, prepend_known}
use Rattle.std.proofs.Math.Seq.{take-append_seam, take-length}
use Rattle.std.proofs.lemmas.Bool.{le-leb}
use Rattle.std.proofs.lemmas.List.{map-append, take-append-drop}
use Rattle.base_containers.specs.Counted.{inner_of}
use Rattle.base_containers.specs.Lines.{lines_of}
use Rattle.base_containers.specs.declared.counted.Counted.{Counted}
use Rattle.vap_watch.specs.Places.{Written}
use Rattle.vap_audit.specs.declared.entry.Entry.{Entry}
use Rattle.vap_cli_replay.specs.Moves.{IsRead, Reaches, after_lines}
use Rattle.vap_cli_replay.specs.Replay.{Choices, Replayed, answer_line, answers_text, audit_line, audit_lines, audit_where, beginning}
use Rattle.vap_cli_replay.specs.Replay.{replayed, text_of, told_lines}
use Rattle.vap_cli_replay.specs.Sessions.{Answered, sofar_of, waiting_entries}
use Rattle.vap_cli_replay.specs.Streams.{Replays, Stops, are_all_lines}
use Rattle.vap_cli_replay.specs.declared.fault.ReplayError.{ReplayError}
use Rattle.vap_cli_replay.specs.declared.fault.ReplayError.TheVariants.{Write}
use Rattle.vap_cli_replay.specs.declared.session.Session.{Session}
use Rattle.vap_cli_replay.proofs.Choosing.{agrees_itself, choices_of}
use Rattle.vap_cli_replay.proofs.Groups.{answers_more}
use Rattle.vap_cli_replay.proofs.Texts.{appends_more, appends_same, told_text, told_audit, told_both}
use Rattle.vap_cli_replay.proofs.Reached.{accepting, so_far, reads_same, reached_answered, whole_of, none_waiting, reached_same}
use Rattle.vap_cli_replay.proofs.Waiting.{Taken}

-- after the last line all were taken
pub taken_all : (all left : Option (List ℕ)) (old new : Session) → Taken all left old → IsAtEnd left → sofar_of new ≡ sofar_of old
    → IfSome all (λ bytes. Reaches (lines_of bytes) new)
taken_all None left old new there done same = tt
taken_all (Some all) None old new there done same = absurd there
taken_all (Some all) (Some left) old new there done same =
    let whole : lines_of all ≡ there.front =
    there.split ∙ (ap (λ (l : List ℕ). there.front ++ lines_of l) done ∙ append-nil there.front) in
    reached_same (lines_of all) there.front new whole (reached_answered there.front old new there.reached same)

-- what is at its end with what is pending is at its end
pub rest_at_end : (pending : List ℕ) (rest : Option (List ℕ)) → IsAtEnd (prepend_known pending rest) → IsAtEnd rest
rest_at_end pending None done = tt
rest_at_end [] (Some left) done = done
rest_at_end (x ∷ pending) (Some left) done = cc

-- an answered group leaves how far the stream is replayed as it was
pub answered_same : (old new : Session) → Answered old new → sofar_of new ≡ sofar_of old
answered_same old new done =
    let none : (sofar_of new).entries ≡ new.history = none_waiting new done.none in
    ap (λ (n : ℕ). so_far n new.writer.published (sofar_of new).entries) done.lines
    ∙ (ap (λ (w : Written). so_far old.lines w.published (sofar_of new).entries) done.log
    ∙ ap (λ (es : List Entry). so_far old.lines old.writer.published es) (none ∙ done.entries))

-- the input is read to its end, and the last group is answered
pub read_last : {A E R W : Type 0} (r : Result A E) (remaining : R → Option (List ℕ)) (contents : W → Option (List ℕ))
    (input left : Counted R) (pending : List ℕ) (output before after : Counted W) (old new : Session)
    → Taken (remaining (inner_of input)) (prepend_known pending (remaining (inner_of left))) old
    → IsAtEnd (prepend_known pending (remaining (inner_of left)))
    → Appends (contents (inner_of output)) (contents (inner_of before)) (answers_text old.history) → OnOk r (Answered old new)
    → OnOk r (Appends (contents (inner_of before)) (contents (inner_of after)) (answers_text (waiting_entries old)))
    → OnOk r (IsRead remaining contents input output left after new)
read_last (Ok x) remaining contents input left pending output before after old new there done written answered more = record {
  at_end = rest_at_end pending (remaining (inner_of left)) done;
  whole =
      taken_all (remaining (inner_of input)) (prepend_known pending (remaining (inner_of left))) old new there done
      (answered_same old new answered);
  none = answered.none;
  written =
      appends_same (contents (inner_of output)) (contents (inner_of after)) (answers_text new.history)
      (answers_text old.history ++ answers_text (waiting_entries old))
      (ap (λ (es : List Entry). answers_text es) answered.entries ∙ answers_more old.history (waiting_entries old))
      (appends_more (contents (inner_of output)) (contents (inner_of before)) (contents (inner_of after)) (answers_text old.history)
      (answers_text (waiting_entries old)) written more);
}
read_last (Err e) remaining contents input left pending output before after old new there done written answered more = tt

text_whole : (audit : Bool) (entries : List Entry)
    → text_of audit (record { entries = entries; refusal = None }) ≡ answers_text entries ++ audit_where audit entries
text_whole true entries = refl
text_whole false entries = refl

replays_all : (audit : Bool) (all : List ℕ) (session : Session) (start done : Option (List ℕ)) → Reaches (lines_of all) session
    → session.group.items ≡ [] → Appends start done (answers_text session.history ++ audit_where audit session.history)
    → Replays audit all start done
replays_all audit all session start done there none written =
    let choices : Choices = choices_of session.writer.published in
    let taken : after_lines choices there.lines beginning ≡ Ok (sofar_of session) =
    there.taken choices (agrees_itself session.writer.published) in
    let told : replayed choices there.lines ≡ accepting session.history =
    whole_of choices there.lines session taken
    ∙ ap (λ (l : List Entry). accepting l) (none_waiting session none) in
    record {
      choices = choices;
      lines = there.lines;
      read = there.read;
      accepted = ap (λ (r : Replayed). r.refusal) told;
      written =
          appends_same start done (text_of audit (replayed choices there.lines))
          (answers_text session.history ++ audit_where audit session.history)
          (ap (λ (r : Replayed). text_of audit r) told ∙ text_whole audit session.history) written;
    }

-- after the answers come the first lines of the audit
first_audits : (n : ℕ) (entries : List Entry)
    → take (length (map answer_line entries ++ map audit_line (take n entries))) (told_lines true (accepting entries))
    ≡ map answer_line entries ++ map audit_line (take n entries)
first_audits n entries =
    let answers : List (List ℕ) = map answer_line entries in
    let front : List (List ℕ) = map audit_line (take n entries) in
    let rest : List (List ℕ) = map audit_line (drop n entries) in
    let split : map audit_line entries ≡ front ++ rest =
    ap (λ (l : List Entry). map audit_line l) (sym (take-append-drop n entries))
    ∙ map-append audit_line (take n entries) (drop n entries) in
    ap (λ (l : List (List ℕ)). take (length (answers ++ front)) (answers ++ l)) split
    ∙ ap (λ (l : List (List ℕ)). take (length (answers ++ front)) l) (sym (append_assoc answers front rest))
    ∙ take-append_seam (answers ++ front) rest

-- the replay stops in the audit
stopped_audit : (all : List ℕ) (session : Session) (n : ℕ) (start done : Option (List ℕ)) → Reaches (lines_of all) session
    → session.group.items ≡ [] → Appends start done (answers_text session.history ++ audit_lines (take n session.history))
    → Stops true all start done
stopped_audit all session n start done there none written =
    let choices : Choices = choices_of session.writer.published in
    let taken : after_lines choices there.lines beginning ≡ Ok (sofar_of session) =
    there.taken choices (agrees_itself session.writer.published) in
    let told : replayed choices there.lines ≡ accepting session.history =
    whole_of choices there.lines session taken
    ∙ ap (λ (l : List Entry). accepting l) (none_waiting session none) in
    let audits : List (List ℕ) = map audit_line (take n session.history) in
    let lines : List (List ℕ) = map answer_line session.history ++ audits in
    let audited : Bool = are_all_lines (length (lines_of all)) all in
    let first : take (length lines) (told_lines audited (replayed choices there.lines)) ≡ lines =
    ap (λ (r : Replayed). take (length lines) (told_lines audited r)) told
    ∙ ap (λ (b : Bool). take (length lines) (told_lines b (accepting session.history)))
    (le-leb (length (lines_of all)) (length (lines_of all)) (omega arith))
    ∙ first_audits n session.history in
    record {
      choices = choices;
      count = length (lines_of all);
      lines = there.lines;
      read = reads_same (take (length (lines_of all)) (lines_of all)) (lines_of all) there.lines (take-length (lines_of all)) there.read;
      told = length lines;
      written =
          appends_same start done
          (flat_map (λ line. line) (take (length lines) (told_lines audited (replayed choices there.lines))))
          (answers_text session.history ++ audit_lines (take n session.history))
          (ap (λ (l : List (List ℕ)). flat_map (λ line. line) l) first
          ∙ (told_both (map answer_line session.history) audits
          ∙ (ap (λ (l : List ℕ). l ++ flat_map (λ line. line) audits) (told_text session.history)
          ∙ ap (λ (l : List ℕ). answers_text session.history ++ l) (told_audit (take n session.history)))))
          written;
    }

-- all was written: the audit, if it is wanted, follows the answers
pub replays_each : {A E : Type 0} (r : Result A E) (audit : Bool) (all : Option (List ℕ)) (session : Session)
    (start before after : Option (List ℕ)) → IfSome all (λ bytes. Reaches (lines_of bytes) session) → session.group.items ≡ []
    → Appends start before (answers_text session.history) → OnOk r (Appends before after (audit_where audit session.history))
    → OnOk r (IfSome all (λ bytes. Replays audit bytes start after))
replays_each (Ok x) audit None session start before after there none written more = tt
replays_each (Ok x) audit (Some all) session start before after there none written more =
    replays_all audit all session start after there none
    (appends_more start before after (answers_text session.history) (audit_where audit session.history) written more)
replays_each (Err e) audit all session start before after there none written more = tt

stopped_within : (audit : Bool) (all : Option (List ℕ)) (session : Session) (start before after : Option (List ℕ))
    → IfSome all (λ bytes. Reaches (lines_of bytes) session) → session.group.items ≡ []
    → Appends start before (answers_text session.history) → audit ≡ true
    → (n : ℕ) × Appends before after (audit_lines (take n session.history))
    → IfSome all (λ bytes. Stops audit bytes start after)
stopped_within audit None session start before after there none written wanted more = tt
stopped_within audit (Some all) session start before after there none written wanted more =
    rw wanted (stopped_audit all session more.0 start after there none
    (appends_more start before after (answers_text session.history) (audit_lines (take more.0 session.history)) written more.1))

-- the replay stops in the audit, if no write has failed
pub stopped_each : {A : Type 0} (r : Result A ReplayError) (audit : Bool) (all : Option (List ℕ)) (session : Session)
    (start before after : Option (List ℕ)) → IfSome all (λ bytes. Reaches (lines_of bytes) session) → session.group.items ≡ []
    → Appends start before (answers_text session.history)
    → IfErr r (λ error. error ≢ Write → (audit ≡ true) × ((n : ℕ) × Appends before after (audit_lines (take n session.history))))
    → IfErr r (λ error. error ≢ Write → IfSome all (λ bytes. Stops audit bytes start after))
stopped_each (Ok x) audit all session start before after there none written at = tt
stopped_each (Err e) audit all session start before after there none written at =
    λ not. stopped_within audit all session start before after there none written (at not).0 (at not).1
