-- Where a line is refused, and where the replay stops.
use Rattle.std.proofs.Common.{◌≡◌, ℕ, ◌+◌, Bool, true, List, [], ◌∷◌, ◌++◌, length, map, flat_map, take, Option, Result, Ok, refl, sym}
use Rattle.std.proofs.Common.{ap, ◌∙◌, append-nil, append_assoc, arith}
use Rattle.std.specs.Prelude.{◌&&◌, if◌then◌else◌}
use Rattle.std.specs.Io.KnownBytes.{Appends}
use Rattle.std.proofs.Math.Seq.{take-append_seam}
use Rattle.std.proofs.lemmas.List.{map-append}
use Rattle.base_containers.specs.Counted.{inner_of}
use Rattle.base_containers.specs.Lines.{lines_of}
use Rattle.base_containers.specs.declared.counted.Counted.{Counted}
use Rattle.vap_audit.specs.declared.entry.Entry.{Entry}
use Rattle.vap_cli_lines.specs.Lines.{Reads}
use Rattle.vap_cli_replay.specs.Moves.{Reaches, RefusesAt, StopsAt, after_lines}
use Rattle.vap_cli_replay.specs.Replay.{Choices, Replayed, Sofar, answer_line, answers_text, audit_line, beginning, behind, replay_from}
use Rattle.vap_cli_replay.specs.Replay.{replayed, text_of, told_lines}
use Rattle.vap_cli_replay.specs.Sessions.{Agrees, sofar_of, waiting_entries}
use Rattle.vap_cli_replay.specs.Streams.{Refuses, Stops, are_all_lines}
use Rattle.vap_cli_lines.specs.declared.fault.LineFault.{LineFault}
use Rattle.vap_cli_lines.specs.declared.line.Line.{Line}
use Rattle.vap_cli_replay.specs.declared.session.Session.{Session}
use Rattle.vap_cli_replay.proofs.Choosing.{agrees_itself, choices_of}
use Rattle.vap_cli_replay.proofs.Groups.{answers_more}
use Rattle.vap_cli_replay.proofs.Growth.{lines_counted}
use Rattle.vap_cli_replay.proofs.Steps.{reads_more, replayed_behind}
use Rattle.vap_cli_replay.proofs.Texts.{appends_more, appends_none, appends_same, told_text, text_refused}
use Rattle.vap_cli_replay.proofs.Reached.{accepting, refusing, reads_same, read_length, take_one_more, whole_of}

-- the line after those that were taken is refused
pub refused_at : {W : Type 0} (contents : W → Option (List ℕ)) (audit : Bool) (all : List ℕ) (front : List (List ℕ)) (first : List ℕ)
    (others : List (List ℕ)) (session : Session) (line : Line) (start : Option (List ℕ)) (before after : Counted W) (number : ℕ)
    (why : LineFault) → lines_of all ≡ front ++ first ∷ others → Reaches front session → Reads first line
    → RefusesAt contents line session before after number why
    → Appends start (contents (inner_of before)) (answers_text session.history)
    → Refuses audit all start (contents (inner_of after)) (record { line = number; fault = why })
refused_at contents audit all front first others session line start before after number why split there read at written =
    let choices : Choices = choices_of session.writer.published in
    let agrees : Agrees choices session.writer.published = agrees_itself session.writer.published in
    let taken : after_lines choices there.lines beginning ≡ Ok (sofar_of session) = there.taken choices agrees in
    let counted : session.lines ≡ length there.lines = omega (arith, lines_counted choices there.lines beginning (sofar_of session) taken)
    in
    let many : length front ≡ length there.lines = read_length front there.lines there.read in
    let last : number ≡ length front + 1 = at.numbered ∙ ap (λ n. n + 1) (counted ∙ sym many) in
    let told : replayed choices (there.lines ++ line ∷ []) ≡ refusing (sofar_of session).entries number why =
    replayed_behind choices there.lines (line ∷ []) beginning (sofar_of session) taken
    ∙ (ap (λ (r : Result Sofar LineFault). behind (sofar_of session) (λ t. replay_from choices t []) r) (at.refused choices agrees)
    ∙ ap (λ (n : ℕ). refusing (sofar_of session).entries n why) (sym at.numbered)) in
    let text : text_of audit (replayed choices (there.lines ++ line ∷ [])) ≡ answers_text session.history
    ++ answers_text (waiting_entries session) =
    ap (λ (r : Replayed). text_of audit r) told
    ∙ (text_refused audit (sofar_of session).entries (record { line = number; fault = why })
    ∙ answers_more session.history (waiting_entries session)) in
    record {
      choices = choices;
      lines = there.lines ++ line ∷ [];
      read =
          reads_same (take number (lines_of all)) (front ++ first ∷ []) (there.lines ++ line ∷ [])
          (ap (λ (l : List (List ℕ)). take number l) split ∙ take_one_more number front first others last)
          (reads_more front (first ∷ []) there.lines (line ∷ []) there.read (read, tt));
      refused = ap (λ (r : Replayed). r.refusal) told;
      written =
          appends_same start (contents (inner_of after)) (text_of audit (replayed choices (there.lines ++ line ∷ [])))
          (answers_text session.history ++ answers_text (waiting_entries session)) text
          (appends_more start (contents (inner_of before)) (contents (inner_of after)) (answers_text session.history)
          (answers_text (waiting_entries session)) written at.written);
    }

-- the first lines are the answers to the first entries
first_answers : (audit : Bool) (answered others : List Entry)
    → take (length (map answer_line answered)) (told_lines audit (accepting (answered ++ others))) ≡ map answer_line answered
first_answers audit answered others =
    let first : List (List ℕ) = map answer_line answered in
    let more : List (List ℕ) = if audit && true then map audit_line (answered ++ others) else [] in
    ap (λ (l : List (List ℕ)). take (length first) (l ++ more)) (map-append answer_line answered others)
    ∙ ap (λ (l : List (List ℕ)). take (length first) l) (append_assoc first (map answer_line others) more)
    ∙ take-append_seam first (map answer_line others ++ more)

-- the replay stops after the lines that were taken
pub stopped_at : {W : Type 0} (contents : W → Option (List ℕ)) (audit : Bool) (all : List ℕ) (front rest : List (List ℕ))
    (session : Session) (start : Option (List ℕ)) (before after : Counted W) → lines_of all ≡ front ++ rest → Reaches front session
    → StopsAt contents session before after → Appends start (contents (inner_of before)) (answers_text session.history)
    → Stops audit all start (contents (inner_of after))
stopped_at contents audit all front rest session start before after split there at written =
    let choices : Choices = choices_of session.writer.published in
    let taken : after_lines choices there.lines beginning ≡ Ok (sofar_of session) =
    there.taken choices (agrees_itself session.writer.published) in
    let told : List (List ℕ) = map answer_line (session.history ++ at.answered) in
    let audited : Bool = audit && are_all_lines (length front) all in
    let entries : session.history ++ waiting_entries session ≡ (session.history ++ at.answered) ++ at.others =
    ap (λ (l : List Entry). session.history ++ l) at.first ∙ sym (append_assoc session.history at.answered at.others) in
    let first : take (length told) (told_lines audited (replayed choices there.lines)) ≡ told =
    ap (λ (r : Replayed). take (length told) (told_lines audited r)) (whole_of choices there.lines session taken)
    ∙ ap (λ (l : List Entry). take (length told) (told_lines audited (accepting l))) entries
    ∙ first_answers audited (session.history ++ at.answered) at.others in
    record {
      choices = choices;
      count = length front;
      lines = there.lines;
      read =
          reads_same (take (length front) (lines_of all)) front there.lines
          (ap (λ (l : List (List ℕ)). take (length front) l) split ∙ take-append_seam front rest) there.read;
      told = length told;
      written =
          appends_same start (contents (inner_of after))
          (flat_map (λ line. line) (take (length told) (told_lines audited (replayed choices there.lines))))
          (answers_text session.history ++ answers_text at.answered)
          (ap (λ (l : List (List ℕ)). flat_map (λ line. line) l) first
          ∙ told_text (session.history ++ at.answered) ∙ answers_more session.history at.answered)
          (appends_more start (contents (inner_of before)) (contents (inner_of after)) (answers_text session.history)
          (answers_text at.answered) written at.written);
    }

-- nothing more is written
pub stops_here : {W : Type 0} (contents : W → Option (List ℕ)) (session : Session) (before after : Counted W) → after ≡ before
    → StopsAt contents session before after
stops_here contents session before after same = record {
  answered = [];
  others = waiting_entries session;
  first = refl;
  written = rw same (appends_none (contents (inner_of before)));
}

-- all answers to the waiting reviews are written, and nothing else
pub stops_behind : {W : Type 0} (contents : W → Option (List ℕ)) (session : Session) (before after : Counted W)
    → Appends (contents (inner_of before)) (contents (inner_of after)) (answers_text (waiting_entries session))
    → StopsAt contents session before after
stops_behind contents session before after written = record {
  answered = waiting_entries session;
  others = [];
  first = sym (append-nil (waiting_entries session));
  written = written;
}
