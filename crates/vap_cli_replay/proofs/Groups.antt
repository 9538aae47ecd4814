-- A group, one request further.
use Rattle.std.proofs.Common.{◌≡◌, ◌≢◌, ℕ, ◌+◌, ◌≤◌, List, [], ◌∷◌, ◌++◌, Some, length, refl, sym, ap, ◌∙◌}
use Rattle.std.proofs.Common.{append_assoc, add-zero, suc, arith}
use mathlib.Core.List.{map-append}
use Rattle.std.specs.Prelude.{slice_get}
use Rattle.vap_match.specs.declared.request.Request.{Request}
use Rattle.vap_policy_verdict.specs.declared.verdict.Verdict.{Verdict}
use Rattle.vap_plane.specs.Answers.{verdicts_at}
use Rattle.vap_watch.specs.Places.{Written}
use Rattle.vap_watch.specs.declared.log.Logged.{Logged}
use Rattle.vap_audit.specs.declared.entry.Entry.{Entry}
use Rattle.vap_audit.specs.Verdicts.{verdict_at}
use Rattle.vap_cli_replay.specs.Replay.{answer_line, answers_text, entry_of}
use Rattle.vap_cli_replay.specs.Sessions.{group_entries}

-- the entries of a group with one request more
pub group_last : (log : List Logged) (call : ℕ) (group : List Request) (request : Request)
    → group_entries log call (group ++ request ∷ []) ≡ group_entries log call group ++ entry_of log (call + length group) request ∷ []
group_last log call [] request = ap (λ n. entry_of log n request ∷ []) (sym (add-zero call))
group_last log call (r ∷ group) request =
    let one : (call + 1) + length group ≡ call + suc (length group) = omega arith in
    ap (λ (es : List Entry). entry_of log call r ∷ es)
    (group_last log (call + 1) group request ∙ ap (λ n. group_entries log (call + 1) group ++ entry_of log n request ∷ []) one)

-- a group has as many entries as requests
pub group_length : (log : List Logged) (call : ℕ) (group : List Request) → length (group_entries log call group) ≡ length group
group_length log call [] = refl
group_length log call (r ∷ group) = ap suc (group_length log (call + 1) group)

-- the answers of entries and of others after them
pub answers_more : (entries others : List Entry) → answers_text (entries ++ others) ≡ answers_text entries ++ answers_text others
answers_more [] others = refl
answers_more (e ∷ entries) others =
    ap (λ (l : List ℕ). answer_line e ++ l) (answers_more entries others)
    ∙ sym (append_assoc (answer_line e) (answers_text entries) (answers_text others))

-- an entry that is put last is there
pub last_entry : (es : List Entry) (e : Entry) → slice_get (es ++ e ∷ []) (length es) ≡ Some e
last_entry [] e = refl
last_entry (x ∷ es) e = last_entry es e

-- one request more is decided
grown_length : (old new : List Entry) (e : Entry) → new ≡ old ++ e ∷ [] → length new ≡ length old + 1
grown_length [] new e grown = ap (λ (es : List Entry). length es) grown
grown_length (x ∷ old) new e grown =
    let all : length new ≡ suc (length (old ++ e ∷ [])) = ap (λ (es : List Entry). length es) grown in
    omega (arith, all, grown_length old (old ++ e ∷ []) e refl)

pub decided_next : (w v : Written) (old new : List Entry) (request : Request) (left rest : List Request) (all : List Entry) → v ≡ w
    → new ≡ old ++ entry_of w.published (length old) request ∷ [] → left ≡ request ∷ rest
    → old ++ group_entries w.published (length old) left ≡ all → new ++ group_entries v.published (length new) rest ≡ all
decided_next w v old new request left rest all same grown is so =
    let e : Entry = entry_of w.published (length old) request in
    ap (λ (p : Written). new ++ group_entries p.published (length new) rest) same
    ∙ (ap (λ (n : ℕ). new ++ group_entries w.published n rest) (grown_length old new e grown)
    ∙ (ap (λ (es : List Entry). es ++ group_entries w.published (length old + 1) rest) grown
    ∙ (append_assoc old (e ∷ []) (group_entries w.published (length old + 1) rest)
    ∙ (ap (λ (g : List Request). old ++ group_entries w.published (length old) g) (sym is) ∙ so))))

pub told_next : (w v : Written) (old new : List Entry) (request : Request) (left rest : List Request) (text more all : List ℕ)
    → v ≡ w → new ≡ old ++ entry_of w.published (length old) request ∷ [] → left ≡ request ∷ rest
    → more ≡ text ++ answers_text (entry_of w.published (length old) request ∷ [])
    → text ++ answers_text (group_entries w.published (length old) left) ≡ all
    → more ++ answers_text (group_entries v.published (length new) rest) ≡ all
told_next w v old new request left rest text more all same grown is put so =
    let e : Entry = entry_of w.published (length old) request in
    let others : List Entry = group_entries w.published (length old + 1) rest in
    ap (λ (p : Written). more ++ answers_text (group_entries p.published (length new) rest)) same
    ∙ (ap (λ (n : ℕ). more ++ answers_text (group_entries w.published n rest)) (grown_length old new e grown)
    ∙ (ap (λ (l : List ℕ). l ++ answers_text others) put
    ∙ (append_assoc text (answers_text (e ∷ [])) (answers_text others)
    ∙ (ap (λ (l : List ℕ). text ++ l) (sym (answers_more (e ∷ []) others))
    ∙ (ap (λ (g : List Request). text ++ answers_text (group_entries w.published (length old) g)) (sym is) ∙ so)))))

-- for no requests there are no verdicts
pub none_asked : (log : List Logged) (requests : List Request) (verdicts : List Verdict) → length requests ≡ 0 → verdicts ≡ []
    → verdicts ≡ verdicts_at log requests
none_asked log [] verdicts none is = is
none_asked log (r ∷ requests) verdicts none is = cc

-- the verdicts on some requests and one more
pub one_judged : (log : List Logged) (requests : List Request) (request : Request) (verdicts : List Verdict) (v : Verdict)
    → verdicts ≡ verdicts_at log requests → v ≡ verdict_at log request → verdicts ++ v ∷ [] ≡ verdicts_at log (requests ++ request ∷ [])
one_judged log requests request verdicts v are is =
    ap (λ (vs : List Verdict). vs ++ v ∷ []) are
    ∙ (ap (λ (w : Verdict). verdicts_at log requests ++ w ∷ []) is ∙ sym (map-append (verdict_at log) requests (request ∷ [])))

-- the verdicts that are left are those on the requests that are left
pub verdicts_next : (log : List Logged) (left rest : List Request) (request : Request) (all more : List Verdict) (v : Verdict)
    → left ≡ request ∷ rest → all ≡ verdicts_at log left → all ≡ v ∷ more → (v ≡ verdict_at log request) × (more ≡ verdicts_at log rest)
verdicts_next log left rest request all more v is of first =
    let e : v ∷ more ≡ verdict_at log request ∷ verdicts_at log rest =
    sym first ∙ (of ∙ ap (λ (rs : List Request). verdicts_at log rs) is) in
    let one : v ≡ verdict_at log request = cc in
    let others : more ≡ verdicts_at log rest = cc in
    (one, others)

-- while a request is left, a verdict is left
pub some_left : (log : List Logged) (left rest : List Request) (request : Request) (all : List Verdict) → left ≡ request ∷ rest
    → all ≡ verdicts_at log left → all ≢ []
some_left log left rest request all is of = λ none.
    let e : [] ≡ verdict_at log request ∷ verdicts_at log rest =
    sym none ∙ (of ∙ ap (λ (rs : List Request). verdicts_at log rs) is) in
    cc

pub history_next : (old new : List Entry) (left rest : List Request) (request : Request) (e : Entry) (most : ℕ) → left ≡ request ∷ rest
    → new ≡ old ++ e ∷ [] → length old + length left ≤ most → length new + length rest ≤ most
history_next old new left rest request e most is grown room =
    let one : length left ≡ suc (length rest) = ap (λ (g : List Request). length g) is in
    omega (arith, one, grown_length old new e grown, room)
