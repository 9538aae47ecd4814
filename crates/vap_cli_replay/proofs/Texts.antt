-- What is written after what was written, and the text of lines that are written.
use Rattle.std.proofs.Common.{◌≡◌, ℕ, Bool, true, false, List, [], ◌∷◌, ◌++◌, map, flat_map, Option, None, Some, refl, sym, ap, ◌∙◌}
use Rattle.std.proofs.Common.{append-nil, append_assoc}
use Rattle.std.specs.Io.KnownBytes.{Appends, Keeps}
use Rattle.vap_audit.specs.declared.entry.Entry.{Entry}
use Rattle.vap_cli_replay.specs.Replay.{Refusal, answer_line, answers_text, audit_line, audit_lines, text_of}

-- what is written after what was written
pub appends_more : (a b c : Option (List ℕ)) (l m : List ℕ) → Appends a b l → Appends b c m → Appends a c (l ++ m)
appends_more None b c l m h k = tt
appends_more (Some x) None c l m h k = absurd h
appends_more (Some x) (Some y) None l m h k = absurd k
appends_more (Some x) (Some y) (Some z) l m h k = k ∙ (ap (λ (t : List ℕ). t ++ m) h ∙ append_assoc x l m)

pub appends_none : (a : Option (List ℕ)) → Appends a a []
appends_none None = tt
appends_none (Some x) = sym (append-nil x)

-- what is flushed is written
pub appends_kept : (a b c : Option (List ℕ)) (l : List ℕ) → Appends a b l → Keeps b c → Appends a c l
appends_kept None b c l h k = tt
appends_kept (Some x) None c l h k = absurd h
appends_kept (Some x) (Some y) None l h k = absurd k
appends_kept (Some x) (Some y) (Some z) l h k = k ∙ h

pub appends_same : (a b : Option (List ℕ)) (l m : List ℕ) → l ≡ m → Appends a b m → Appends a b l
appends_same a b l m e h = rw e h

-- lines that are written, one after the other
pub told_text : (entries : List Entry) → flat_map (λ line. line) (map answer_line entries) ≡ answers_text entries
told_text [] = refl
told_text (e ∷ entries) = ap (λ (l : List ℕ). answer_line e ++ l) (told_text entries)

pub told_audit : (entries : List Entry) → flat_map (λ line. line) (map audit_line entries) ≡ audit_lines entries
told_audit [] = refl
told_audit (e ∷ entries) = ap (λ (l : List ℕ). audit_line e ++ l) (told_audit entries)

pub told_both : (xs ys : List (List ℕ)) → flat_map (λ line. line) (xs ++ ys) ≡ flat_map (λ line. line) xs ++ flat_map (λ line. line) ys
told_both [] ys = refl
told_both (x ∷ xs) ys =
    ap (λ (l : List ℕ). x ++ l) (told_both xs ys)
    ∙ sym (append_assoc x (flat_map (λ line. line) xs) (flat_map (λ line. line) ys))

-- the text of lines one of which is refused has no audit
pub text_refused : (audit : Bool) (entries : List Entry) (refusal : Refusal)
    → text_of audit (record { entries = entries; refusal = Some refusal }) ≡ answers_text entries
text_refused true entries refusal = append-nil (answers_text entries)
text_refused false entries refusal = append-nil (answers_text entries)
