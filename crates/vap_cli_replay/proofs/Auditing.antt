-- The audit, one entry further.
use Rattle.std.proofs.Common.{◌≡◌, ℕ, zero, suc, ◌+◌, ◌<◌, List, [], ◌∷◌, ◌++◌, length, take, Option, Some}
use Rattle.std.proofs.Common.{refl, sym, ap, subst, ◌∙◌, append-nil, append_assoc, arith}
use Rattle.std.specs.Prelude.{slice_get}
use Rattle.std.specs.Io.KnownBytes.{Appends}
use Rattle.vap_watch.proofs.Alike.{one_more}
use Rattle.vap_audit.specs.declared.entry.Entry.{Entry}
use Rattle.vap_cli_replay.specs.Replay.{audit_line, audit_lines}
use Rattle.vap_cli_replay.proofs.Told.{appends_more, appends_same}

-- the lines of entries and of others after them
audit_more : (entries others : List Entry) → audit_lines (entries ++ others) ≡ audit_lines entries ++ audit_lines others
audit_more [] others = refl
audit_more (e ∷ entries) others =
    ap (λ (l : List ℕ). audit_line e ++ l) (audit_more entries others)
    ∙ sym (append_assoc (audit_line e) (audit_lines entries) (audit_lines others))

there : (entries : List Entry) (n : ℕ) → n < length entries → (e : Entry) × (slice_get entries n ≡ Some e)
there [] n below = absurd (omega (arith, below))
there (x ∷ entries) zero below = (x, refl)
there (x ∷ entries) (suc n) below = there entries n (omega (arith, below))

next : (entries : List Entry) (n : ℕ) (e : Entry) → slice_get entries n ≡ Some e
    → audit_lines (take (n + 1) entries) ≡ audit_lines (take n entries) ++ audit_line e
next entries n e at =
    ap (λ (es : List Entry). audit_lines es) (one_more entries n e at)
    ∙ (audit_more (take n entries) (e ∷ []) ∙ ap (λ (l : List ℕ). audit_lines (take n entries) ++ l) (append-nil (audit_line e)))

-- the line of an entry stands behind the lines of those before it, of which some are written
lines_next : (entries : List Entry) (written number : ℕ) (text all : List ℕ) → number < length entries
    → ((e : Entry) → slice_get entries number ≡ Some e → all ≡ text ++ audit_line e)
    → audit_lines (take written entries) ++ text ≡ audit_lines (take number entries)
    → audit_lines (take written entries) ++ all ≡ audit_lines (take (number + 1) entries)
lines_next entries written number text all below is so_far =
    let (e, at) = there entries number below in
    ap (λ (l : List ℕ). audit_lines (take written entries) ++ l) (is e at)
    ∙ (sym (append_assoc (audit_lines (take written entries)) text (audit_line e))
    ∙ (ap (λ (l : List ℕ). l ++ audit_line e) so_far ∙ sym (next entries number e at)))

-- lines of the first entries are written, and the text has those of the others before a number
abbrev pub Audits : (start now : Option (List ℕ)) (entries : List Entry) (number : ℕ) (text : List ℕ) → Type 0
Audits start now entries number text =
    (n : ℕ) × Appends start now (audit_lines (take n entries)) × (audit_lines (take n entries) ++ text ≡ audit_lines (take number entries))

-- the text has the line of an entry more
pub audits_more : (start now : Option (List ℕ)) (entries : List Entry) (number : ℕ) (text all : List ℕ) → number < length entries
    → ((e : Entry) → slice_get entries number ≡ Some e → all ≡ text ++ audit_line e) → Audits start now entries number text
    → Audits start now entries (number + 1) all
audits_more start now entries number text all below is (n, there, so_far) =
    (n, there, lines_next entries n number text all below is so_far)

-- the text is written
pub audits_all : (start before after : Option (List ℕ)) (entries : List Entry) (number : ℕ) (text : List ℕ)
    → Audits start before entries number text → Appends before after text → Appends start after (audit_lines (take number entries))
audits_all start before after entries number text (n, there, so_far) more =
    appends_same start after (audit_lines (take number entries)) (audit_lines (take n entries) ++ text) (sym so_far)
    (appends_more start before after (audit_lines (take n entries)) text there more)

-- and another is begun
pub audits_on : (start before after : Option (List ℕ)) (entries : List Entry) (number : ℕ) (text : List ℕ)
    → Audits start before entries number text → Appends before after text → Audits start after entries number []
audits_on start before after entries number text so_far more =
    (number, audits_all start before after entries number text so_far more, append-nil (audit_lines (take number entries)))

-- the same, of what is the same
pub audits_same : (start now same : Option (List ℕ)) (entries : List Entry) (number : ℕ) (text rest : List ℕ) → same ≡ now → rest ≡ text
    → Audits start now entries number text → Audits start same entries number rest
audits_same start now same entries number text rest is left so_far =
    subst (λ (x : Option (List ℕ)). Audits start x entries number rest) (sym is)
    (subst (λ (x : List ℕ). Audits start now entries number x) (sym left) so_far)
