-- Lines that go into a queue, and out of it.
use Rattle.std.proofs.Common.{◌≡◌, ◌+◌, ℕ, List, [], ◌∷◌, ◌++◌, length, Option, None, Some, refl, sym, ap, ◌∙◌}
use Rattle.std.proofs.Common.{append_assoc, append-nil, length-append, arith, subst, suc}
use Rattle.std.proofs.lemmas.List.Elements.{All-append, All-from_recursion}
use Rattle.std.specs.Io.KnownBytes.{Consumes, prepend_known}
use Rattle.base_containers.specs.Lines.{AllGive, Pending}
use Rattle.vap_watch.specs.Begins.{StartsWith}
use Rattle.vap_watch.specs.declared.log.Logged.{Logged}
use Rattle.vap_cli_lines.specs.LineQueues.{AreWhole, IsWhole, Queued, text_of}

-- one line more
pub more_whole : (log : List Logged) (lines : List Queued) (line : Queued) → AreWhole log lines → IsWhole log line
    → AreWhole log (lines ++ line ∷ [])
more_whole log lines line all one =
    All-append (IsWhole log) lines (line ∷ []) all (All-from_recursion (IsWhole log) (line ∷ []) (one, tt))

pub more_text : (lines : List Queued) (line : Queued) (rest : List ℕ)
    → text_of (lines ++ line ∷ []) ++ rest ≡ text_of lines ++ (line.bytes ++ 10 ∷ rest)
more_text [] line rest = append_assoc line.bytes (10 ∷ []) rest
more_text (first ∷ lines) line rest =
    append_assoc first.bytes (10 ∷ text_of (lines ++ line ∷ [])) rest
    ∙ ap (λ (text : List ℕ). first.bytes ++ 10 ∷ text) (more_text lines line rest)
    ∙ sym (append_assoc first.bytes (10 ∷ text_of lines) (line.bytes ++ 10 ∷ rest))

-- one line less
pub rest_whole : (log : List Logged) (line : Queued) (rest lines : List Queued) → lines ≡ line ∷ rest → AreWhole log lines
    → AreWhole log rest
rest_whole log line rest lines is all =
    let whole = subst (AreWhole log) is all in
    λ k d lt. whole (suc k) d (omega arith)

pub first_whole : (log : List Logged) (line : Queued) (rest lines : List Queued) → lines ≡ line ∷ rest → AreWhole log lines
    → IsWhole log line
first_whole log line rest lines is all =
    let whole = subst (AreWhole log) is all in
    whole 0 line (omega arith)

-- what is unread loses the first line, with its line feed
pub first_consumed : (line rest pending : List ℕ) (known : Option (List ℕ))
    → Consumes (prepend_known ((line ++ 10 ∷ rest) ++ pending) known) (prepend_known (rest ++ pending) known) (line ++ 10 ∷ [])
first_consumed line rest pending None = tt
first_consumed line rest pending (Some left) =
    append_assoc (line ++ 10 ∷ rest) pending left
    ∙ append_assoc line (10 ∷ rest) (pending ++ left)
    ∙ sym (append_assoc line (10 ∷ []) ((rest ++ pending) ++ left)
    ∙ ap (λ (text : List ℕ). line ++ 10 ∷ text) (append_assoc rest pending left))

-- nothing was read for it
pub none_read : (known : Option (List ℕ)) (old new : Pending) → new.reads ≡ old.reads → AllGive 0 known known old new
none_read None old new same = tt
none_read (Some left) old new same = omega (arith, same)

-- none is left
pub none_left : {X : Type 0} (xs : List X) → length xs ≡ 0 → xs ≡ []
none_left [] none = refl
none_left (x ∷ xs) none = absurd (omega arith)

-- a list that begins with one of its length is that one
pub whole_begun : {X : Type 0} (list seen : List X) → StartsWith list seen → length seen ≡ length list → seen ≡ list
whole_begun list seen begins len =
    let all : length list ≡ length seen + length begins.rest =
    ap (λ l. length l) begins.split ∙ length-append seen begins.rest in
    let none : begins.rest ≡ [] = none_left begins.rest (omega (arith, all, len)) in
    sym (begins.split ∙ ap (λ l. seen ++ l) none ∙ append-nil seen)
