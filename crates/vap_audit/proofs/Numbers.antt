-- The numbers of a worker's entries, one entry further.
use Rattle.std.proofs.Common.{◌≡◌, ℕ, ◌+◌, ◌<◌, Bool, true, false, List, [], ◌∷◌, ◌++◌, length, take}
use Rattle.std.proofs.Common.{refl, sym, ap, ◌∙◌, add-zero, suc, arith, rules}
use Rattle.std.specs.Prelude.{◌==◌, slice_get, Some, if◌then◌else◌}
use Rattle.std.proofs.lemmas.Option.{slice_get_within}
use Rattle.std.proofs.lemmas.List.{length-take-le, append-nil}
use Rattle.vap_watch.proofs.Alike.{one_more}
use Rattle.vap_audit.specs.declared.entry.Entry.{Entry}
use Rattle.vap_audit.specs.Entries.{numbers_from}

-- the number n, if it is one of the worker's
abbrev pub if_mine : ℕ → ℕ → Entry → List ℕ
if_mine n worker e = if e.worker == worker then n ∷ [] else []

pull : (b : Bool) (n : ℕ) (xs ys zs : List ℕ) → xs ≡ ys ++ zs → (if b then n ∷ xs else xs) ≡ (if b then n ∷ ys else ys) ++ zs
pull true n xs ys zs e = ap (λ (l : List ℕ). n ∷ l) e
pull false n xs ys zs e = e

numbers_last : (n worker : ℕ) (es : List Entry) (e : Entry)
    → numbers_from n worker (es ++ e ∷ []) ≡ numbers_from n worker es ++ if_mine (n + length es) worker e
numbers_last n worker [] e = ap (λ (k : ℕ). if_mine k worker e) (sym (add-zero n))
numbers_last n worker (x ∷ es) e =
    let one : (n + 1) + length es ≡ n + suc (length es) = omega arith in
    pull (x.worker == worker) n _ _ _ (numbers_last (n + 1) worker es e
    ∙ ap (λ (k : ℕ). numbers_from (n + 1) worker es ++ if_mine k worker e) one)

next : (es : List Entry) (i worker : ℕ) (e : Entry) → slice_get es i ≡ Some e
    → numbers_from 0 worker (take (i + 1) es) ≡ numbers_from 0 worker (take i es) ++ if_mine i worker e
next es i worker e at =
    let short : 0 + length (take i es) ≡ i =
    (let h = slice_get_within es i e at in omega (arith, length-take-le i es (omega arith))) in
    ap (λ (l : List Entry). numbers_from 0 worker l) (one_more es i e at)
    ∙ (numbers_last 0 worker (take i es) e
    ∙ ap (λ (k : ℕ). numbers_from 0 worker (take i es) ++ if_mine k worker e) short)

pub next_mine : (es : List Entry) (i worker : ℕ) (e : Entry) → slice_get es i ≡ Some e → (e.worker == worker) ≡ true
    → numbers_from 0 worker (take (i + 1) es) ≡ numbers_from 0 worker (take i es) ++ i ∷ []
next_mine es i worker e at is =
    next es i worker e at ∙ ap (λ (b : Bool). numbers_from 0 worker (take i es) ++ (if b then i ∷ [] else [])) is

pub next_other : (es : List Entry) (i worker : ℕ) (e : Entry) → slice_get es i ≡ Some e → (e.worker == worker) ≡ false
    → numbers_from 0 worker (take (i + 1) es) ≡ numbers_from 0 worker (take i es)
next_other es i worker e at is =
    next es i worker e at
    ∙ (ap (λ (b : Bool). numbers_from 0 worker (take i es) ++ (if b then i ∷ [] else [])) is
    ∙ append-nil (numbers_from 0 worker (take i es)))
