-- Lists that begin with one another, and the entries of a board.
use Rattle.std.proofs.Common.{◌≡◌, ℕ, zero, suc, ◌+◌, ◌<◌, ◌≤◌, true, false, List, [], ◌∷◌, ◌++◌, length, refl, sym, subst}
use Rattle.std.proofs.Common.{ap, ◌∙◌, append_assoc, append-nil, length-append, arith}
use Rattle.std.proofs.lemmas.List.{get_or_append_left}
use Rattle.std.proofs.Math.Seq.{get_or-append_seam}
use mathlib.Core.Bool.{true≢false}
use mathlib.Core.List.{IsPrefix}
use native.Mathlib.Decide.{ℕ_discrete}
use Rattle.vap_watch.specs.declared.entry.Entry.{Entry}
use Rattle.vap_watch.specs.Begins.{StartsWith}
use Rattle.vap_watch.specs.Entries.{nth, entry, Under, Chain, IsTold}

module _ {X : Type 0} where
  -- a list and what begins it
  pub starts_here : (list : List X) → StartsWith list list
  starts_here list = record { rest = []; split = sym (append-nil list) }

  pub starts_further : (c b a : List X) → StartsWith c b → StartsWith b a → StartsWith c a
  starts_further c b a p q = record {
    rest = q.rest ++ p.rest;
    split = p.split ∙ (ap (λ l. l ++ p.rest) q.split ∙ append_assoc a q.rest p.rest);
  }

  starts_same : (one other : List X) → one ≡ other → StartsWith one other
  starts_same one other e = subst (λ l. StartsWith one l) e (starts_here one)

  -- what is in a beginning is in the whole
  pub nth_left : (es more : List (Entry X)) (i : ℕ) → i < length es → nth (es ++ more) i ≡ nth es i
  nth_left es more i h = get_or_append_left es more (entry [] false) i h

  pub nth_last : (es : List (Entry X)) (e : Entry X) → nth (es ++ e ∷ []) (length es) ≡ e
  nth_last es e = get_or-append_seam es e [] (entry [] false)

  pub nth_prefix : (es all : List (Entry X)) (i : ℕ) → IsPrefix es all → i < length es → nth all i ≡ nth es i
  nth_prefix es all i p h = subst (λ (l : List (Entry X)). nth l i ≡ nth es i) p.1 (nth_left es p.0 i h)

  inside_prefix : (es all : List (Entry X)) (i : ℕ) → IsPrefix es all → i < length es → i < length all
  inside_prefix es all i p h = omega (arith, h, sym (ap length p.1) ∙ length-append es p.0)

  told_prefix : (es all : List (Entry X)) (at : ℕ) → IsPrefix es all → IsTold es at → IsTold all at
  told_prefix es all at p t =
      let here : at < length es = omega (arith, t.inside) in
      let behind = nth_prefix es all (at + 1) p t.inside in
      record {
        inside = inside_prefix es all (at + 1) p t.inside;
        told = ap (λ e. e.is_told) behind ∙ t.told;
        same = ap (λ e. e.list) behind ∙ (t.same ∙ ap (λ e. e.list) (sym (nth_prefix es all at p here)));
      }

  -- from a told list on, each list begins with it
  told_after : (es : List (Entry X)) (at j : ℕ) → Chain es → IsTold es at → j < length es → at ≤ j → Dec (j ≡ at) → Dec (j ≡ at + 1)
      → StartsWith (nth es j).list (nth es at).list
  told_after es at j chain t h le (yes e) _ =
      subst (λ (k : ℕ). StartsWith (nth es k).list (nth es at).list) (sym e) (starts_here (nth es at).list)
  told_after es at j chain t h le (no n) (yes e) =
      let same = starts_same (nth es (at + 1)).list (nth es at).list t.same in
      subst (λ (k : ℕ). StartsWith (nth es k).list (nth es at).list) (sym e) same
  told_after es at j chain t h le (no n) (no m) =
      let further : at + 1 < j = omega (arith, le, n, m) in
      subst (λ l. StartsWith (nth es j).list l) t.same (chain (at + 1) j further h t.told)

  told_begins : (es : List (Entry X)) (at j : ℕ) → Chain es → IsTold es at → j < length es → at ≤ j
      → StartsWith (nth es j).list (nth es at).list
  told_begins es at j chain t h le = told_after es at j chain t h le (ℕ_discrete j at) (ℕ_discrete j (at + 1))

  -- the same, if both are known by beginnings of what the board has
  pub told_first : (es fs all : List (Entry X)) (at j : ℕ) → IsPrefix es all → IsPrefix fs all → Chain all → IsTold es at
      → j < length fs → at ≤ j → StartsWith (nth fs j).list (nth es at).list
  told_first es fs all at j p q chain t h le =
      let here : at < length es = omega (arith, t.inside) in
      let begins = told_begins all at j chain (told_prefix es all at p t) (inside_prefix fs all j q h) le in
      rw (← nth_prefix fs all j q h, ← nth_prefix es all at p here) begins

  -- one more entry
  pub longer_by : (es : List (Entry X)) (e : Entry X) → length (es ++ e ∷ []) ≡ length es + 1
  longer_by es e = length-append es (e ∷ [])

  module _ (es : List (Entry X)) (e : Entry X) where
    abbrev added : List (Entry X)
    added = es ++ e ∷ []

    last_is : (j : ℕ) → j ≡ length es → nth added j ≡ e
    last_is j same = ap (λ (k : ℕ). nth added k) same ∙ nth_last es e

    chain_at : Chain es → Under es e.list → (i j : ℕ) → i < j → j < length added → (nth added i).is_told ≡ true → Dec (j ≡ length es)
        → StartsWith (nth added j).list (nth added i).list
    chain_at chain under i j lt h told (yes same) =
        let here : i < length es = omega (arith, lt, same) in
        let left = nth_left es (e ∷ []) i here in
        rw (left, last_is j same) (under i here (ap (λ x. x.is_told) (sym left) ∙ told))
    chain_at chain under i j lt h told (no n) =
        let there : j < length es = omega (arith, n, h, longer_by es e) in
        let left = nth_left es (e ∷ []) i (omega (arith, lt, there)) in
        rw (left, nth_left es (e ∷ []) j there) (chain i j lt there (ap (λ x. x.is_told) (sym left) ∙ told))

    pub chain_more : Chain es → Under es e.list → Chain added
    chain_more chain under i j lt h told = chain_at chain under i j lt h told (ℕ_discrete j (length es))

    under_at : (list : List X) → Under es list → (e.is_told ≡ true → StartsWith list e.list) → (i : ℕ) → i < length added
        → (nth added i).is_told ≡ true → Dec (i ≡ length es) → StartsWith list (nth added i).list
    under_at list under last i h told (yes same) =
        let is = last_is i same in
        rw is (last (ap (λ x. x.is_told) (sym is) ∙ told))
    under_at list under last i h told (no n) =
        let here : i < length es = omega (arith, n, h, longer_by es e) in
        let left = nth_left es (e ∷ []) i here in
        rw left (under i here (ap (λ x. x.is_told) (sym left) ∙ told))

    pub under_more : (list : List X) → Under es list → (e.is_told ≡ true → StartsWith list e.list) → Under added list
    under_more list under last i h told = under_at list under last i h told (ℕ_discrete i (length es))

  pub under_longer : (es : List (Entry X)) (list more : List X) → Under es list → StartsWith more list → Under es more
  under_longer es list more under p i h told = starts_further more list (nth es i).list p (under i h told)

  -- the list of the last number is told by the entry after it
  pub told_now : (es : List (Entry X)) (list : List X) (at : ℕ) → at + 1 ≡ length es → list ≡ (nth es at).list
      → IsTold (es ++ entry list true ∷ []) at
  told_now es list at last is =
      let e : Entry X = entry list true in
      let behind = last_is es e (at + 1) last in
      let here = nth_left es (e ∷ []) at (omega (arith, last)) in
      record {
        inside = omega (arith, last, longer_by es e);
        told = ap (λ x. x.is_told) behind;
        same = ap (λ x. x.list) behind ∙ (is ∙ ap (λ x. x.list) (sym here));
      }

  pub told_still : (es more : List (Entry X)) (at : ℕ) → IsTold es at → IsTold (es ++ more) at
  told_still es more at t = told_prefix es (es ++ more) at (more, refl) t

  -- the list of this number is told once more
  pub under_now : (es : List (Entry X)) (list : List X) (at : ℕ) → at < length es → list ≡ (nth es at).list → Under es list
      → Under (es ++ entry list true ∷ []) (nth (es ++ entry list true ∷ []) at).list
  under_now es list at here is under =
      let e : Entry X = entry list true in
      let same : list ≡ (nth (es ++ e ∷ []) at).list = is ∙ ap (λ x. x.list) (sym (nth_left es (e ∷ []) at here)) in
      subst (λ (l : List X). Under (es ++ e ∷ []) l) same (under_more es e list under (λ t. starts_here list))

  -- a list that begins with the published one is put on the board
  pub drafted : (es : List (Entry X)) (list : List X) (at : ℕ) → IsTold es at → Under es (nth es at).list → StartsWith list (nth es at).list
      → IsTold (es ++ entry list false ∷ []) at × Under (es ++ entry list false ∷ []) (nth (es ++ entry list false ∷ []) at).list
      × StartsWith (nth (es ++ entry list false ∷ []) (length es)).list (nth (es ++ entry list false ∷ []) at).list
  drafted es list at told under begins =
      let e : Entry X = entry list false in
      let here : at < length es = omega (arith, told.inside) in
      let left = ap (λ x. x.list) (nth_left es (e ∷ []) at here) in
      let last = ap (λ x. x.list) (nth_last es e) in (
        told_still es (e ∷ []) at told,
        rw left (under_more es e (nth es at).list under (λ t. absurd (true≢false (sym t)))),
        rw (left, last) begins,
      )

  -- a board at the start
  abbrev pub at_first : List (Entry X)
  at_first = entry [] false ∷ entry [] true ∷ []

  pub under_first : Under at_first []
  under_first zero h t = starts_here []
  under_first (suc zero) h t = starts_here []
  under_first (suc (suc i)) h t = absurd (omega arith)

  pub told_at_first : IsTold at_first 0
  told_at_first = record { inside = omega arith; told = refl; same = refl }
