-- The two steps keep the rule of a board.
use Rattle.std.proofs.Common.{◌≡◌, ℕ, zero, suc, ◌+◌, ◌*◌, ◌<◌, ◌≤◌, ◌≢◌, ◌==◌, Bool, true, false, List, [], ◌∷◌, ◌++◌, None}
use Rattle.std.proofs.Common.{length, set, refl, ap, sym, subst, ◌∙◌, arith, inl, inr, ⊎_elim, length-append, length-set}
use Rattle.std.proofs.lemmas.List.{append-nil, get_or_append_left, get_or-set_same, get_or-set_other, set-get_or}
use Rattle.std.proofs.lemmas.Bool.Decides.{nat_tests}
use native.Mathlib.Decide.{ℕ_discrete}
use mathlib.Core.Bool.{true≢false}
use mathlib.Core.List.{IsPrefix}
use prog.Atomic.{either}
use Rattle.logbook.specs.Pages.{Cell, cell, keeps, gives, adds, no_nib, may_write, step, Moves, Goes, Nib}
use Rattle.vap_watch.specs.declared.entry.Entry.{Entry}
use Rattle.vap_watch.specs.Entries.{Under, Chain, IsKept, Attempts, Concludes}
use Rattle.vap_watch.proofs.Chains.{at_first, chain_more, longer_by}

-- the cells of a board at the start are at home
away_first : (k : ℕ) → k < 2 → (cell ((2, true) ∷ (0, true) ∷ []) k).1 ≡ false → (k + 1 ≡ 2) × (3 ≡ 2 * k)
away_first zero h f = absurd (true≢false f)
away_first (suc zero) h f = absurd (true≢false f)
away_first (suc (suc k)) h f = absurd (omega arith)

module _ {X : Type 0} where
  -- a list as long as the whole that it begins
  whole : (v es : List (Entry X)) → IsPrefix v es → length es ≤ length v → v ≡ es
  whole [] [] p le = refl
  whole [] (y ∷ ys) p le = absurd (omega arith)
  whole (x ∷ xs) [] p le = absurd (cc (p.1))
  whole (x ∷ xs) (y ∷ ys) p le = let rest = whole xs ys (p.0, cc (p.1)) (omega arith) in cc (p.1, rest)

  -- what clients see of a board, and how it moves: nothing
  abbrev shown : List (Entry X) → List (Entry X)
  shown entries = []

  abbrev moved : List (Entry X) → List (Entry X) → ℕ → Type 0
  moved xs ys n = Unit {0}

  module _ (cs : List Cell) (es : List (Entry X)) (e : Entry X) (x : ℕ) (kept : IsKept cs es) (one : x ≡ length es + 1)
      (under : Under es e.list) where
    abbrev longer : List (Entry X)
    longer = es ++ e ∷ []

    abbrev front : List Cell
    front = set cs 0 (x, true)

    abbrev end : ℕ → Cell
    end k = (k, true)

    head_is : end x ≡ end (length longer)
    head_is = ap end (one ∙ sym (longer_by es e))

    front_long : length front ≡ length cs
    front_long = length-set cs 0 (x, true)

    front_head : cell front 0 ≡ (x, true)
    front_head = get_or-set_same cs 0 (x, true) (0, false) kept.some

    front_else : (k : ℕ) → k ≢ 0 → cell front k ≡ cell cs k
    front_else k n = get_or-set_other cs 0 k (x, true) (0, false) n

    -- with one cell more, which is away
    abbrev added : List Cell
    added = front ++ (0, false) ∷ []

    added_long : length added ≡ length cs + 1
    added_long = length-append front ((0, false) ∷ []) ∙ ap (λ (k : ℕ). k + 1) front_long

    added_left : (k : ℕ) → k < length cs → cell added k ≡ cell front k
    added_left k h = get_or_append_left front ((0, false) ∷ []) (0, false) k (omega (arith, front_long, h))

    away_added : length es + 2 ≡ 2 * length cs → (k : ℕ) → k < length added → (cell added k).1 ≡ false → Dec (k ≡ length cs) → Dec (k ≡ 0)
        → (k + 1 ≡ length added) × (length longer + 1 ≡ 2 * k)
    away_added idle k h f (yes same) _ = (omega (arith, same, added_long), omega (arith, same, idle, longer_by es e))
    away_added idle k h f (no n) (yes zer) =
        let is : cell added k ≡ (x, true) = ap (λ (i : ℕ). cell added i) zer ∙ (added_left 0 kept.some ∙ front_head) in
        absurd (true≢false (sym (ap (λ (c : Cell). c.1) is) ∙ f))
    away_added idle k h f (no n) (no m) =
        let inside : k < length cs = omega (arith, n, h, added_long) in
        let is : cell added k ≡ cell cs k = added_left k inside ∙ front_else k m in
        let was = kept.away k inside (sym (ap (λ (c : Cell). c.1) is) ∙ f) in
        absurd (omega (arith, was.0, was.1, idle))

    kept_adds : length es + 2 ≡ 2 * length cs → IsKept added longer
    kept_adds idle = record {
      some = omega (arith, added_long);
      head = added_left 0 kept.some ∙ (front_head ∙ head_is);
      away = λ k h f. away_added idle k h f (ℕ_discrete k (length cs)) (ℕ_discrete k 0);
      count = inr (omega (arith, idle, added_long, longer_by es e));
      chain = chain_more es e kept.chain under;
    }

    -- with the cell at home that was away
    module _ (key val : ℕ) (h : key < length cs) (f : (cell cs key).1 ≡ false) where
      abbrev given : List Cell
      given = set front key (val, true)

      given_long : length given ≡ length cs
      given_long = length-set front key (val, true) ∙ front_long

      given_else : (k : ℕ) → k ≢ key → cell given k ≡ cell front k
      given_else k n = get_or-set_other front key k (val, true) (0, false) n

      away_given : (k : ℕ) → k < length given → (cell given k).1 ≡ false → Dec (k ≡ key) → Dec (k ≡ 0)
          → (k + 1 ≡ length given) × (length longer + 1 ≡ 2 * k)
      away_given k b g (yes same) _ =
          let there = get_or-set_same front key (val, true) (0, false) (omega (arith, front_long, h)) in
          let is : cell given k ≡ (val, true) = ap (λ (i : ℕ). cell given i) same ∙ there in
          absurd (true≢false (sym (ap (λ (c : Cell). c.1) is) ∙ g))
      away_given k b g (no n) (yes zer) =
          let is : cell given k ≡ (x, true) = given_else k n ∙ (ap (λ (i : ℕ). cell front i) zer ∙ front_head) in
          absurd (true≢false (sym (ap (λ (c : Cell). c.1) is) ∙ g))
      away_given k b g (no n) (no m) =
          let inside : k < length cs = omega (arith, b, given_long) in
          let is : cell given k ≡ cell cs k = given_else k n ∙ front_else k m in
          let was = kept.away k inside (sym (ap (λ (c : Cell). c.1) is) ∙ g) in
          let mine = kept.away key h f in
          absurd (n (omega (arith, was.0, mine.0)))

      kept_gives : IsKept given longer
      kept_gives =
          let mine = kept.away key h f in
          let apart : 0 ≢ key = λ (z : 0 ≡ key). omega (arith, z, mine.1) in
          record {
            some = omega (arith, given_long, kept.some);
            head = given_else 0 apart ∙ (front_head ∙ head_is);
            away = λ k b g. away_given k b g (ℕ_discrete k key) (ℕ_discrete k 0);
            count = inl (omega (arith, mine.0, mine.1, given_long, longer_by es e));
            chain = chain_more es e kept.chain under;
          }

  -- the list is put on the board after all that was seen, or nothing changes
  attempt_goes : (v : List (Entry X)) (e : Entry X) (n m : ℕ) → length v ≡ n → n + 2 ≡ 2 * m → Under v e.list
      → (cs : List Cell) (es : List (Entry X)) → IsKept cs es → IsPrefix v es → (b : Bool) → ((cell cs 0).0 == n) ≡ b
      → Goes IsKept shown moved 0 (v, (no_nib, None)) (λ k. either (k == n) (n + 1) k)
      (Attempts (step 0 n (n + 1) e) (v, (no_nib, None))) cs es
  attempt_goes v e n m len even under cs es kept pre true is =
      let found : (cell cs 0).0 ≡ length es = ap (λ (c : Cell). c.0) kept.head in
      let here : (cell cs 0).0 ≡ n = grind (arith, nat_tests) in
      let same : v ≡ es = whole v es pre (omega (arith, found, here, len)) in
      let idle : length es + 2 ≡ 2 * length cs =
      ⊎_elim (λ (p : length es + 2 ≡ 2 * length cs). p)
      (λ (p : length es + 3 ≡ 2 * length cs). absurd (omega (arith, p, found, here, even))) kept.count in
      let one : either ((cell cs 0).0 == n) (n + 1) (cell cs 0).0 ≡ length es + 1 = rw is (omega (arith, found, here)) in
      let seen : Under es e.list = subst (λ (l : List (Entry X)). Under l e.list) same under in
      let cells = length-set cs 0 (n + 1, true) in (
        adds,
        e ∷ [],
        None,
        tt,
        kept_adds cs es e _ kept one seen idle,
        inl (refl, refl),
        rw is (ap (λ (l : List (Entry X)). l ++ e ∷ []) (sym same), refl, omega (arith, idle, longer_by es e, cells)),
      )
  attempt_goes v e n m len even under cs es kept pre false is =
      let now : Cell = (either ((cell cs 0).0 == n) (n + 1) (cell cs 0).0, true) in
      let stays : set cs 0 now ≡ cs =
      rw is (ap (λ (c : Cell). set cs 0 ((cell cs 0).0, c.1)) (sym kept.head) ∙ set-get_or cs 0 (0, false)) in
      let still : IsKept (set cs 0 now) es = subst (λ (c : List Cell). IsKept c es) (sym stays) kept in (
        keeps,
        [],
        None,
        tt,
        subst (λ (l : List (Entry X)). IsKept (set cs 0 now) l) (sym (append-nil es)) still,
        inl (refl, refl),
        rw is tt,
      )

  pub attempts : (v : List (Entry X)) (e : Entry X) (n m : ℕ) → length v ≡ n → n + 2 ≡ 2 * m → Under v e.list
      → Moves IsKept shown moved 0 (v, (no_nib, None)) (λ k. either (k == n) (n + 1) k)
      (Attempts (step 0 n (n + 1) e) (v, (no_nib, None)))
  attempts v e n m len even under cs es kept pre away = (
    kept.some,
    ap (λ (c : Cell). c.1) kept.head,
    attempt_goes v e n m len even under cs es kept pre ((cell cs 0).0 == n) refl,
  )

  -- what is published is put after it
  pub concludes : (v : List (Entry X)) (e : Entry X) (n : ℕ) (p : Nib) → length v ≡ n → p.right ≡ may_write → 2 * p.key ≡ n + 1
      → Under v e.list
      → Moves IsKept shown moved 0 (v, (p, None)) (λ k. either (k == n) (n + 1) k) (Concludes (step 0 n (n + 1) e) (v, (p, None)))
  concludes v e n p len right key under cs es kept pre away =
      let mine = away right in
      let last = kept.away p.key mine.0 mine.1 in
      let found : (cell cs 0).0 ≡ length es = ap (λ (c : Cell). c.0) kept.head in
      let here : (cell cs 0).0 ≡ n = omega (arith, last.1, key, found) in
      let is : ((cell cs 0).0 == n) ≡ true = grind (arith, nat_tests) in
      let same : v ≡ es = whole v es pre (omega (arith, found, here, len)) in
      let one : either ((cell cs 0).0 == n) (n + 1) (cell cs 0).0 ≡ length es + 1 = rw is (omega (arith, found, here)) in
      let seen : Under es e.list = subst (λ (l : List (Entry X)). Under l e.list) same under in (
        kept.some,
        ap (λ (c : Cell). c.1) kept.head,
        (
          gives,
          e ∷ [],
          None,
          right,
          kept_gives cs es e _ kept one seen p.key p.value mine.0 mine.1,
          inl (refl, refl),
          ap (λ (l : List (Entry X)). l ++ e ∷ []) (sym same),
        ),
      )

  -- a board at the start
  chain_first : Chain {X = X} at_first
  chain_first zero j lt h told = absurd (true≢false (sym told))
  chain_first (suc i) j lt h told = absurd (omega arith)

  pub opens : IsKept {X = X} ((2, true) ∷ (0, true) ∷ []) at_first
  opens = record { some = omega arith; head = refl; away = away_first; count = inl refl; chain = chain_first }
