-- Others in place of the entry of a key, by its place, and in one of several blocks.
use Rattle.std.proofs.Common.{◌≡◌, ◌<◌, ◌≤◌, ◌+◌, ◌-◌, ℕ, zero, suc, true, false, cond, List, [], ◌∷◌, ◌++◌, length, take, drop}
use Rattle.std.proofs.Common.{append_assoc, append-nil, get_or, refl, sym, ap, ◌∙◌, subst, arith, add-one, true≢false}
use Rattle.std.proofs.lemmas.Grind.{flat_map-append}
use Rattle.std.proofs.lemmas.List.{drop-drop, drop_all, take-append-drop}
use Rattle.std.proofs.lemmas.Option.{get_or_from_slice_get}
use Rattle.std.specs.Prelude.{IfSome, None, Option, Some, option_to_list, slice_get}
use Rattle.std.specs.FinMap.Entries.{by_order}
use Rattle.std.specs.List.{All, AllByRecursion}
use Rattle.std.specs.Ordering.{is_eq, is_gt}
use Rattle.std.specs.declared.cmp.Ordering.{Ordering}
use Rattle.std.specs.declared.cmp.Ordering.TheVariants.{Less, Equal, Greater}
use Rattle.std.proofs.lemmas.List.Elements.{All-append, All-from_recursion, recursion_from_All}
use Rattle.std.proofs.Math.Seq.{drop-cons, take-suc}
use Rattle.vap_read.specs.Keys.{key_cmp}
use Rattle.vap_read.specs.declared.key.Key.{Key}
use Rattle.vap_read_objects.specs.Blocks.{joined}
use Rattle.vap_read_objects.specs.Tables.{AreInOrder, EndsAbove, IsBlockFor, StandBelow, not_at, place_for, replaced}
use Rattle.vap_read_objects.specs.declared.entry.Entry.{Entry}
use Rattle.vap_read_objects.proofs.Order.{above_to, greater_from, in_order_first, in_order_rest}

module _ {V : Type 0} where
  -- ---- by the place

  pub by_place : (k : Key) (new es : List (Entry V))
      → take (place_for k es) es ++ (new ++ not_at k (drop (place_for k es) es)) ≡ replaced k new es
  by_place k new [] = append-nil new
  by_place k new (e ∷ es) = at (key_cmp k e.key) refl (by_place k new es)
    where
      at : (o : Ordering) → key_cmp k e.key ≡ o
          → take (place_for k es) es ++ (new ++ not_at k (drop (place_for k es) es)) ≡ replaced k new es
          → take (cond (is_gt o) (suc (place_for k es)) 0) (e ∷ es)
          ++ (new ++ not_at k (drop (cond (is_gt o) (suc (place_for k es)) 0) (e ∷ es)))
          ≡ by_order o (new ++ e ∷ es) (new ++ es) (e ∷ replaced k new es)
      at Less h rest = ap (λ o. new ++ cond (is_eq o) es (e ∷ es)) h
      at Equal h rest = ap (λ o. new ++ cond (is_eq o) es (e ∷ es)) h
      at Greater h rest = ap (λ xs. e ∷ xs) rest

  -- what is before the key, the others, and what is after it
  pub spliced : (k : Key) (new es front back behind : List (Entry V)) (n : ℕ) → n ≡ place_for k es → front ≡ take n es → back ≡ drop n es
      → behind ≡ not_at k back → (front ++ new) ++ behind ≡ replaced k new es
  spliced k new es front back behind n place one two three =
      append_assoc front new behind
      ∙ ap (λ xs. xs ++ (new ++ behind)) (one ∙ ap (λ m. take m es) place)
      ∙ ap (λ xs. take (place_for k es) es ++ (new ++ xs)) (three ∙ ap (not_at k) (two ∙ ap (λ m. drop m es) place))
      ∙ by_place k new es

  -- ---- in blocks

  -- what is below the key is passed over
  passed : (k : Key) (new es fs : List (Entry V)) → AllByRecursion (λ e. is_gt (key_cmp k e.key) ≡ true) es
      → replaced k new (es ++ fs) ≡ es ++ replaced k new fs
  passed k new [] fs below = refl
  passed k new (e ∷ es) fs below =
      ap (λ o. by_order o (new ++ e ∷ (es ++ fs)) (new ++ (es ++ fs)) (e ∷ replaced k new (es ++ fs))) (greater_from _ below.0)
      ∙ ap (λ xs. e ∷ xs) (passed k new es fs below.1)

  -- after an entry that is not below the key, all stays
  before_last : (k : Key) (new es fs : List (Entry V)) (e : Entry V)
      → (is_gt (key_cmp k e.key) ≡ true → replaced k new (es ++ fs) ≡ replaced k new es ++ fs)
      → replaced k new (e ∷ (es ++ fs)) ≡ replaced k new (e ∷ es) ++ fs
  before_last k new es fs e rest = at (key_cmp k e.key) refl
    where
      at : (o : Ordering) → key_cmp k e.key ≡ o
          → by_order o (new ++ e ∷ (es ++ fs)) (new ++ (es ++ fs)) (e ∷ replaced k new (es ++ fs))
          ≡ by_order o (new ++ e ∷ es) (new ++ es) (e ∷ replaced k new es) ++ fs
      at Less h = sym (append_assoc new (e ∷ es) fs)
      at Equal h = sym (append_assoc new es fs)
      at Greater h = ap (λ xs. e ∷ xs) (rest (ap is_gt h))

  stays : (k : Key) (new es fs : List (Entry V)) (i : ℕ) (d : Entry V) → i + 1 ≡ length es → is_gt (key_cmp k (get_or es i d).key) ≡ false
      → replaced k new (es ++ fs) ≡ replaced k new es ++ fs
  stays k new [] fs i d last ends = absurd (omega (arith, last))
  stays k new (e ∷ es) fs zero d last ends =
      before_last k new es fs e (λ above. absurd (true≢false (sym above ∙ ends)))
  stays k new (e ∷ es) fs (suc i) d last ends =
      before_last k new es fs e (λ above. stays k new es fs i d (omega (arith, last)) ends)

  pub ends_there : (k : Key) (new es fs : List (Entry V)) → EndsAbove k es → replaced k new (es ++ fs) ≡ replaced k new es ++ fs
  ends_there k new [] fs ends = absurd (omega (arith, ends.0))
  ends_there k new (e ∷ es) fs ends =
      let last : length (e ∷ es) - 1 ≡ length es = omega arith in
      stays k new (e ∷ es) fs (length es) e (omega arith)
      (subst (λ n. is_gt (key_cmp k (get_or (e ∷ es) n e).key) ≡ false) last (ends.1 e))

  -- a block whose last entry is below the key
  pub all_below : (k : Key) (es : List (Entry V)) (last : Entry V) → AreInOrder es → 0 < length es → last ≡ get_or es (length es - 1) last
      → is_gt (key_cmp k last.key) ≡ true → StandBelow k es
  all_below k es last ordered some is above =
      All-from_recursion (λ (e : Entry V). is_gt (key_cmp k e.key) ≡ true) es
      (
      above_to k es (length es - 1) last ordered (omega (arith, some))
      (ap (λ (e : Entry V). key_cmp k e.key) (sym is) ∙ greater_from _ above)
      )

  pub below_last : (k : Key) (es : List (Entry V)) (last : Entry V) → AreInOrder es → slice_get es (length es - 1) ≡ Some last
      → is_gt (key_cmp k last.key) ≡ true → StandBelow k es
  below_last k [] last ordered is above = All-from_recursion (λ (e : Entry V). is_gt (key_cmp k e.key) ≡ true) [] tt
  below_last k (e ∷ es) last ordered is above =
      all_below k (e ∷ es) last ordered (omega arith) (sym (get_or_from_slice_get (e ∷ es) (length (e ∷ es) - 1) last last is)) above

  -- ---- which block

  joined_at : (blocks : List (List (Entry V))) (at : ℕ)
      → joined blocks ≡ joined (take at blocks) ++ (joined (take 1 (drop at blocks)) ++ joined (drop 1 (drop at blocks)))
  joined_at blocks at =
      ap joined (sym (take-append-drop at blocks))
      ∙ flat_map-append (λ (b : List (Entry V)). b) (take at blocks) (drop at blocks)
      ∙ ap (λ xs. joined (take at blocks) ++ xs)
      (
      ap joined (sym (take-append-drop 1 (drop at blocks)))
      ∙ flat_map-append (λ (b : List (Entry V)). b) (take 1 (drop at blocks)) (drop 1 (drop at blocks))
      )

  -- the block at a place, after which all stays, is the one for the key
  pub is_block : (k : Key) (blocks : List (List (Entry V))) (at : ℕ) → at ≤ length blocks
      → StandBelow k (joined (take at blocks))
      → ((new : List (Entry V)) → replaced k new (joined (take 1 (drop at blocks)) ++ joined (drop 1 (drop at blocks)))
      ≡ replaced k new (joined (take 1 (drop at blocks))) ++ joined (drop 1 (drop at blocks)))
      → IsBlockFor k blocks at
  is_block k blocks at within below ends = record {
    within = within;
    there = λ new.
        ap (replaced k new) (joined_at blocks at)
        ∙ passed k new (joined (take at blocks)) (joined (take 1 (drop at blocks)) ++ joined (drop 1 (drop at blocks)))
        (recursion_from_All (λ (e : Entry V). is_gt (key_cmp k e.key) ≡ true) (joined (take at blocks)) below)
        ∙ ap (λ xs. joined (take at blocks) ++ xs) (ends new);
  }

  one_block : (blocks : List (List (Entry V))) (at : ℕ) (block : List (Entry V)) → at < length blocks → block ≡ get_or blocks at block
      → take 1 (drop at blocks) ≡ block ∷ []
  one_block blocks at block lt is = ap (take 1) (drop-cons blocks at block lt) ∙ ap (λ b. b ∷ []) (sym is)

  joined_one : (block : List (Entry V)) → joined (block ∷ []) ≡ block
  joined_one block = append-nil block

  -- the first that ends above it
  pub found_above : (k : Key) (blocks : List (List (Entry V))) (at : ℕ) (block : List (Entry V)) → at < length blocks
      → block ≡ get_or blocks at block → StandBelow k (joined (take at blocks)) → EndsAbove k block → IsBlockFor k blocks at
  found_above k blocks at block lt is below ends =
      is_block k blocks at (omega (arith, lt)) below (λ new.
      subst
      (λ (b : List (Entry V)). replaced k new (b ++ joined (drop 1 (drop at blocks)))
      ≡ replaced k new b ++ joined (drop 1 (drop at blocks)))
      (sym (ap joined (one_block blocks at block lt is) ∙ joined_one block))
      (ends_there k new block (joined (drop 1 (drop at blocks))) ends))

  below_part : (k : Key) (blocks : List (List (Entry V))) (at : ℕ) → StandBelow k (joined blocks) → StandBelow k (joined (take at blocks))
  below_part k blocks at all =
      All-from_recursion (λ (e : Entry V). is_gt (key_cmp k e.key) ≡ true) (joined (take at blocks))
      (
      first_part (joined (take at blocks)) (joined (drop at blocks))
      (
      recursion_from_All (λ (e : Entry V). is_gt (key_cmp k e.key) ≡ true) _
      (
      subst (StandBelow k)
      (ap joined (sym (take-append-drop at blocks)) ∙ flat_map-append (λ (b : List (Entry V)). b) (take at blocks) (drop at blocks)) all
      )
      )
      )
    where
      first_part : (es fs : List (Entry V)) → AllByRecursion (λ e. is_gt (key_cmp k e.key) ≡ true) (es ++ fs)
          → AllByRecursion (λ e. is_gt (key_cmp k e.key) ≡ true) es
      first_part [] fs all = tt
      first_part (e ∷ es) fs all = (all.0, first_part es fs all.1)

  -- the last, if all entries are below it
  pub found_last : (k : Key) (blocks : List (List (Entry V))) → StandBelow k (joined blocks) → IsBlockFor k blocks (length blocks - 1)
  found_last k blocks below =
      is_block k blocks (length blocks - 1) (omega arith) (below_part k blocks (length blocks - 1) below) (λ new.
      let none : joined (drop 1 (drop (length blocks - 1) blocks)) ≡ [] =
      ap joined (drop-drop 1 (length blocks - 1) blocks ∙ drop_all (length blocks - 1 + 1) blocks (omega arith)) in
      rw none (ap (replaced k new) (append-nil _) ∙ sym (append-nil _)))

  pub found_end : (k : Key) (blocks : List (List (Entry V))) (at n : ℕ) → length blocks ≤ at → StandBelow k (joined (take at blocks))
      → n ≡ length blocks - 1 → IsBlockFor k blocks n
  found_end k blocks at n over below is =
      let all : take at blocks ≡ blocks =
      sym (append-nil (take at blocks)) ∙ ap (λ bs. take at blocks ++ bs) (sym (drop_all at blocks over)) ∙ take-append-drop at blocks in
      subst (IsBlockFor k blocks) (sym is) (found_last k blocks (subst (λ bs. StandBelow k (joined bs)) all below))

  -- the blocks before it, the entries of it with the others, and the blocks after it
  pub put_together : (k : Key) (new es first : List (Entry V)) (blocks front rest two behind made : List (List (Entry V))) (at : ℕ)
      → IsBlockFor k blocks at → front ≡ take at blocks → rest ≡ drop at blocks → first ≡ joined (take 1 rest) → es ≡ replaced k new first
      → joined two ≡ joined front ++ es → behind ≡ drop 1 rest → made ≡ two ++ behind → joined made ≡ replaced k new (joined blocks)
  put_together k new es first blocks front rest two behind made at is one left is_first put with_es others all =
      ap joined all
      ∙ flat_map-append (λ (b : List (Entry V)). b) two behind
      ∙ ap (λ xs. xs ++ joined behind) with_es
      ∙ append_assoc (joined front) es (joined behind)
      ∙ ap (λ bs. joined bs ++ (es ++ joined behind)) one
      ∙ ap (λ xs. joined (take at blocks) ++ (xs ++ joined behind))
      (put ∙ ap (replaced k new) (is_first ∙ ap (λ bs. joined (take 1 bs)) left))
      ∙ ap (λ bs. joined (take at blocks) ++ (replaced k new (joined (take 1 (drop at blocks))) ++ joined bs)) (others ∙ ap (drop 1) left)
      ∙ sym (is.there new)

  -- one more block that is below
  pub below_next : (k : Key) (blocks : List (List (Entry V))) (at : ℕ) (block : List (Entry V)) → at < length blocks
      → block ≡ get_or blocks at block → StandBelow k (joined (take at blocks)) → StandBelow k block
      → StandBelow k (joined (take (at + 1) blocks))
  below_next k blocks at block lt is all more =
      subst (StandBelow k)
      (
      sym (
      ap (λ n. joined (take n blocks)) (add-one at)
      ∙ ap joined (take-suc blocks at block lt)
      ∙ flat_map-append (λ (b : List (Entry V)). b) (take at blocks) (get_or blocks at block ∷ [])
      ∙ ap (λ b. joined (take at blocks) ++ joined (b ∷ [])) (sym is)
      ∙ ap (λ b. joined (take at blocks) ++ b) (joined_one block)
      )
      )
      (All-append (λ (e : Entry V). is_gt (key_cmp k e.key) ≡ true) (joined (take at blocks)) block all more)

  -- a block of blocks in order is in order
  pub block_in_order : (blocks : List (List (Entry V))) (at : ℕ) (block : List (Entry V)) → at < length blocks
      → block ≡ get_or blocks at block → AreInOrder (joined blocks) → AreInOrder block
  block_in_order blocks at block lt is ordered =
      subst AreInOrder (ap joined (one_block blocks at block lt is) ∙ joined_one block)
      (
      in_order_first (joined (take 1 (drop at blocks))) (joined (drop 1 (drop at blocks)))
      (in_order_rest (joined (take at blocks)) _ (subst AreInOrder (joined_at blocks at) ordered))
      )

  -- ---- all of them

  all_each : (P : Entry V → Type 0) (k : Key) (new es : List (Entry V)) → AllByRecursion P new → AllByRecursion P es
      → AllByRecursion P (replaced k new es)
  all_each P k new [] more all = more
  all_each P k new (e ∷ es) more all = at (key_cmp k e.key) (all_each P k new es more all.1)
    where
      behind : (ms xs : List (Entry V)) → AllByRecursion P ms → AllByRecursion P xs → AllByRecursion P (ms ++ xs)
      behind [] xs one two = two
      behind (m ∷ ms) xs one two = (one.0, behind ms xs one.1 two)

      at : (o : Ordering) → AllByRecursion P (replaced k new es)
          → AllByRecursion P (by_order o (new ++ e ∷ es) (new ++ es) (e ∷ replaced k new es))
      at Less rest = behind new (e ∷ es) more all
      at Equal rest = behind new es more all.1
      at Greater rest = (all.0, rest)

  -- what holds of each entry, and of the one in place of the one of a key
  pub all_set : (P : Entry V → Type 0) (k : Key) (entry : Option (Entry V)) (es : List (Entry V)) → IfSome entry P → All P es
      → All P (replaced k (option_to_list entry) es)
  all_set P k None es one all =
      All-from_recursion P (replaced k [] es) (all_each P k [] es tt (recursion_from_All P es all))
  all_set P k (Some e) es one all =
      All-from_recursion P (replaced k (e ∷ []) es) (all_each P k (e ∷ []) es (one, tt) (recursion_from_All P es all))
