-- What is in the grammar is read, unless it is past the limits.
use Rattle.std.proofs.Common.{◌≡◌, ℕ, ◌+◌, ◌-◌, ◌≤◌, List, [], ◌∷◌, length, Result, Ok, Err, refl, sym, ap, arith, le_refl}
use Rattle.std.proofs.Common.{le_trans}
use Rattle.std.specs.Prelude.{max}
use Rattle.cel_lex.specs.declared.token.TokenKind.TheVariants as kind
use Rattle.cel_lex.specs.declared.token.Token.{Token}
use Rattle.cel_value.specs.declared.expr.Entry.{Entry}
use Rattle.cel_value.specs.declared.expr.UnaryOperator.TheVariants.{Not}
use Rattle.cel_parse.specs.declared.fault.ParseFault.{ParseFault}
use Rattle.cel_parse.specs.declared.fault.ParseFault.TheVariants.{Unexpected, TooDeep}
use Rattle.cel_parse.specs.declared.heads.Closer.{Closer}
use Rattle.cel_parse.specs.declared.heads.Closer.TheVariants as closer
use Rattle.cel_parse.specs.declared.tree.Tree.{Tree}
use Rattle.cel_parse.specs.Grammar.{Part, Expression, Derives, whole, chosen, or_one, or_more, and_one, and_more, relation_one}
use Rattle.cel_parse.specs.Grammar.{relation_more, sum_one, sum_more, product_one, product_more, bare, nots, minuses, not_one}
use Rattle.cel_parse.specs.Grammar.{not_more, negative, minus_one, minus_more, alone, selected, method_called, indexed, none}
use Rattle.cel_parse.specs.Grammar.{yes, no, int, uint, string, named, called, within, listed, mapped, Lists, no_items, items}
use Rattle.cel_parse.specs.Grammar.{Items, last_item, next_item, Maps, no_entries, entries, Entries, last_entry, next_entry}
use Rattle.cel_parse.specs.Limits.{depth, depth_of_items, depth_of_entry, depth_of_entries, nests, open_after, IsWithin}
use Rattle.cel_parse.specs.Descent.{◌>>=◌, Read, items as items_at, entry, entries as entries_at, expression, ended, all_of}
use Rattle.cel_parse.proofs.Depths.{depth-null, depth-truth, depth-number, depth-unsigned, depth-text, depth-unary}
use Rattle.cel_parse.proofs.Spans.{past_plain, balanced, end_of, end_le}
use Rattle.cel_parse.proofs.Fronts.{front_of, Begins, begins_of, end_front}
use Rattle.cel_parse.proofs.PastLimits.{IsPast, past_depth, past_brackets, past_length, Meets, gave_up, met, past_part}
use Rattle.cel_parse.proofs.RowsRead.{last_meets, next_meets, empty_by, some_by}
use Rattle.cel_parse.proofs.Claims.{Inner, Claim, ItemsClaim, ListsClaim, EntriesClaim, MapsClaim}
use Rattle.cel_parse.proofs.OperatorsRead.{operands, one, two, whole_meets, chosen_meets}
use Rattle.cel_parse.proofs.SignsRead.{unary_bare, unary_nots, unary_minuses, wrapped_meets, nots_first, nots_next}
use Rattle.cel_parse.proofs.SignsRead.{minuses_first, minuses_next, minuses_last}
use Rattle.cel_parse.proofs.PrimariesRead.{leaf_primary, item_meets, entry_meets, call_primary, name_primary, list_primary}
use Rattle.cel_parse.proofs.PrimariesRead.{map_primary, bracket_primary}
use Rattle.cel_parse.proofs.MembersRead.{alone_member, index_member, select_member, method_member}

module _ (source : List ℕ) where
  least_max : (n : ℕ) → max n 0 ≡ n
  least_max n = omega arith

  items_begin : {c : Closer} {ts rest : List Token} {es : List Tree} → Items c ts rest es → Begins ts
  items_begin (last_item d z) = begins_of d
  items_begin (next_item d q r) = begins_of d

  entries_begin : {ts rest : List Token} {es : List (Entry Tree)} → Entries ts rest es → Begins ts
  entries_begin (last_entry d q b z) = begins_of d
  entries_begin (next_entry d q b m r) = begins_of d

  mutual
    unfolding items_at entries_at

    complete_from : {p : Part} {ts rest : List Token} {e : Tree} → Derives p ts rest e → Claim source p ts rest e
    complete_from (whole d) = whole_meets source _ _ _ (complete_from d)
    complete_from (chosen dc hq da hk db) =
        chosen_meets source _ _ _ _ _ _ _ _ _ (balanced dc) (end_le (end_of dc)) (balanced da) (end_le (end_of da)) (complete_from dc) hq
        (complete_from da) hk (complete_from db)
    complete_from (or_one d) = one source 4 (operands source 3 (complete_from d))
    complete_from (or_more d j r) = two source 4 (balanced d) (end_le (end_of d)) (complete_from d) j (operands source 3 (complete_from r))
    complete_from (and_one d) = one source 3 (operands source 2 (complete_from d))
    complete_from (and_more d j r) = two source 3 (balanced d) (end_le (end_of d)) (complete_from d) j (operands source 2 (complete_from r))
    complete_from (relation_one d) = one source 2 (operands source 1 (complete_from d))
    complete_from (relation_more d j r) =
        two source 2 (balanced d) (end_le (end_of d)) (complete_from d) j (operands source 1 (complete_from r))
    complete_from (sum_one d) = one source 1 (operands source 0 (complete_from d))
    complete_from (sum_more d j r) = two source 1 (balanced d) (end_le (end_of d)) (complete_from d) j (operands source 0 (complete_from r))
    complete_from (product_one d) = one source 0 (complete_from d)
    complete_from (product_more d j r) = two source 0 (balanced d) (end_le (end_of d)) (complete_from d) j (complete_from r)
    complete_from (bare d) = unary_bare source (complete_from d)
    complete_from (nots d) = unary_nots source _ _ _ (complete_from d)
    complete_from (minuses d) = unary_minuses source _ _ _ (complete_from d)
    complete_from (not_one {t} {ts} {rest} {e} q d) =
        let deep = depth-unary source t.start Not e in (
          q,
          λ brackets opened turns limit w le le' lt. wrapped_meets source t.start Not
              (past_part (λ h. omega arith) (past_plain opened t ts (ap (open_after opened) q) (le_refl (nests opened ts))) (omega arith))
              (λ h. past_depth (omega arith))
              (nots_first source ts rest e (complete_from d) brackets opened turns (limit - 1) w (omega arith) (omega arith) lt),
        )
    complete_from (not_more {t} {ts} {rest} {e} q d) =
        let deep = depth-unary source t.start Not e in (
          q,
          λ brackets opened turns limit w le le' lt. wrapped_meets source t.start Not
              (past_part (λ h. omega arith) (past_plain opened t ts (ap (open_after opened) q) (le_refl (nests opened ts))) (omega arith))
              (λ h. past_depth (omega arith))
              (nots_next source ts rest e (complete_from d) brackets opened turns (limit - 1) w (omega arith) (omega arith) lt),
        )
    complete_from (negative {t} {n} {magnitude} {rest} q h) = (q, minuses_last source t n magnitude rest h)
    complete_from (minus_one {t} {ts} {rest} {e} q l d) = (q, minuses_first source t ts rest e q l (complete_from d))
    complete_from (minus_more {t} {ts} {rest} {e} q d) = (q, minuses_next source t ts rest e q (complete_from d))
    complete_from (alone d) = alone_member source _ _ _ (complete_from d)
    complete_from (selected d q h) = select_member source _ _ _ _ _ (complete_from d) q h
    complete_from (method_called d q h z r) =
        method_member source _ _ _ _ _ _ _ _ (balanced d) (end_le (end_of d)) (complete_from d) q h z (complete_list r)
    complete_from (indexed d q r h) =
        index_member source _ _ _ _ _ _ _ (balanced d) (end_le (end_of d)) (complete_from d) q (complete_from r) h
    complete_from (none {t} {rest} q) =
        leaf_primary source t kind.Null _ rest q refl refl (sym (depth-null source _)) (λ x h. absurd cc) refl
    complete_from (yes {t} {rest} q) =
        leaf_primary source t kind.True _ rest q refl refl (sym (depth-truth source _ _)) (λ x h. absurd cc) refl
    complete_from (no {t} {rest} q) =
        leaf_primary source t kind.False _ rest q refl refl (sym (depth-truth source _ _)) (λ x h. absurd cc) refl
    complete_from (int {t} {magnitude} {rest} q) =
        leaf_primary source t (kind.Int magnitude) _ rest q refl refl (sym (depth-number source _ _ _))
        (λ x h. record { token = t; magnitude = magnitude; kind = q; alone = refl }) refl
    complete_from (uint {t} {value} {rest} q) =
        leaf_primary source t (kind.Uint value) _ rest q refl refl (sym (depth-unsigned source _ _)) (λ x h. absurd cc) refl
    complete_from (string {t} {value} {rest} q) =
        leaf_primary source t (kind.Text value) _ rest q refl refl (sym (depth-text source _ _)) (λ x h. absurd cc) refl
    complete_from (named {t} {rest} q) = name_primary source t rest q
    complete_from (called {t} {o} {ts} {rest} {es} q h r) = call_primary source t o ts rest es q h (complete_list r)
    complete_from (within {o} {k} {ts} {rest} {e} q d z) = bracket_primary source o k ts rest e q (complete_from d) z
    complete_from (listed {o} {ts} {rest} {es} q r) = list_primary source o ts rest es q (complete_list r)
    complete_from (mapped {o} {ts} {rest} {es} q r) = map_primary source o ts rest es q (complete_map r)

    complete_list : {c : Closer} {ts rest : List Token} {es : List Tree} → Lists c ts rest es → ListsClaim source c ts rest es
    complete_list {c} {ts} {rest} (no_items z) brackets opened o opens q =
        empty_by source c (Inner source brackets) (depth source) (depth_of_items source) brackets opened q o ts opens brackets rest q refl z
    complete_list {c} {ts} {rest} {es} (items r) brackets opened o opens q =
        some_by source c (Inner source brackets) (depth source) (depth_of_items source) brackets opened q o ts opens brackets rest es q
        (items_begin r) (λ k e. complete_items r brackets (opened + 1) 16384 (omega arith) (omega arith))

    complete_items : {c : Closer} {ts rest : List Token} {es : List Tree} → Items c ts rest es → ItemsClaim source c ts rest es
    complete_items {c} (last_item {ts = ts} {mid} {e = e} d z) brackets k turns q pos =
        let here = end_front z in
        last_meets source c (Inner source brackets) (depth source) (depth_of_items source) turns k (least_max (depth source e))
        (item_meets source ts mid e brackets k (complete_from d) q (omega arith) pos) z
    complete_items {c} (next_item {ts = ts} {mid} {m = t} {e = e} d h r) brackets k turns q pos =
        let here : front_of t.kind ≡ 9 = ap front_of h in
        let short = end_le (end_of d) in
        next_meets source c (Inner source brackets) (depth source) (depth_of_items source) turns k refl
        (item_meets source ts (t ∷ mid) e brackets k (complete_from d) q (omega arith) pos) h (items_begin r)
        (le_trans (past_plain k t mid (ap (open_after k) h) (le_refl (nests k mid))) (balanced d k)) (omega arith)
        (λ left. complete_items r brackets k left q pos)

    complete_map : {ts rest : List Token} {es : List (Entry Tree)} → Maps ts rest es → MapsClaim source ts rest es
    complete_map {ts} {rest} (no_entries z) brackets opened o opens q =
        empty_by source closer.Brace (entry (Inner source brackets) source) (depth_of_entry source)
        (depth_of_entries source) brackets opened q o ts opens brackets rest q refl z
    complete_map {ts} {rest} {es} (entries r) brackets opened o opens q =
        some_by source closer.Brace (entry (Inner source brackets) source) (depth_of_entry source)
        (depth_of_entries source) brackets opened q o ts opens brackets rest es q (entries_begin r)
        (λ k e. complete_entries r brackets (opened + 1) 16384 (omega arith) (omega arith))

    complete_entries : {ts rest : List Token} {es : List (Entry Tree)} → Entries ts rest es → EntriesClaim source ts rest es
    complete_entries (last_entry {ts} {last} {mid} {k = t} {a} {b} d h f z) brackets k turns q pos =
        let here = end_front z in
        last_meets source closer.Brace (entry (Inner source brackets) source) (depth_of_entry source) (depth_of_entries source) turns k
        (least_max (depth_of_entry source (record { key = a; value = b })))
        (entry_meets source ts last mid t a b brackets k (balanced d) (end_le (end_of d)) (complete_from d) h (complete_from f) q
        (omega arith) pos) z
    complete_entries (next_entry {ts} {last} {mid} {k = t} {m = u} {a} {b} d h f z r) brackets k turns q pos =
        let here : front_of u.kind ≡ 9 = ap front_of z in
        let short = end_le (end_of d) in
        let shorter = end_le (end_of f) in
        let last_le : nests k last ≤ nests k ts =
        le_trans (past_plain k t last (ap (open_after k) h) (le_refl (nests k last))) (balanced d k) in
        next_meets source closer.Brace (entry (Inner source brackets) source) (depth_of_entry source) (depth_of_entries source) turns k refl
        (entry_meets source ts last (u ∷ mid) t a b brackets k (balanced d) (end_le (end_of d)) (complete_from d) h (complete_from f) q
        (omega arith) pos) z
        (entries_begin r)
        (le_trans (le_trans (past_plain k u mid (ap (open_after k) z) (le_refl (nests k mid))) (balanced f k)) last_le) (omega arith)
        (λ left. complete_entries r brackets k left q pos)

  -- the answer is the tree that is derived, unless it is past the limits
  pub data IsAnswer (ts : List Token) (out : Result Tree ParseFault) (e : Tree) : Type 0 where
    too_deep : out ≡ Err TooDeep → IsPast 100 0 ts (depth source e) → IsAnswer ts out e
    answered : out ≡ Ok e → IsAnswer ts out e

  answer_from : {ts : List Token} {out : Read} {e : Tree} {deep : ℕ} → Meets (IsPast 100 0 ts (depth source e)) out [] e deep
      → IsAnswer ts (out >>= ended) e
  answer_from (gave_up h p) = too_deep (ap (λ (o : Read). o >>= ended) h) p
  answer_from (met h) = answered (ap (λ (o : Read). o >>= ended) h)

  pub complete : (ts : List Token) (e : Tree) → Derives Expression ts [] e → IsAnswer ts (all_of source ts) e
  unfolding all_of expression
  complete ts e d = answer_from (complete_from d 100 0 100 100 (omega arith) (omega arith) (omega arith) (omega arith))

  -- if a token is unexpected, no tree is derived
  unexpected_answer : {ts : List Token} {out : Result Tree ParseFault} {e : Tree} (place : ℕ) → IsAnswer ts out e
      → out ≡ Err (Unexpected place) → ⊥
  unexpected_answer place (too_deep h p) q = cc
  unexpected_answer place (answered h) q = cc

  pub none_derived : (place : ℕ) (ts : List Token) (e : Tree) → all_of source ts ≡ Err (Unexpected place)
      → Derives Expression ts [] e → ⊥
  none_derived place ts e h d = unexpected_answer place (complete ts e d) h

  not_past : {ts : List Token} {e : Tree} → length ts ≤ 16384 → IsPast 100 0 ts (depth source e) → IsWithin source ts e → ⊥
  not_past few (past_depth h) w = let le = w.shallow in omega arith
  not_past few (past_brackets h) w = let le = w.closed in omega arith
  not_past few (past_length h) w = omega arith

  within_answer : {ts : List Token} {out : Result Tree ParseFault} {e : Tree} → length ts ≤ 16384 → IsAnswer ts out e
      → IsWithin source ts e → out ≡ Ok e
  within_answer few (too_deep h p) w = absurd (not_past few p w)
  within_answer few (answered h) w = h

  -- a tree within the limits is answered
  pub tree_answered : (ts : List Token) (e : Tree) → length ts ≤ 16384 → Derives Expression ts [] e → IsWithin source ts e
      → all_of source ts ≡ Ok e
  tree_answered ts e few d w = within_answer few (complete ts e d) w
