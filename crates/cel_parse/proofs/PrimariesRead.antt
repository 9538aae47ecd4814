-- What is in the grammar of primaries is read, unless it is past the limits.
use Rattle.std.proofs.Common.{◌≡◌, ℕ, zero, suc, ◌+◌, ◌<◌, ◌≤◌, Bool, true, false, List, ◌∷◌, length, Some, None, Ok, refl, sym}
use Rattle.std.proofs.Common.{ap, ◌∙◌, arith, le_refl, le_trans}
use Rattle.cel_lex.specs.declared.token.TokenKind.{TokenKind}
use Rattle.cel_lex.specs.declared.token.TokenKind.TheVariants as kind
use Rattle.cel_lex.specs.declared.token.Token.{Token}
use Rattle.cel_value.specs.declared.expr.Entry.{Entry}
use Rattle.cel_parse.specs.declared.heads.Closer.{Closer}
use Rattle.cel_parse.specs.declared.heads.Closer.TheVariants as closer
use Rattle.cel_parse.specs.declared.tree.Tree.{Tree, Call as call, List as list, Map as map}
use Rattle.cel_parse.specs.Grammar.{Expression, closes, IsLone}
use Rattle.cel_parse.specs.Limits.{depth, is_test, call_depth, depth_of_items, depth_of_entry, depth_of_entries, nests}
use Rattle.cel_parse.specs.Limits.{open_after}
use Rattle.cel_parse.specs.Descent.{◌>>=◌, head_if, is_bang, is_open, is_colon, is_minus, number_of, closed, entry, literal_by}
use Rattle.cel_parse.specs.Descent.{called_by, called as called_at, primary_by, primary, expression}
use Rattle.cel_parse.proofs.Depths.{depth-name, depth-call, depth-list, depth-map}
use Rattle.cel_parse.proofs.Spans.{past_plain, past_token, nests_ge}
use Rattle.cel_parse.proofs.Fronts.{head_kept, head_not, front_of, front, closing_front}
use Rattle.cel_parse.proofs.PastLimits.{IsPast, past_depth, past_brackets, Meets, gave_up, met, meets_at, meets_then, if_none}
use Rattle.cel_parse.proofs.PastLimits.{if_some, node_meets, leaf_deep, past_part, same_length}
use Rattle.cel_parse.proofs.Claims.{Inner, IsPrimary, Claim, ListsClaim, MapsClaim}

module _ (source : List ℕ) where
  -- a leaf, by its kind
  pub leaf_primary : (t : Token) (k : TokenKind) (tree : Tree) (rest : List Token) → t.kind ≡ k → is_bang k ≡ false
      → is_minus k ≡ false → 1 ≡ depth source tree
      → ((x : ℕ × List Token) → number_of k rest ≡ Some x → IsLone (t ∷ rest) rest) → literal_by k t.start ≡ Some tree
      → IsPrimary source (t ∷ rest) rest tree
  unfolding primary
  leaf_primary t k tree rest q b m deep single lit = record {
    bang = head_not t is_bang rest (ap is_bang q ∙ b);
    minus = head_not t is_minus rest (ap is_minus q ∙ m);
    single = λ x h. single x (ap (λ k. number_of k rest) (sym q) ∙ h);
    by = λ brackets opened z no_call. if_some _ _ (ap (λ (j : TokenKind). literal_by j t.start) q ∙ lit)
        (met (ap (λ (d : ℕ). Ok (record { what = tree; deep = d; rest = rest })) deep));
  }

  -- what is no literal, by its kind
  other_primary : (t : Token) (k : TokenKind) (tree : Tree) (ts rest : List Token) → t.kind ≡ k → is_bang k ≡ false
      → is_minus k ≡ false → ((x : ℕ × List Token) → number_of k ts ≡ Some x → ⊥) → literal_by k t.start ≡ None
      → ((brackets opened : ℕ) → opened + brackets ≡ 100 → head_if is_open rest ≡ None → Meets
      (IsPast 100 opened (t ∷ ts) (depth source tree)) (primary_by (Inner source brackets) source brackets k t ts) rest tree
      (depth source tree))
      → IsPrimary source (t ∷ ts) rest tree
  unfolding primary
  other_primary t k tree ts rest q b m single lit by = record {
    bang = head_not t is_bang ts (ap is_bang q ∙ b);
    minus = head_not t is_minus ts (ap is_minus q ∙ m);
    single = λ x h. absurd (single x (ap (λ k. number_of k ts) (sym q) ∙ h));
    by = λ brackets opened z no_call. if_none _ (ap (λ (j : TokenKind). literal_by j t.start) q ∙ lit)
        (meets_at (ap (λ (j : TokenKind). primary_by (Inner source brackets) source brackets j t ts) q) (by brackets opened z no_call));
  }

  closed_meets : {past : Type 0} (c : Closer) (k : Token) (e : Tree) (rest : List Token) → closes c k.kind ≡ true
      → Meets past (closed source c (record { what = e; deep = depth source e; rest = k ∷ rest })) rest e (depth source e)
  unfolding closed
  closed_meets c k e rest q = if_some _ _ (head_kept k (closes c) rest q) (met refl)

  -- an expression in brackets
  pub inside_meets : (c : Closer) (o k : Token) (ts rest : List Token) (e : Tree) (brackets opened : ℕ)
      → open_after opened o.kind ≡ opened + 1 → Claim source Expression ts (k ∷ rest) e → closes c k.kind ≡ true
      → opened + brackets ≡ 100
      → Meets (IsPast 100 opened (o ∷ ts) (depth source e)) (Inner source brackets ts >>= closed source c) rest e (depth source e)
  unfolding expression
  inside_meets c o k ts rest e zero opened opens d q w =
      let u = past_token opened (opened + 1) o ts opens in
      let v = nests_ge (opened + 1) ts in
      gave_up refl (past_brackets (omega arith))
  inside_meets c o k ts rest e (suc brackets) opened opens d q w =
      let here = closing_front c k.kind q in
      meets_then (closed source c) (past_part (λ h. h) (past_token opened (opened + 1) o ts opens) (omega arith))
      (d brackets (opened + 1) 100 100 (omega arith) (omega arith) (omega arith) (omega arith)) (closed_meets c k e rest q)

  -- an item after an opening bracket
  pub item_meets : (ts rest : List Token) (e : Tree) (brackets k : ℕ) → Claim source Expression ts rest e → k + brackets ≡ 101
      → 6 < front rest → 0 < brackets → Meets (IsPast 100 k ts (depth source e)) (Inner source brackets ts) rest e (depth source e)
  unfolding expression
  item_meets ts rest e zero k d w lt pos = absurd (omega arith)
  item_meets ts rest e (suc brackets) k d w lt pos = d brackets k 100 100 (omega arith) (omega arith) (omega arith) lt

  -- a key, ":" and a value
  pub entry_meets : (ts last rest : List Token) (k : Token) (a b : Tree) (brackets n : ℕ)
      → ((j : ℕ) → nests j (k ∷ last) ≤ nests j ts) → length (k ∷ last) ≤ length ts → Claim source Expression ts (k ∷ last) a
      → k.kind ≡ kind.Colon → Claim source Expression last rest b → n + brackets ≡ 101 → 6 < front rest → 0 < brackets → Meets
      (IsPast 100 n ts (depth_of_entry source (record { key = a; value = b }))) (entry (Inner source brackets) source ts) rest
      (record { key = a; value = b }) (depth_of_entry source (record { key = a; value = b }))
  unfolding entry
  entry_meets ts last rest k a b brackets n bal short da q db w lt pos =
      let at_k : front_of k.kind ≡ 9 = ap front_of q in
      let last_le : nests n last ≤ nests n ts = le_trans (past_plain n k last (ap (open_after n) q) (le_refl (nests n last))) (bal n) in
      meets_then _ (past_part (λ h. omega arith) (le_refl (nests n ts)) (same_length ts))
      (item_meets ts (k ∷ last) a brackets n da w (omega arith) pos)
      (if_some _ _ (head_kept k is_colon last (ap is_colon q))
      (meets_then _ (past_part (λ h. omega arith) last_le (omega arith)) (item_meets last rest b brackets n db w lt pos) (met refl)))

  test_meets : {past : Type 0} (t : Bool) (place : ℕ) (es : List Tree) (rest : List Token) → t ≡ is_test source place es
      → (100 < depth source (call place es) → past)
      → Meets past (called_by t (call place es) (depth_of_items source es) rest) rest (call place es) (depth source (call place es))
  test_meets true place es rest h f =
      met
      (ap (λ (d : ℕ). Ok (record { what = call place es; deep = d; rest = rest }))
      (ap (λ (x : Bool). call_depth x (depth_of_items source es)) h ∙ sym (depth-call source place es)))
  test_meets false place es rest h f =
      node_meets (call place es) (depth_of_items source es) _ rest
      (ap (λ (x : Bool). call_depth x (depth_of_items source es)) h ∙ sym (depth-call source place es)) f

  call_at_least : (t : Bool) (n : ℕ) → n ≤ call_depth t n
  call_at_least true n = le_refl n
  call_at_least false n = omega arith

  pub call_primary : (t o : Token) (ts rest : List Token) (es : List Tree) → t.kind ≡ kind.Name → o.kind ≡ kind.Open
      → ListsClaim source closer.Parenthesis ts rest es → IsPrimary source (t ∷ o ∷ ts) rest (call t.start es)
  unfolding called_at
  call_primary t o ts rest es q h l =
      other_primary t kind.Name (call t.start es) (o ∷ ts) rest q refl refl (λ x z. absurd cc) refl
      (λ brackets opened w no_call.
      let deep = depth-call source t.start es in
      let least = call_at_least (is_test source t.start es) (depth_of_items source es) in
      if_some _ _ (head_kept o is_open ts (ap is_open h))
      (meets_then (called_at source t.start)
      (past_part (λ z. omega arith) (past_plain opened t (o ∷ ts) (ap (open_after opened) q) (le_refl (nests opened (o ∷ ts))))
      (omega arith)) (l brackets opened o (ap (open_after opened) h) w)
      (test_meets (is_test source t.start es) t.start es rest refl past_depth)))

  pub name_primary : (t : Token) (rest : List Token) → t.kind ≡ kind.Name
      → IsPrimary source (t ∷ rest) rest (Rattle.cel_parse.specs.declared.tree.Tree.Name t.start)
  name_primary t rest q =
      other_primary t kind.Name _ rest rest q refl refl (λ x z. absurd cc) refl
      (λ brackets opened w no_call. if_none _ no_call (met (leaf_deep source _ rest (depth-name source t.start))))

  pub list_primary : (o : Token) (ts rest : List Token) (es : List Tree) → o.kind ≡ kind.OpenBracket
      → ListsClaim source closer.Bracket ts rest es → IsPrimary source (o ∷ ts) rest (list o.start es)
  list_primary o ts rest es q l =
      other_primary o kind.OpenBracket (list o.start es) ts rest q refl refl (λ x z. absurd cc) refl
      (λ brackets opened w no_call.
      let deep = depth-list source o.start es in
      meets_then _ (past_part (λ z. omega arith) (le_refl (nests opened (o ∷ ts))) (same_length (o ∷ ts)))
      (l brackets opened o (ap (open_after opened) q) w)
      (node_meets (list o.start es) (depth_of_items source es) _ rest (sym deep) past_depth))

  pub map_primary : (o : Token) (ts rest : List Token) (es : List (Entry Tree)) → o.kind ≡ kind.OpenBrace → MapsClaim source ts rest es
      → IsPrimary source (o ∷ ts) rest (map o.start es)
  map_primary o ts rest es q l =
      other_primary o kind.OpenBrace (map o.start es) ts rest q refl refl (λ x z. absurd cc) refl
      (λ brackets opened w no_call.
      let deep = depth-map source o.start es in
      meets_then _ (past_part (λ z. omega arith) (le_refl (nests opened (o ∷ ts))) (same_length (o ∷ ts)))
      (l brackets opened o (ap (open_after opened) q) w)
      (node_meets (map o.start es) (depth_of_entries source es) _ rest (sym deep) past_depth))

  pub bracket_primary : (o k : Token) (ts rest : List Token) (e : Tree) → o.kind ≡ kind.Open → Claim source Expression ts (k ∷ rest) e
      → k.kind ≡ kind.Close → IsPrimary source (o ∷ ts) rest e
  bracket_primary o k ts rest e q d z =
      other_primary o kind.Open e ts rest q refl refl (λ x z. absurd cc) refl
      (λ brackets opened w no_call. inside_meets closer.Parenthesis o k ts rest e brackets opened (ap (open_after opened) q) d
      (ap (closes closer.Parenthesis) z) w)
