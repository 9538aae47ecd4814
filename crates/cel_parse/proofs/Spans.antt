-- What follows a part of a text.
use Rattle.std.proofs.Common.{◌≡◌, ℕ, ◌+◌, ◌≤◌, true, List, [], ◌∷◌}
use Rattle.std.proofs.Common.{length, refl, ap, subst, ◌∙◌, arith, le_refl, le_trans}
use Rattle.cel_lex.specs.declared.token.TokenKind.{TokenKind}
use Rattle.cel_lex.specs.declared.token.TokenKind.TheVariants as kind
use Rattle.cel_lex.specs.declared.token.Token.{Token}
use Rattle.cel_value.specs.declared.expr.Entry.{Entry}
use Rattle.cel_parse.specs.declared.heads.Closer.{Closer}
use Rattle.cel_parse.specs.declared.heads.Closer.TheVariants as closer
use Rattle.cel_parse.specs.declared.tree.Joint.{Joint}
use Rattle.cel_parse.specs.declared.tree.Joint.TheVariants as joint
use Rattle.cel_parse.specs.declared.tree.Tree.{Tree}
use Rattle.cel_parse.specs.Grammar.{Part, Joins, joint_kind, is_selector, closes, Ends, end, comma_end}
use Rattle.cel_parse.specs.Grammar.{Derives, whole, chosen, or_one, or_more, and_one, and_more, relation_one}
use Rattle.cel_parse.specs.Grammar.{relation_more, sum_one, sum_more, product_one, product_more, bare, nots, minuses}
use Rattle.cel_parse.specs.Grammar.{not_one, not_more, negative, minus_one, minus_more, alone, selected, method_called}
use Rattle.cel_parse.specs.Grammar.{indexed, none, yes, no, int, uint, string, named}
use Rattle.cel_parse.specs.Grammar.{called, within, listed, mapped, Lists, no_items, items, Items}
use Rattle.cel_parse.specs.Grammar.{last_item, next_item, Maps, no_entries, entries, Entries, last_entry, next_entry}
use Rattle.cel_parse.specs.Limits.{open_after, nests, IsEnd, whole_text, behind}

pub joined_ends : {us vs ts : List Token} → IsEnd us vs → IsEnd vs ts → IsEnd us ts
joined_ends e whole_text = e
joined_ends e (behind d) = behind (joined_ends e d)

-- what follows a token of what is left
pub behind_first : {t : Token} {us ts : List Token} → IsEnd (t ∷ us) ts → IsEnd us ts
behind_first e = joined_ends (behind whole_text) e

end_of_end : {c : Closer} {ts rest : List Token} → Ends c ts rest → IsEnd rest ts
end_of_end (end q) = behind whole_text
end_of_end (comma_end m q h) = behind (behind whole_text)

-- what follows a part is left of the text
mutual
  pub end_of : {p : Part} {ts rest : List Token} {e : Tree} → Derives p ts rest e → IsEnd rest ts
  end_of (whole d) = end_of d
  end_of (chosen dc hq da hk db) = joined_ends (joined_ends (end_of db) (behind_first (end_of da))) (behind_first (end_of dc))
  end_of (or_one d) = end_of d
  end_of (or_more d j r) = joined_ends (end_of r) (behind_first (end_of d))
  end_of (and_one d) = end_of d
  end_of (and_more d j r) = joined_ends (end_of r) (behind_first (end_of d))
  end_of (relation_one d) = end_of d
  end_of (relation_more d j r) = joined_ends (end_of r) (behind_first (end_of d))
  end_of (sum_one d) = end_of d
  end_of (sum_more d j r) = joined_ends (end_of r) (behind_first (end_of d))
  end_of (product_one d) = end_of d
  end_of (product_more d j r) = joined_ends (end_of r) (behind_first (end_of d))
  end_of (bare d) = end_of d
  end_of (nots d) = end_of d
  end_of (minuses d) = end_of d
  end_of (not_one q d) = behind (end_of d)
  end_of (not_more q d) = behind (end_of d)
  end_of (negative q h) = behind (behind whole_text)
  end_of (minus_one q l d) = behind (end_of d)
  end_of (minus_more q d) = behind (end_of d)
  end_of (alone d) = end_of d
  end_of (selected d q h) = behind_first (behind_first (end_of d))
  end_of (method_called d q h o r) = joined_ends (end_of_list r) (behind_first (behind_first (behind_first (end_of d))))
  end_of (indexed d q r h) = joined_ends (behind_first (end_of r)) (behind_first (end_of d))
  end_of (none q) = behind whole_text
  end_of (yes q) = behind whole_text
  end_of (no q) = behind whole_text
  end_of (int q) = behind whole_text
  end_of (uint q) = behind whole_text
  end_of (string q) = behind whole_text
  end_of (named q) = behind whole_text
  end_of (called q h r) = behind (behind (end_of_list r))
  end_of (within q d h) = behind (behind_first (end_of d))
  end_of (listed q r) = behind (end_of_list r)
  end_of (mapped q r) = behind (end_of_map r)

  pub end_of_list : {c : Closer} {ts rest : List Token} {es : List Tree} → Lists c ts rest es → IsEnd rest ts
  end_of_list (no_items e) = end_of_end e
  end_of_list (items r) = end_of_items r

  pub end_of_items : {c : Closer} {ts rest : List Token} {es : List Tree} → Items c ts rest es → IsEnd rest ts
  end_of_items (last_item d e) = joined_ends (end_of_end e) (end_of d)
  end_of_items (next_item d q r) = joined_ends (end_of_items r) (behind_first (end_of d))

  pub end_of_map : {ts rest : List Token} {es : List (Entry Tree)} → Maps ts rest es → IsEnd rest ts
  end_of_map (no_entries e) = end_of_end e
  end_of_map (entries r) = end_of_entries r

  pub end_of_entries : {ts rest : List Token} {es : List (Entry Tree)} → Entries ts rest es → IsEnd rest ts
  end_of_entries (last_entry d q b e) = joined_ends (end_of_end e) (joined_ends (end_of b) (behind_first (end_of d)))
  end_of_entries (next_entry d q b m r) = joined_ends (end_of_entries r) (joined_ends (behind_first (end_of b)) (behind_first (end_of d)))

-- what is left is no longer
pub end_le : {us ts : List Token} → IsEnd us ts → length us ≤ length ts
end_le whole_text = le_refl _
end_le (behind e) = let le = end_le e in omega arith

-- what follows a token that is no bracket has no fewer brackets open in front of it
pub nests_behind : (k : ℕ) (t : Token) (ts : List Token) → nests (open_after k t.kind) ts ≤ nests k (t ∷ ts)
nests_behind k t ts = omega arith

pub past_plain : (k : ℕ) (t : Token) (ts : List Token) {n : ℕ} → open_after k t.kind ≡ k → n ≤ nests k ts
    → n ≤ nests k (t ∷ ts)
past_plain k t ts {n} q le =
    let u : nests k ts ≤ nests k (t ∷ ts) = subst (λ m. nests m ts ≤ nests k (t ∷ ts)) q (nests_behind k t ts) in
    le_trans le u

pub joint_plain : (o : Joint) (k : ℕ) → open_after k (joint_kind o) ≡ k
joint_plain (joint.Infix o) k = refl
joint_plain joint.In k = refl

pub selector_plain : (t : TokenKind) (k : ℕ) → is_selector t ≡ true → open_after k t ≡ k
selector_plain kind.Name k h = refl
selector_plain kind.Reserved k h = refl
selector_plain _ k h = absurd cc

pub closing_shuts : (c : Closer) (t : TokenKind) (k : ℕ) → closes c t ≡ true → open_after (k + 1) t ≡ k
closing_shuts closer.Parenthesis kind.Close k h = omega arith
closing_shuts closer.Bracket kind.CloseBracket k h = omega arith
closing_shuts closer.Brace kind.CloseBrace k h = omega arith
closing_shuts _ _ k h = absurd cc

-- after a token that opens or closes a bracket
pub past_token : (k m : ℕ) (t : Token) (ts : List Token) → open_after k t.kind ≡ m → nests m ts ≤ nests k (t ∷ ts)
past_token k m t ts q = subst (λ n. nests n ts ≤ nests k (t ∷ ts)) q (nests_behind k t ts)

pub past_operator : {t : Token} {o : Joint} {n : ℕ} {a b : ℕ} (mid : List Token) (k : ℕ) → Joins t o n → nests k (t ∷ mid) ≤ b
    → a ≤ nests k mid → a ≤ b
past_operator {t} {o} mid k j h g = le_trans (past_plain k t mid (ap (open_after k) j.kind ∙ joint_plain o k) g) h

pub balanced_end : {c : Closer} {ts rest : List Token} → Ends c ts rest → (k : ℕ) → nests k rest ≤ nests (k + 1) ts
balanced_end {c} (end {k = t} {rest} q) k = past_token (k + 1) k t rest (closing_shuts c t.kind k q)
balanced_end {c} (comma_end {m} {k = t} {rest} z h q) k =
    past_plain (k + 1) m (t ∷ rest) (ap (open_after (k + 1)) h) (past_token (k + 1) k t rest (closing_shuts c t.kind k q))

-- a part closes the brackets that it opens
mutual
  pub balanced : {p : Part} {ts rest : List Token} {e : Tree} → Derives p ts rest e → (k : ℕ) → nests k rest ≤ nests k ts
  balanced (whole d) k = balanced d k
  balanced (chosen {mid = mid} {last} {rest} {q} {k = t} dc hq da hk db) k =
      let a = balanced dc k in let b = balanced da k in let c = balanced db k in
      let x : open_after k q.kind ≡ k = ap (open_after k) hq in
      let y : open_after k t.kind ≡ k = ap (open_after k) hk in
      let u : nests k mid ≤ nests k (q ∷ mid) = subst (λ n. nests n mid ≤ nests k (q ∷ mid)) x (nests_behind k q mid) in
      let v : nests k last ≤ nests k (t ∷ last) = subst (λ n. nests n last ≤ nests k (t ∷ last)) y (nests_behind k t last) in
      omega arith
  balanced (or_one d) k = balanced d k
  balanced (or_more d j r) k = past_operator _ k j (balanced d k) (balanced r k)
  balanced (and_one d) k = balanced d k
  balanced (and_more d j r) k = past_operator _ k j (balanced d k) (balanced r k)
  balanced (relation_one d) k = balanced d k
  balanced (relation_more d j r) k = past_operator _ k j (balanced d k) (balanced r k)
  balanced (sum_one d) k = balanced d k
  balanced (sum_more d j r) k = past_operator _ k j (balanced d k) (balanced r k)
  balanced (product_one d) k = balanced d k
  balanced (product_more d j r) k = past_operator _ k j (balanced d k) (balanced r k)
  balanced (bare d) k = balanced d k
  balanced (nots d) k = balanced d k
  balanced (minuses d) k = balanced d k
  balanced (not_one {t} {ts} q d) k = past_plain k t ts (ap (open_after k) q) (balanced d k)
  balanced (not_more {t} {ts} q d) k = past_plain k t ts (ap (open_after k) q) (balanced d k)
  balanced (negative {t} {n} {magnitude} {rest} q h) k =
      past_plain k t (n ∷ rest) (ap (open_after k) q) (past_plain k n rest (ap (open_after k) h) (le_refl (nests k rest)))
  balanced (minus_one {t} {ts} q l d) k = past_plain k t ts (ap (open_after k) q) (balanced d k)
  balanced (minus_more {t} {ts} q d) k = past_plain k t ts (ap (open_after k) q) (balanced d k)
  balanced (alone d) k = balanced d k
  balanced (selected {rest = rest} {d = p} {f = t} d q h) k =
      le_trans
      (past_plain k p (t ∷ rest) (ap (open_after k) q) (past_plain k t rest (selector_plain t.kind k h) (le_refl (nests k rest))))
      (balanced d k)
  balanced (method_called {mid = mid} {d = p} {f = t} {o} d q h z r) k =
      le_trans
      (le_trans (balanced_list r k)
      (past_plain k p (t ∷ o ∷ mid) (ap (open_after k) q)
      (past_plain k t (o ∷ mid) (selector_plain t.kind k h) (past_token k (k + 1) o mid (ap (open_after k) z)))))
      (balanced d k)
  balanced (indexed {mid = mid} {rest} {o} {k = t} d q r h) k =
      le_trans
      (le_trans
      (le_trans (past_token (k + 1) k t rest (closing_shuts closer.Bracket t.kind k (ap (closes closer.Bracket) h))) (balanced r (k + 1)))
      (past_token k (k + 1) o mid (ap (open_after k) q)))
      (balanced d k)
  balanced (none {t} {rest} q) k = past_plain k t rest (ap (open_after k) q) (le_refl (nests k rest))
  balanced (yes {t} {rest} q) k = past_plain k t rest (ap (open_after k) q) (le_refl (nests k rest))
  balanced (no {t} {rest} q) k = past_plain k t rest (ap (open_after k) q) (le_refl (nests k rest))
  balanced (int {t} {magnitude} {rest} q) k = past_plain k t rest (ap (open_after k) q) (le_refl (nests k rest))
  balanced (uint {t} {value} {rest} q) k = past_plain k t rest (ap (open_after k) q) (le_refl (nests k rest))
  balanced (string {t} {value} {rest} q) k = past_plain k t rest (ap (open_after k) q) (le_refl (nests k rest))
  balanced (named {t} {rest} q) k = past_plain k t rest (ap (open_after k) q) (le_refl (nests k rest))
  balanced (called {t} {o} {ts} q h r) k =
      le_trans (balanced_list r k) (past_plain k t (o ∷ ts) (ap (open_after k) q) (past_token k (k + 1) o ts (ap (open_after k) h)))
  balanced (within {o} {k = t} {ts} {rest} q d h) k =
      le_trans
      (le_trans (past_token (k + 1) k t rest (closing_shuts closer.Parenthesis t.kind k (ap (closes closer.Parenthesis) h)))
      (balanced d (k + 1)))
      (past_token k (k + 1) o ts (ap (open_after k) q))
  balanced (listed {o} {ts} q r) k = le_trans (balanced_list r k) (past_token k (k + 1) o ts (ap (open_after k) q))
  balanced (mapped {o} {ts} q r) k = le_trans (balanced_map r k) (past_token k (k + 1) o ts (ap (open_after k) q))

  pub balanced_list : {c : Closer} {ts rest : List Token} {es : List Tree} → Lists c ts rest es → (k : ℕ)
      → nests k rest ≤ nests (k + 1) ts
  balanced_list (no_items e) k = balanced_end e k
  balanced_list (items r) k = balanced_items r k

  pub balanced_items : {c : Closer} {ts rest : List Token} {es : List Tree} → Items c ts rest es → (k : ℕ)
      → nests k rest ≤ nests (k + 1) ts
  balanced_items (last_item d e) k = le_trans (balanced_end e k) (balanced d (k + 1))
  balanced_items (next_item {mid = mid} {m = m} d q r) k =
      le_trans (past_plain (k + 1) m mid (ap (open_after (k + 1)) q) (balanced_items r k)) (balanced d (k + 1))

  pub balanced_map : {ts rest : List Token} {es : List (Entry Tree)} → Maps ts rest es → (k : ℕ) → nests k rest ≤ nests (k + 1) ts
  balanced_map (no_entries e) k = balanced_end e k
  balanced_map (entries r) k = balanced_entries r k

  pub balanced_entries : {ts rest : List Token} {es : List (Entry Tree)} → Entries ts rest es → (k : ℕ)
      → nests k rest ≤ nests (k + 1) ts
  balanced_entries (last_entry {last = last} {k = t} d q b e) k =
      le_trans (past_plain (k + 1) t last (ap (open_after (k + 1)) q) (le_trans (balanced_end e k) (balanced b (k + 1))))
      (balanced d (k + 1))
  balanced_entries (next_entry {last = last} {mid} {k = t} {m} d q b h r) k =
      le_trans
      (past_plain (k + 1) t last (ap (open_after (k + 1)) q)
      (le_trans (past_plain (k + 1) m mid (ap (open_after (k + 1)) h) (balanced_entries r k)) (balanced b (k + 1))))
      (balanced d (k + 1))

pub nests_ge : (k : ℕ) (ts : List Token) → k ≤ nests k ts
nests_ge k [] = le_refl k
nests_ge k (t ∷ ts) = omega arith
