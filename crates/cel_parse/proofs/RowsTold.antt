-- What is read between brackets is in the grammar and within the limits, and what is too deep exceeds them.
use Rattle.std.proofs.Common.{◌≡◌, ℕ, zero, suc, ◌+◌, ◌≤◌, List, [], ◌∷◌, length}
use Rattle.std.proofs.Common.{Some, None, Ok, refl, sym, ap, ◌∙◌, inl, inr, arith}
use Rattle.std.specs.Prelude.{max, ◌⊎◌}
use Rattle.cel_lex.specs.declared.token.TokenKind.TheVariants as kind
use Rattle.cel_lex.specs.declared.token.Token.{Token}
use Rattle.cel_parse.specs.declared.heads.Closer.{Closer}
use Rattle.cel_parse.specs.Grammar.{Ends, end, comma_end}
use Rattle.cel_parse.specs.Limits.{open_after, nests, IsEnd, whole_text, behind, brackets as too_many}
use Rattle.cel_parse.specs.Descent.{◌>>=◌, Found, ReadOf, unexpected as not_expected, head_if, is_comma, if_at, spare_comma_at}
use Rattle.cel_parse.specs.Descent.{opened as opened_at, stop, go_on, step_at, with_first, moved, items_from, any_items}
use Rattle.cel_parse.proofs.Spans.{nests_ge, past_plain, past_token, end_le, behind_first, closing_shuts}
use Rattle.cel_parse.proofs.Steps.{head_cases, end_cases, option_cases, comma_is}
use Rattle.cel_parse.proofs.Told.{Relation, Told, found, exceeded, unexpected, Over, exceeds, long, over_from, told_then}

pub end_within : {c : Closer} {us rest : List Token} → Ends c us rest → (k : ℕ) → k + 1 ≤ 100
    → nests (k + 1) us ≤ max 100 (nests k rest)
end_within {c} (end {k = t} {rest} q) k few =
    let h : nests (open_after (k + 1) t.kind) rest ≡ nests k rest = ap (λ m. nests m rest) (closing_shuts c t.kind k q) in
    omega arith
end_within {c} (comma_end {m} {k = t} {rest} z h q) k few =
    let p : nests (open_after (k + 1) m.kind) (t ∷ rest) ≡ nests (k + 1) (t ∷ rest) =
    ap (λ j. nests (open_after (k + 1) j) (t ∷ rest)) h in
    let h : nests (open_after (k + 1) t.kind) rest ≡ nests k rest = ap (λ m. nests m rest) (closing_shuts c t.kind k q) in
    omega arith

pub open_within : (k n : ℕ) (o : Token) (us : List Token) → open_after k o.kind ≡ k + 1 → k ≤ 100
    → nests (k + 1) us ≤ max 100 n → nests k (o ∷ us) ≤ max 100 n
open_within k n o us q few le =
    let h : nests (open_after k o.kind) us ≡ nests (k + 1) us = ap (λ m. nests m us) q in
    omega arith

-- how lists of items and of entries are derived, from how one is, and how deep they are
pub record IsRow {A : Type 0} (c : Closer) (D : Relation A) (size : A → ℕ) (DI DL : Relation (List A)) (sizes : List A → ℕ)
    : Type 0 where
  pub no_size : sizes [] ≡ 0
  pub one_size : (a : A) → sizes (a ∷ []) ≡ size a
  pub more_size : (a : A) (xs : List A) → sizes (a ∷ xs) ≡ max (size a) (sizes xs)
  pub none : {ts rest : List Token} → Ends c ts rest → DL ts rest []
  pub some : {ts rest : List Token} {xs : List A} → DI ts rest xs → DL ts rest xs
  pub last : {ts mid rest : List Token} {a : A} → D ts mid a → Ends c mid rest → DI ts rest (a ∷ [])
  pub next : {ts mid rest : List Token} {m : Token} {a : A} {xs : List A} → D ts (m ∷ mid) a → m.kind ≡ kind.Comma
      → DI mid rest xs → DI ts rest (a ∷ xs)
  pub end_of : {ts rest : List Token} {a : A} → D ts rest a → IsEnd rest ts
  pub balanced : {ts rest : List Token} {a : A} → D ts rest a → (k : ℕ) → nests k rest ≤ nests k ts

module _ {A : Type 0} (source : List ℕ) (brackets opened : ℕ) (room : opened + brackets ≡ 100) (c : Closer)
    (item : List Token → ReadOf A) (D : Relation A) (size : A → ℕ) (DI DL : Relation (List A)) (sizes : List A → ℕ)
    (rules : IsRow c D size DI DL sizes)
    (item_told : (ts : List Token) → Told (Over source (opened + 1) ts) D size (opened + 1) (opened + 1) ts (item ts)) where
  abbrev Row : ℕ → List Token → Type 0
  Row turns ts = Over source (opened + 1) ts ⊎ (turns ≤ length ts)

  abbrev Tells : ℕ → List Token → ReadOf (List A) → Type 0
  Tells turns ts r = Told (Row turns ts) DI sizes (opened + 1) opened ts r

  -- after an item
  module _ (turns : ℕ) (others_told : (ts : List Token) → Tells turns ts (items_from source c item turns ts)) (ts : List Token)
      (what : A) (deep : ℕ) (sz : deep ≡ size what) (shallow : deep ≤ 100) (few : opened + 1 ≤ 100) where
    abbrev first : List Token → Found A
    first us = record { what = what; deep = deep; rest = us }

    further : (m : Token) (us : List Token) → m.kind ≡ kind.Comma → D ts (m ∷ us) what → Row turns us → Row (suc turns) ts
    further m us h d (inl x) =
        inl
        (over_from (behind_first (rules.end_of d))
        (let b = rules.balanced d (opened + 1) in let p =
        past_plain (opened + 1) m us (ap (open_after (opened + 1)) h)
        (let r : nests (opened + 1) us ≤ nests (opened + 1) us = omega arith in r) in omega arith)
        x)
    further m us h d (inr le) = inr (let short = end_le (rules.end_of d) in omega arith)

    others_of : (m : Token) (us : List Token) → m.kind ≡ kind.Comma → D ts (m ∷ us) what
        → nests (opened + 1) ts ≤ max 100 (nests (opened + 1) (m ∷ us))
        → Tells (suc turns) ts (items_from source c item turns us >>= with_first (first (m ∷ us)))
    others_of m us h d w =
        told_then (with_first (first (m ∷ us))) (others_told us) (further m us h d)
        (λ f q r.
        let p : nests (open_after (opened + 1) m.kind) us ≡ nests (opened + 1) us = ap (λ j. nests (open_after (opened + 1) j) us) h in
        let rd = r.deep in let rs = r.shallow in let rw' = r.within in
        found (record {
          derives = rules.next d h r.derives;
          deep = two_deep deep (size what) f.deep (sizes f.what) sz rd
              ∙ sym (rules.more_size what f.what);
          shallow = omega arith;
          few = few;
          within = omega arith;
        }))
      where
        two_deep : (a b c d : ℕ) → a ≡ b → c ≡ d → max a c ≡ max b d
        two_deep a b c d p q = rw (p, q) refl

    step_told : (rest : List Token) → D ts rest what → nests (opened + 1) ts ≤ max 100 (nests (opened + 1) rest)
        → Tells (suc turns) ts (step_at source c rest >>= moved (items_from source c item turns) (first rest))
    step_told =
        end_cases c
        (λ us o. D ts us what → nests (opened + 1) ts ≤ max 100 (nests (opened + 1) us)
        → Tells (suc turns) ts (if_at o (if_at (head_if is_comma us) (not_expected source us) (λ x. Ok (go_on x.1)))
        (λ x. Ok (stop x.1)) >>= moved (items_from source c item turns) (first us)))
        (head_cases is_comma (λ us o. D ts us what → nests (opened + 1) ts ≤ max 100 (nests (opened + 1) us)
        → Tells (suc turns) ts (if_at o (not_expected source us) (λ x. Ok (go_on x.1)) >>= moved (items_from source c item turns)
        (first us)))
        (λ us d w. unexpected)
        (λ m us h d w. others_of m us (comma_is m.kind h) d w))
        (λ place us rest e d w. found (record {
          derives = rules.last d e;
          deep = sz ∙ sym (rules.one_size what);
          shallow = shallow;
          few = few;
          within =
              (let z = end_within e opened few in omega arith);
        }))

  items_told : (turns : ℕ) (ts : List Token) → Tells turns ts (items_from source c item turns ts)
  unfolding items_from
  items_told zero ts = exceeded (inr (omega arith))
  items_told (suc turns) ts =
      told_then _ (item_told ts) inl
      (λ e q r. step_told turns (items_told turns) ts e.what e.deep r.deep r.shallow r.few e.rest r.derives r.within)

  -- after an opening bracket
  module _ (o : Token) (opens : open_after opened o.kind ≡ opened + 1) where
    abbrev RowTells : List Token → ReadOf (List A) → Type 0
    RowTells ts r = Told (Over source opened (o ∷ ts)) (λ us rest es. DL ts rest es) sizes opened opened (o ∷ ts) r

    row_past : (ts : List Token) → Row 16384 ts → Over source opened (o ∷ ts)
    row_past ts (inl x) = over_from (behind whole_text) (past_token opened (opened + 1) o ts opens) x
    row_past ts (inr le) = long (omega arith)

    some_told : {ts : List Token} {r : ReadOf (List A)} → Tells 16384 ts r → RowTells ts r
    some_told {ts} (found {f} r) =
        found
        (record {
          derives = rules.some r.derives;
          deep = r.deep;
          shallow = r.shallow;
          few = (let e = room in omega arith);
          within =
              open_within opened (nests opened f.rest) o ts opens (let e = room in omega arith) r.within;
        })
    some_told {ts} (exceeded x) = exceeded (row_past ts x)
    some_told unexpected = unexpected

    row_by : (b : ℕ) → opened + b ≡ 100 → (ts : List Token) → RowTells ts (opened_at source b c ts >>= any_items source c item ts)
    unfolding opened_at
    row_by zero e ts =
        let h : nests (open_after opened o.kind) ts ≡ nests (opened + 1) ts = ap (λ m. nests m ts) opens in
        let least = nests_ge (opened + 1) ts in
        exceeded (exceeds (too_many (omega arith)))
    row_by (suc b) e ts =
        end_cases c
        (λ us p. RowTells us (if_at p (if_at (spare_comma_at c us) (Ok None) (λ x. not_expected source x.1)) (λ x. Ok (Some x)) >>=
        any_items source c item us))
        (λ us. option_cases (λ p. RowTells us (if_at p (Ok None) (λ x. not_expected source x.1) >>= any_items source c item us))
        (spare_comma_at c us)
        (λ h. some_told (items_told 16384 us))
        (λ x h. unexpected))
        (λ place us rest z. found (record {
          derives = rules.none z;
          deep = sym rules.no_size;
          shallow = omega arith;
          few = omega arith;
          within =
              open_within opened (nests opened rest) o us opens (omega arith) (end_within z opened (omega arith));
        }))
        ts

    pub row_told : (ts : List Token) → RowTells ts (opened_at source brackets c ts >>= any_items source c item ts)
    row_told = row_by brackets room
