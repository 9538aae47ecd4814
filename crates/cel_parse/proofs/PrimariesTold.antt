-- What is read of a primary is in the grammar and within the limits, and what is too deep exceeds them.
use Rattle.std.proofs.Common.{◌≡◌, ℕ, Bool, true, false, ◌+◌, ◌≤◌, List, [], ◌∷◌, Ok, refl, sym, ap, ◌∙◌, arith}
use Rattle.std.specs.Prelude.{max}
use Rattle.cel_lex.specs.declared.token.TokenKind.{TokenKind}
use Rattle.cel_lex.specs.declared.token.TokenKind.TheVariants as kind
use Rattle.cel_lex.specs.declared.token.Token.{Token}
use Rattle.cel_parse.specs.declared.heads.Closer.{Closer}
use Rattle.cel_parse.specs.declared.heads.Closer.TheVariants as closer
use Rattle.cel_parse.specs.declared.tree.Tree.{Tree, Call as call}
use Rattle.cel_parse.specs.Grammar.{Expression, Primary, closes, Derives, none, yes, no, int, uint, string, named, called}
use Rattle.cel_parse.specs.Grammar.{within, listed, mapped, Lists, Items, Maps, Entries}
use Rattle.cel_parse.specs.Limits.{depth, is_test, call_depth, depth_of_items, depth_of_entry, depth_of_entries, open_after}
use Rattle.cel_parse.specs.Limits.{nests, whole_text, behind}
use Rattle.cel_parse.specs.Descent.{◌>>=◌, Found, Reader, unexpected as not_expected, head_if, is_open, is_colon, if_at, closed}
use Rattle.cel_parse.specs.Descent.{literal_by, primary_by, primary, entered, entry, items as items_at, entries as entries_at}
use Rattle.cel_parse.specs.Descent.{called_by, called as called_at}
use Rattle.cel_parse.proofs.Depths.{depth-null, depth-truth, depth-number, depth-unsigned, depth-text, depth-name, depth-call}
use Rattle.cel_parse.proofs.Depths.{depth-list, depth-map}
use Rattle.cel_parse.proofs.Spans.{past_token, closing_shuts}
use Rattle.cel_parse.proofs.Steps.{head_cases, open_is, close_is, colon_is}
use Rattle.cel_parse.proofs.Told.{Told, found, unexpected, Over, over_from, over_behind, told_then, told_as, told_node}
use Rattle.cel_parse.proofs.Told.{told_leaf}
use Rattle.cel_parse.proofs.RowsTold.{open_within, row_told}
use Rattle.cel_parse.proofs.PartsTold.{behind_plain, from_plain, within_then, Tells, on_plain, plain}
use Rattle.cel_parse.proofs.RowRules.{IsEntry, item_rules, entry_rules}

module _ (source : List ℕ) (inner : Reader) (brackets opened : ℕ) (room : opened + brackets ≡ 100) (few : opened ≤ 100)
    (inner_told : (ts : List Token) → Told (Over source (opened + 1) ts) (Derives Expression) (depth source) (opened + 1) (opened + 1) ts
    (inner ts)) where
  -- what is in brackets, after the opening one
  module _ (o : Token) (opens : open_after opened o.kind ≡ opened + 1) where
    inside_past : (ts : List Token) → Over source (opened + 1) ts → Over source opened (o ∷ ts)
    inside_past ts x = over_from (behind whole_text) (past_token opened (opened + 1) o ts opens) x

    abbrev pub Inside : Closer → List Token → Tree → List Token → Tree → Type 0
    Inside c ts e rest f = (k : Token) × (closes c k.kind ≡ true) × Derives Expression ts (k ∷ rest) f

    closed_told : (c : Closer) (ts : List Token) (tree : Tree) (deep : ℕ) → deep ≡ depth source tree → deep ≤ 100
        → opened + 1 ≤ 100 → (rest : List Token) → Derives Expression ts rest tree
        → nests (opened + 1) ts ≤ max 100 (nests (opened + 1) rest) → Told (Over source opened (o ∷ ts))
        (λ us rest e. Inside c ts e rest e) (depth source) opened opened (o ∷ ts)
        (closed source c (record { what = tree; deep = deep; rest = rest }))
    unfolding closed
    closed_told c ts tree deep e le more_room =
        head_cases (closes c)
        (λ rest x. Derives Expression ts rest tree → nests (opened + 1) ts ≤ max 100 (nests (opened + 1) rest)
        → Told (Over source opened (o ∷ ts)) (λ us rest e. Inside c ts e rest e) (depth source) opened opened (o ∷ ts)
        (if_at x (not_expected source rest) (λ x. Ok (record { what = tree; deep = deep; rest = x.1 }))))
        (λ rest d w. unexpected)
        (λ k rest h d w.
        let p : nests (open_after (opened + 1) k.kind) rest ≡ nests opened rest =
        ap (λ m. nests m rest) (closing_shuts c k.kind opened h) in
        found (record {
          derives = (k, h, d);
          deep = e;
          shallow = le;
          few = few;
          within =
              open_within opened (nests opened rest) o ts opens few (omega arith);
        }))

    pub inside_told : (c : Closer) (ts : List Token) → Told (Over source opened (o ∷ ts)) (λ us rest e. Inside c ts e rest e)
        (depth source) opened opened (o ∷ ts) (inner ts >>= closed source c)
    inside_told c ts =
        told_then (closed source c) (inner_told ts) (inside_past ts)
        (λ f q r. closed_told c ts f.what f.deep r.deep r.shallow r.few f.rest r.derives r.within)

    pub items_told : (c : Closer) (ts : List Token) → Told (Over source opened (o ∷ ts)) (λ us rest es. Lists c ts rest es)
        (depth_of_items source) opened opened (o ∷ ts) (items_at inner source brackets c ts)
    unfolding items_at
    items_told c =
        row_told source brackets opened room c inner (Derives Expression) (depth source) (Items c) (Lists c) (depth_of_items source)
        (item_rules source c) inner_told o opens

  value_told : {ts mid : List Token} {k : Token} (a : Found Tree) → Derives Expression ts (k ∷ mid) a.what → k.kind ≡ kind.Colon
      → a.deep ≡ depth source a.what → a.deep ≤ 100 → nests (opened + 1) ts ≤ max 100 (nests (opened + 1) (k ∷ mid)) → Told
      (Over source (opened + 1) ts) IsEntry (depth_of_entry source) (opened + 1) (opened + 1) ts (inner mid >>= λ b. Ok (entered a b))
  value_told {ts} {mid} {k} a d h deep le w =
      told_then _ (inner_told mid)
      (λ x. over_behind d (over_from (behind whole_text) (from_plain (opened + 1) k mid (ap (open_after (opened + 1)) h)) x))
      (λ b q r.
      let rs = r.shallow in
      found (record {
        derives = record { token = k; mid = mid; key = d; colon = h; value = r.derives };
        deep = two a.deep b.deep (depth source a.what) (depth source b.what) deep r.deep;
        shallow = omega arith;
        few = r.few;
        within = within_then _ _ _ w (within_then _ _ _ (behind_plain (opened + 1) k mid r.few (ap (open_after (opened + 1)) h)) r.within);
      }))
    where
      two : (a b c d : ℕ) → a ≡ c → b ≡ d → max a b ≡ max c d
      two a b c d p q = rw (p, q) refl

  key_told : {ts : List Token} (tree : Tree) (deep : ℕ) → deep ≡ depth source tree → deep ≤ 100 → (rest : List Token)
      → Derives Expression ts rest tree → nests (opened + 1) ts ≤ max 100 (nests (opened + 1) rest) → Told
      (Over source (opened + 1) ts) IsEntry (depth_of_entry source) (opened + 1) (opened + 1) ts
      (if_at (head_if is_colon rest) (not_expected source rest)
      (λ k. inner k.1 >>= λ b. Ok (entered (record { what = tree; deep = deep; rest = rest }) b)))
  key_told {ts} tree deep e le =
      head_cases is_colon
      (λ us x. Derives Expression ts us tree → nests (opened + 1) ts ≤ max 100 (nests (opened + 1) us)
      → Told (Over source (opened + 1) ts) IsEntry (depth_of_entry source) (opened + 1) (opened + 1) ts
      (if_at x (not_expected source us) (λ k. inner k.1 >>= λ b. Ok (entered (record { what = tree; deep = deep; rest = us }) b))))
      (λ us d w. unexpected)
      (λ k us h d w. value_told (record { what = tree; deep = deep; rest = k ∷ us }) d (colon_is k.kind h) e le w)

  entry_told : (ts : List Token)
      → Told (Over source (opened + 1) ts) IsEntry (depth_of_entry source) (opened + 1) (opened + 1) ts (entry inner source ts)
  unfolding entry
  entry_told ts = told_then _ (inner_told ts) (λ x. x) (λ f q r. key_told f.what f.deep r.deep r.shallow f.rest r.derives r.within)

  entries_told : (o : Token) → open_after opened o.kind ≡ opened + 1 → (ts : List Token) → Told (Over source opened (o ∷ ts))
      (λ us rest es. Maps ts rest es) (depth_of_entries source) opened opened (o ∷ ts) (entries_at inner source brackets ts)
  unfolding entries_at
  entries_told o opens =
      row_told source brackets opened room closer.Brace (entry inner source) IsEntry (depth_of_entry source) Entries Maps
      (depth_of_entries source) (entry_rules source) entry_told o opens

  -- a call
  call_told : {past : Type 0} {ts rest : List Token} (b : Bool) (place : ℕ) (es : List Tree) (deep : ℕ)
      → b ≡ is_test source place es → Derives Primary ts rest (call place es) → deep ≡ depth_of_items source es → deep ≤ 100
      → nests opened ts ≤ max 100 (nests opened rest) → (Over source opened ts → past)
      → Told past (Derives Primary) (depth source) opened opened ts (called_by b (call place es) deep rest)
  call_told true place es deep t d e le w lift =
      found
      (record {
        derives = d;
        deep = e ∙ ap (λ (x : Bool). call_depth x (depth_of_items source es)) t
            ∙ sym (depth-call source place es);
        shallow = le;
        few = few;
        within = w;
      })
  call_told false place es deep t d e le w lift =
      told_node deep d d
      (ap (λ (n : ℕ). n + 1) e ∙ ap (λ (x : Bool). call_depth x (depth_of_items source es)) t ∙ sym
      (depth-call source place es)) few w lift

  called_told : (t o : Token) (ts : List Token) → t.kind ≡ kind.Name → o.kind ≡ kind.Open
      → Tells source opened Primary (t ∷ o ∷ ts) (items_at inner source brackets closer.Parenthesis ts >>= called_at source t.start)
  unfolding called_at
  called_told t o ts q h =
      told_then (called_at source t.start) (items_told o (ap (open_after opened) h) closer.Parenthesis ts)
      (over_from (behind whole_text) (on_plain opened t (o ∷ ts) q refl))
      (λ f e r. call_told (is_test source t.start f.what) t.start f.what f.deep refl (called q h r.derives) r.deep r.shallow
      (within_then _ _ _ (plain opened few t (o ∷ ts) q refl) r.within) (λ x. x))

  name_told : (t : Token) → t.kind ≡ kind.Name → (ts : List Token) → Tells source opened Primary (t ∷ ts)
      (if_at (head_if is_open ts) (Ok (record { what = Rattle.cel_parse.specs.declared.tree.Tree.Name t.start; deep = 1; rest = ts }))
      (λ x. items_at inner source brackets closer.Parenthesis x.1 >>= called_at source t.start))
  name_told t q =
      head_cases is_open
      (λ us x. Tells source opened Primary (t ∷ us) (if_at x
      (Ok (record { what = Rattle.cel_parse.specs.declared.tree.Tree.Name t.start; deep = 1; rest = us }))
      (λ x. items_at inner source brackets closer.Parenthesis x.1 >>= called_at source t.start)))
      (λ us. told_leaf source (named q) (depth-name source t.start) few (plain opened few t us q refl))
      (λ o us h. called_told t o us q (open_is o.kind h))

  primary_by_told : (k : TokenKind) (t : Token) (ts : List Token) → t.kind ≡ k
      → Tells source opened Primary (t ∷ ts) (primary_by inner source brackets k t ts)
  primary_by_told kind.Name t ts q = name_told t q ts
  primary_by_told kind.Open t ts q =
      told_as (λ rest e d. within q d.2 (close_is d.0.kind d.1)) (inside_told t (ap (open_after opened) q) closer.Parenthesis ts)
  primary_by_told kind.OpenBracket t ts q =
      told_then _ (items_told t (ap (open_after opened) q) closer.Bracket ts) (λ x. x)
      (λ f e r. told_node f.deep (listed q r.derives) (listed q r.derives)
      (ap (λ (n : ℕ). n + 1) r.deep ∙ sym (depth-list source t.start f.what)) few r.within (λ x. x))
  primary_by_told kind.OpenBrace t ts q =
      told_then _ (entries_told t (ap (open_after opened) q) ts) (λ x. x)
      (λ f e r. told_node f.deep (mapped q r.derives) (mapped q r.derives)
      (ap (λ (n : ℕ). n + 1) r.deep ∙ sym (depth-map source t.start f.what)) few r.within (λ x. x))
  primary_by_told _ t ts q = unexpected

  literal_told : (k : TokenKind) (t : Token) (ts : List Token) → t.kind ≡ k → Tells source opened Primary (t ∷ ts)
      (if_at (literal_by k t.start) (primary_by inner source brackets k t ts) (λ e. Ok (record { what = e; deep = 1; rest = ts })))
  literal_told kind.Null t ts q = told_leaf source (none q) (depth-null source _) few (plain opened few t ts q refl)
  literal_told kind.True t ts q = told_leaf source (yes q) (depth-truth source _ _) few (plain opened few t ts q refl)
  literal_told kind.False t ts q = told_leaf source (no q) (depth-truth source _ _) few (plain opened few t ts q refl)
  literal_told (kind.Int n) t ts q = told_leaf source (int q) (depth-number source _ _ _) few (plain opened few t ts q refl)
  literal_told (kind.Uint n) t ts q = told_leaf source (uint q) (depth-unsigned source _ _) few (plain opened few t ts q refl)
  literal_told (kind.Text s) t ts q = told_leaf source (string q) (depth-text source _ _) few (plain opened few t ts q refl)
  literal_told k t ts q = primary_by_told k t ts q

  pub primary_told : (ts : List Token) → Tells source opened Primary ts (primary inner source brackets ts)
  unfolding primary
  primary_told [] = unexpected
  primary_told (t ∷ ts) = literal_told t.kind t ts refl
