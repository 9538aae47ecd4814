-- What reads a primary is a stage: it reads the same if the text goes on in another way.
use Rattle.std.proofs.Common.{◌≡◌, ℕ, Bool, true, false, List, [], ◌∷◌, length, Ok, Err, refl, ap, ◌∙◌}
use Rattle.std.specs.Prelude.{max}
use Rattle.cel_lex.specs.declared.token.TokenKind.{TokenKind}
use Rattle.cel_lex.specs.declared.token.TokenKind.TheVariants as kind
use Rattle.cel_lex.specs.declared.token.Token.{Token}
use Rattle.cel_parse.specs.declared.fault.ParseFault.TheVariants.{Unexpected}
use Rattle.cel_parse.specs.declared.heads.Closer.{Closer}
use Rattle.cel_parse.specs.declared.heads.Closer.TheVariants as closer
use Rattle.cel_parse.specs.declared.tree.Tree.{Tree, Truth as truth, Name as name, Call as call, List as list, Map as map}
use Rattle.cel_parse.specs.Grammar.{Expression, Primary, closes, Derives, whole, none, yes, no, int, uint, string, named}
use Rattle.cel_parse.specs.Grammar.{called, within, listed, mapped, Lists, Items, Maps, Entries, place_at}
use Rattle.cel_parse.specs.Limits.{is_test, depth, depth_of_items, depth_of_entry, depth_of_entries}
use Rattle.cel_parse.specs.Trees.{Agrees}
use Rattle.cel_parse.specs.Descent.{◌>>=◌, Reader, leaf, node, head_if, is_open, is_colon, if_at, closed, items as items_at}
use Rattle.cel_parse.specs.Descent.{entered, entry, entries as entries_at, literal_by, called_by, called as called_at}
use Rattle.cel_parse.specs.Descent.{primary_by, primary}
use Rattle.cel_parse.proofs.Steps.{open_is, close_is, colon_is}
use Rattle.cel_parse.proofs.Told.{Relation}
use Rattle.cel_parse.proofs.RowRules.{IsEntry, item_rules, entry_rules}
use Rattle.cel_parse.proofs.Stages.{IsStage, Front, nothing, first, Stage, again, stage_then, stage_node, stage_stuck}
use Rattle.cel_parse.proofs.Stages.{stage_like, stage_front, stage_head}
use Rattle.cel_parse.proofs.Endings.{a_colon, a_truth, a_closer, closes_it, operand_of, from_first, from_end}
use Rattle.cel_parse.proofs.RowStages.{rows_stage}

module _ (source : List ℕ) (inner : Reader) (brackets : ℕ)
    (inner_stage : (us : List Token) → Stage (length source) (Derives Expression) inner us (inner us)) where
  abbrev finish : ℕ
  finish = length source

  pub list_stage : (c : Closer) (us : List Token) → IsStage finish (Lists c) (items_at inner source brackets c) us
  unfolding items_at
  list_stage c =
      rows_stage source c inner (Derives Expression) (depth source) (Items c) (Lists c) (depth_of_items source)
      (item_rules source c) inner_stage brackets

  -- a key, ":" and a value
  value_stage : (F : Front) (a : Tree) (deep : ℕ) → ((rest : List Token) → Derives Expression (F.onto rest) rest a)
      → (us : List Token) → Stage finish (λ ws rest e. IsEntry (F.onto ws) rest e)
      (λ ws. if_at (head_if is_colon ws) (Err (Unexpected (place_at finish ws)))
      (λ k. inner k.1 >>= λ b. Ok (entered (record { what = a; deep = deep; rest = ws }) b))) us
      (if_at (head_if is_colon us) (Err (Unexpected (place_at finish us)))
      (λ k. inner k.1 >>= λ b. Ok (entered (record { what = a; deep = deep; rest = us }) b)))
  value_stage F a deep da =
      stage_head finish (λ ws r. r) (λ ws. Err (Unexpected (place_at finish ws))) is_colon
      (λ place ws. inner ws >>= λ b. Ok (record { what = record { key = a; value = b.what }; deep = max deep b.deep; rest = b.rest }))
      (λ vs h. stage_stuck finish vs (first a_colon (first a_truth nothing)) (record { key = a; value = truth 0 true })
      (λ rest. record {
        token = a_colon;
        mid = a_truth ∷ rest;
        key = da (a_colon ∷ a_truth ∷ rest);
        colon = refl;
        value =
            whole (operand_of rest);
      }))
      (λ k vs h. stage_then finish (λ b. Ok (record { what = record { key = a; value = b.what }; deep = max deep b.deep; rest = b.rest }))
      nothing (λ b. record { key = a; value = b }) (inner_stage vs)
      (λ from rest b x. record { token = k; mid = from; key = da (k ∷ from); colon = colon_is k.kind h; value = x })
      (λ f E x. again nothing refl (λ rest. record
      { token = k; mid = E.onto rest; key = da (k ∷ E.onto rest); colon = colon_is k.kind h; value = x rest }) (λ rest a. refl)))

  entry_stage : (us : List Token) → IsStage finish IsEntry (entry inner source) us
  unfolding entry
  entry_stage us =
      stage_then finish
      (λ a. if_at (head_if is_colon a.rest) (Err (Unexpected (place_at finish a.rest))) (λ k. inner k.1 >>= λ b. Ok (entered a b)))
      (first a_colon (first a_truth nothing)) (λ a. record { key = a; value = truth 0 true }) (inner_stage us)
      (λ from rest a x. record { token = a_colon; mid = a_truth ∷ rest; key = x; colon = refl; value = whole (operand_of rest) })
      (λ f F x. value_stage F f.what f.deep x f.rest)

  map_stage : (us : List Token) → IsStage finish Maps (entries_at inner source brackets) us
  unfolding entries_at
  map_stage =
      rows_stage source closer.Brace (entry inner source) IsEntry (depth_of_entry source) Entries Maps (depth_of_entries source)
      (entry_rules source) entry_stage brackets

  -- an expression and what closes it
  closed_stage : {D : Relation Tree} (c : Closer) (F : Front) (tree : Tree) (deep : ℕ)
      → ((k : Token) (rest : List Token) → closes c k.kind ≡ true → D (k ∷ rest) rest tree) → (us : List Token)
      → IsStage finish D (λ ws. closed source c (record { what = tree; deep = deep; rest = ws })) us
  unfolding closed
  closed_stage c F tree deep rule =
      stage_head finish (λ ws r. r) (λ ws. Err (Unexpected (place_at finish ws))) (closes c)
      (λ place ws. Ok (record { what = tree; deep = deep; rest = ws }))
      (λ vs h. stage_stuck finish vs (first (a_closer c) nothing) tree (λ rest. rule (a_closer c) rest (closes_it c)))
      (λ k vs h. again nothing refl (λ rest. rule k rest h) (λ rest a. refl))

  pub inside_stage : {D : Relation Tree} (c : Closer)
      → ((k : Token) (from rest : List Token) (e : Tree) → closes c k.kind ≡ true → Derives Expression from
      (k ∷ rest) e → D from rest e)
      → (us : List Token) → IsStage finish D (λ ws. inner ws >>= closed source c) us
  inside_stage {D} c rule us =
      stage_then finish (closed source c) (first (a_closer c) nothing) (λ e. e) (inner_stage us)
      (λ from rest e x. rule (a_closer c) from rest e (closes_it c) x)
      (λ f F x. closed_stage {D = λ ws rest e. D (F.onto ws) rest e} c F f.what f.deep
      (λ k rest h. rule k (F.onto (k ∷ rest)) rest f.what h (x (k ∷ rest))) f.rest)

  -- a call
  called_by_stage : {D : Relation Tree} (b : Bool) (tree : Tree) (deep : ℕ) (us : List Token)
      → ((rest : List Token) → D rest rest tree) → Stage finish D (called_by b tree deep) us (called_by b tree deep us)
  called_by_stage true tree deep us d = again nothing refl d (λ rest a. refl)
  called_by_stage false tree deep us d = stage_node finish tree deep us d

  name_stage : (t : Token) (us : List Token) → t.kind ≡ kind.Name → IsStage finish (λ ws rest e. Derives Primary (t ∷ ws) rest e)
      (λ ws. if_at (head_if is_open ws) (leaf (name t.start) ws)
      (λ x. items_at inner source brackets closer.Parenthesis x.1 >>= called_at source t.start))
      us
  unfolding called_at
  name_stage t us q =
      stage_head finish (λ ws r. r) (leaf (name t.start)) is_open
      (λ place ws. items_at inner source brackets closer.Parenthesis ws >>= called_at source t.start)
      (λ vs h. again nothing refl (λ rest. named q) (λ rest a. refl))
      (λ o vs h. stage_then finish (called_at source t.start) nothing (λ es. call t.start es) (list_stage closer.Parenthesis vs)
      (λ from rest es x. called q (open_is o.kind h) x)
      (λ f E x. called_by_stage (is_test source t.start f.what) (call t.start f.what) f.deep f.rest
      (λ rest. called q (open_is o.kind h) (x rest))))
      us

  no_primary : (us : List Token)
      → ((vs : List Token) → Agrees us vs → primary inner source brackets vs ≡ Err (Unexpected (place_at finish vs)))
      → IsStage finish (Derives Primary) (primary inner source brackets) us
  no_primary us h =
      stage_like finish (primary inner source brackets) (λ ws. Err (Unexpected (place_at finish ws))) us h
      (stage_stuck finish us (first a_truth nothing) (truth 0 true) (λ rest. yes refl))

  pub primary_by_kind : (k : TokenKind) (t : Token) (ws : List Token) → t.kind ≡ k → primary inner source brackets (t ∷ ws)
      ≡ if_at (literal_by k t.start) (primary_by inner source brackets k t ws) (λ e. leaf e ws)
  unfolding primary
  primary_by_kind k t ws q =
      ap (λ (k : TokenKind). if_at (literal_by k t.start) (primary_by inner source brackets k t ws) (λ e. leaf e ws)) q

  kind_stage : (k : TokenKind) (t : Token) (us : List Token) (G : Reader) → t.kind ≡ k
      → ((ws : List Token) → if_at (literal_by k t.start) (primary_by inner source brackets k t ws) (λ e. leaf e ws) ≡ G ws)
      → IsStage finish (λ ws rest e. Derives Primary (t ∷ ws) rest e) G us
      → IsStage finish (Derives Primary) (primary inner source brackets) (t ∷ us)
  kind_stage k t us G q reads s =
      stage_front finish t (primary inner source brackets) G us (λ ws. primary_by_kind k t ws q ∙ reads ws) s

  primary_by_stage : (k : TokenKind) (t : Token) (us : List Token) → t.kind ≡ k
      → IsStage finish (Derives Primary) (primary inner source brackets) (t ∷ us)
  primary_by_stage kind.Null t us q =
      kind_stage kind.Null t us (leaf _) q (λ ws. refl) (again nothing refl (λ rest. none q) (λ rest a. refl))
  primary_by_stage kind.True t us q =
      kind_stage kind.True t us (leaf _) q (λ ws. refl) (again nothing refl (λ rest. yes q) (λ rest a. refl))
  primary_by_stage kind.False t us q =
      kind_stage kind.False t us (leaf _) q (λ ws. refl) (again nothing refl (λ rest. no q) (λ rest a. refl))
  primary_by_stage (kind.Int n) t us q =
      kind_stage (kind.Int n) t us (leaf _) q (λ ws. refl) (again nothing refl (λ rest. int q) (λ rest a. refl))
  primary_by_stage (kind.Uint n) t us q =
      kind_stage (kind.Uint n) t us (leaf _) q (λ ws. refl) (again nothing refl (λ rest. uint q) (λ rest a. refl))
  primary_by_stage (kind.Text s) t us q =
      kind_stage (kind.Text s) t us (leaf _) q (λ ws. refl) (again nothing refl (λ rest. string q) (λ rest a. refl))
  primary_by_stage kind.Name t us q =
      kind_stage kind.Name t us
      (λ ws. if_at (head_if is_open ws) (leaf (name t.start) ws)
      (λ x. items_at inner source brackets closer.Parenthesis x.1 >>= called_at source t.start))
      q
      (λ ws. refl) (name_stage t us q)
  primary_by_stage kind.Open t us q =
      kind_stage kind.Open t us (λ ws. inner ws >>= closed source closer.Parenthesis) q (λ ws. refl)
      (inside_stage closer.Parenthesis (λ k from rest e h d. within q d (close_is k.kind h)) us)
  primary_by_stage kind.OpenBracket t us q =
      kind_stage kind.OpenBracket t us
      (λ ws. items_at inner source brackets closer.Bracket ws >>= λ f. node (list t.start f.what) f.deep f.rest) q (λ ws. refl)
      (stage_then finish (λ f. node (list t.start f.what) f.deep f.rest) nothing (λ es. list t.start es) (list_stage closer.Bracket us)
      (λ from rest es x. listed q x)
      (λ f E x. stage_node finish (list t.start f.what) f.deep f.rest (λ rest. listed q (x rest))))
  primary_by_stage kind.OpenBrace t us q =
      kind_stage kind.OpenBrace t us (λ ws. entries_at inner source brackets ws >>= λ f. node (map t.start f.what) f.deep f.rest) q
      (λ ws. refl)
      (stage_then finish (λ f. node (map t.start f.what) f.deep f.rest) nothing (λ es. map t.start es) (map_stage us)
      (λ from rest es x. mapped q x)
      (λ f E x. stage_node finish (map t.start f.what) f.deep f.rest (λ rest. mapped q (x rest))))
  primary_by_stage k t us q =
      no_primary (t ∷ us)
      (from_first (λ vs. primary inner source brackets vs ≡ Err (Unexpected (place_at finish vs))) (λ ws. primary_by_kind k t ws q))

  pub primary_stage : (us : List Token) → IsStage finish (Derives Primary) (primary inner source brackets) us
  unfolding primary
  primary_stage [] = no_primary [] (from_end (λ vs. primary inner source brackets vs ≡ Err (Unexpected (place_at finish vs))) refl)
  primary_stage (t ∷ us) = primary_by_stage t.kind t us refl
