-- How lists and maps are derived from their items and entries, and how deep they are.
use Rattle.std.proofs.Common.{◌≡◌, ℕ, ◌≤◌, List, ◌∷◌, refl, ap, arith, le_trans}
use Rattle.std.specs.Prelude.{max}
use Rattle.cel_lex.specs.declared.token.TokenKind.TheVariants as kind
use Rattle.cel_lex.specs.declared.token.Token.{Token}
use Rattle.cel_value.specs.declared.expr.Entry.{Entry}
use Rattle.cel_parse.specs.declared.heads.Closer.{Closer}
use Rattle.cel_parse.specs.declared.heads.Closer.TheVariants as closer
use Rattle.cel_parse.specs.declared.tree.Tree.{Tree}
use Rattle.cel_parse.specs.Grammar.{Expression, Derives, Lists, no_items, items, Items, last_item, next_item, Maps, no_entries}
use Rattle.cel_parse.specs.Grammar.{entries, Entries, last_entry, next_entry}
use Rattle.cel_parse.specs.Limits.{depth, depth_of_items, depth_of_entry, depth_of_entries, open_after, nests, IsEnd}
use Rattle.cel_parse.proofs.Spans.{joined_ends, behind_first, end_of, balanced}
use Rattle.cel_parse.proofs.RowsTold.{IsRow}
use Rattle.cel_parse.proofs.PartsTold.{from_plain}

-- a key, a colon and a value
pub record IsEntry (ts rest : List Token) (e : Entry Tree) : Type 0 where
  pub token : Token
  pub mid : List Token
  pub key : Derives Expression ts (token ∷ mid) e.key
  pub colon : token.kind ≡ kind.Colon
  pub value : Derives Expression mid rest e.value

entry_end : {ts rest : List Token} {e : Entry Tree} → IsEntry ts rest e → IsEnd rest ts
entry_end e = joined_ends (end_of e.value) (behind_first (end_of e.key))

entry_balanced : {ts rest : List Token} {e : Entry Tree} → IsEntry ts rest e → (k : ℕ) → nests k rest ≤ nests k ts
entry_balanced e k = le_trans (le_trans (balanced e.value k) (from_plain k e.token e.mid (ap (open_after k) e.colon))) (balanced e.key k)

least_max : (n : ℕ) → max n 0 ≡ n
least_max n = omega arith

-- the rules of lists, and of maps
pub item_rules : (source : List ℕ) (c : Closer)
    → IsRow c (Derives Expression) (depth source) (Items c) (Lists c) (depth_of_items source)
item_rules source c = record {
  no_size = refl;
  one_size = λ e. least_max (depth source e);
  more_size = λ e es. refl;
  none = no_items;
  some = items;
  last = last_item;
  next = next_item;
  end_of = end_of;
  balanced = balanced;
}

pub entry_rules : (source : List ℕ) → IsRow closer.Brace IsEntry (depth_of_entry source) Entries Maps (depth_of_entries source)
entry_rules source = record {
  no_size = refl;
  one_size = λ e. least_max (depth_of_entry source e);
  more_size = λ e es. refl;
  none = no_entries;
  some = entries;
  last = λ d z. last_entry d.key d.colon d.value z;
  next = λ d h r. next_entry d.key d.colon d.value h r;
  end_of = entry_end;
  balanced = entry_balanced;
}
