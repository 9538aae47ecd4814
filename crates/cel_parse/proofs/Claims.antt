-- What is claimed of each part of the grammar: it is read, unless it is past the limits.
use Rattle.std.proofs.Common.{◌≡◌, ℕ, suc, ◌+◌, ◌<◌, ◌≤◌, List, [], ◌∷◌, Some, None}
use Rattle.std.specs.Prelude.{◌⊎◌}
use Rattle.cel_lex.specs.declared.token.Infix.TheVariants as op
use Rattle.cel_lex.specs.declared.token.TokenKind.TheVariants as kind
use Rattle.cel_lex.specs.declared.token.Token.{Token}
use Rattle.cel_value.specs.declared.expr.Entry.{Entry}
use Rattle.cel_value.specs.declared.expr.UnaryOperator.TheVariants.{Not}
use Rattle.cel_parse.specs.declared.heads.Closer.{Closer}
use Rattle.cel_parse.specs.declared.heads.Closer.TheVariants as closer
use Rattle.cel_parse.specs.declared.tree.Tree.{Tree}
use Rattle.cel_parse.specs.Grammar.{Part, Expression, ConditionalOr, ConditionalAnd, Relation, Addition, Multiplication, Unary}
use Rattle.cel_parse.specs.Grammar.{Nots, Minuses, Member, Primary, IsLone}
use Rattle.cel_parse.specs.Limits.{depth, depth_of_items, depth_of_entry, depth_of_entries, open_after}
use Rattle.cel_parse.specs.Descent.{◌>>=◌, Reader, head_if, is_bang, is_open, is_minus, number_at, suffix_at, operator_at}
use Rattle.cel_parse.specs.Descent.{items_from, items as items_at, entry, entries as entries_at, primary, go_on_member, member}
use Rattle.cel_parse.specs.Descent.{wrapped, nots_at, minuses_at, join, operators, conditional_at, expression}
use Rattle.cel_parse.proofs.Fronts.{front}
use Rattle.cel_parse.proofs.PastLimits.{IsPast, Meets, Goes}
use Rattle.cel_parse.proofs.RowsRead.{RowPast}

module _ (source : List ℕ) where
  abbrev pub Inner : ℕ → Reader
  Inner brackets = expression source brackets

  pub record Loops (n : ℕ) (ts rest : List Token) (e : Tree) : Type 0 where
    pub by : (brackets opened : ℕ) → opened + brackets ≡ 100 → suc n ≤ front rest → Goes source
        (IsPast 100 opened ts (depth source e)) (operators (Inner brackets) source brackets (suc n) ts) (operator_at (suc n))
        (join (operators (Inner brackets) source brackets n)) rest e

  pub record Operands (n : ℕ) (ts rest : List Token) (e : Tree) : Type 0 where
    pub by : (brackets opened : ℕ) → opened + brackets ≡ 100 → n < front rest
        → Meets (IsPast 100 opened ts (depth source e)) (operators (Inner brackets) source brackets n ts) rest e (depth source e)

  pub record IsMember (ts rest : List Token) (e : Tree) : Type 0 where
    pub bang : head_if is_bang ts ≡ None
    pub minus : head_if is_minus ts ≡ None
    pub single : (x : ℕ × List Token) → number_at ts ≡ Some x → IsLone ts rest ⊎ (suffix_at x.1 ≡ None → ⊥)
    pub by : (brackets opened : ℕ) → opened + brackets ≡ 100 → head_if is_open rest ≡ None → Goes source
        (IsPast 100 opened ts (depth source e)) (member (Inner brackets) source brackets ts) suffix_at
        (go_on_member (Inner brackets) source brackets) rest e

  pub record IsPrimary (ts rest : List Token) (e : Tree) : Type 0 where
    pub bang : head_if is_bang ts ≡ None
    pub minus : head_if is_minus ts ≡ None
    pub single : (x : ℕ × List Token) → number_at ts ≡ Some x → IsLone ts rest
    pub by : (brackets opened : ℕ) → opened + brackets ≡ 100 → head_if is_open rest ≡ None
        → Meets (IsPast 100 opened ts (depth source e)) (primary (Inner brackets) source brackets ts) rest e (depth source e)

  -- after the sign, a tree within a limit that the turns allow
  abbrev pub NotsClaim : List Token → List Token → Tree → Type 0
  NotsClaim [] rest e = ⊥
  NotsClaim (t ∷ us) rest e =
      (t.kind ≡ kind.Bang)
      × ((brackets opened turns limit : ℕ) → opened + brackets ≡ 100 → limit ≤ suc turns → limit ≤ 100 → 0 < front rest
      → Meets (IsPast limit opened (t ∷ us) (depth source e))
      (nots_at (Inner brackets) source brackets turns us >>= wrapped t.start Not) rest e (depth source e))

  abbrev pub MinusesClaim : List Token → List Token → Tree → Type 0
  MinusesClaim [] rest e = ⊥
  MinusesClaim (t ∷ us) rest e =
      (t.kind ≡ kind.Operator op.Subtract)
      × ((brackets opened turns limit : ℕ) → opened + brackets ≡ 100 → limit ≤ turns → limit ≤ 100 → 0 < front rest → Meets
      (IsPast limit opened (t ∷ us) (depth source e)) (minuses_at (Inner brackets) source brackets turns t.start us) rest e
      (depth source e))

  abbrev pub Claim : Part → List Token → List Token → Tree → Type 0
  Claim Expression ts rest e =
      (brackets opened turns limit : ℕ) → opened + brackets ≡ 100 → limit ≤ turns → limit ≤ 100 → 6 < front rest
      → Meets (IsPast limit opened ts (depth source e)) (conditional_at (Inner brackets) source brackets turns ts) rest e (depth source e)
  Claim ConditionalOr ts rest e = Loops 4 ts rest e
  Claim ConditionalAnd ts rest e = Loops 3 ts rest e
  Claim Relation ts rest e = Loops 2 ts rest e
  Claim Addition ts rest e = Loops 1 ts rest e
  Claim Multiplication ts rest e = Loops 0 ts rest e
  Claim Unary ts rest e = Operands 0 ts rest e
  Claim Nots ts rest e = NotsClaim ts rest e
  Claim Minuses ts rest e = MinusesClaim ts rest e
  Claim Member ts rest e = IsMember ts rest e
  Claim Primary ts rest e = IsPrimary ts rest e

  -- items, lists, entries and maps
  abbrev pub ItemsClaim : Closer → List Token → List Token → List Tree → Type 0
  ItemsClaim c ts rest es =
      (brackets k turns : ℕ) → k + brackets ≡ 101 → 0 < brackets
      → Meets (RowPast source c (Inner brackets) (depth source) (depth_of_items source) turns k ts (depth_of_items source es))
      (items_from source c (Inner brackets) turns ts) rest es (depth_of_items source es)

  abbrev pub ListsClaim : Closer → List Token → List Token → List Tree → Type 0
  ListsClaim c ts rest es =
      (brackets opened : ℕ) (o : Token) → open_after opened o.kind ≡ opened + 1 → opened + brackets ≡ 100
      → Meets (IsPast 100 opened (o ∷ ts) (depth_of_items source es)) (items_at (Inner brackets) source brackets c ts) rest es
      (depth_of_items source es)

  abbrev pub EntriesClaim : List Token → List Token → List (Entry Tree) → Type 0
  EntriesClaim ts rest es =
      (brackets k turns : ℕ) → k + brackets ≡ 101 → 0 < brackets
      → Meets
      (RowPast source closer.Brace (entry (Inner brackets) source) (depth_of_entry source) (depth_of_entries source) turns k ts
      (depth_of_entries source es))
      (items_from source closer.Brace (entry (Inner brackets) source) turns ts) rest es (depth_of_entries source es)

  abbrev pub MapsClaim : List Token → List Token → List (Entry Tree) → Type 0
  MapsClaim ts rest es =
      (brackets opened : ℕ) (o : Token) → open_after opened o.kind ≡ opened + 1 → opened + brackets ≡ 100
      → Meets (IsPast 100 opened (o ∷ ts) (depth_of_entries source es)) (entries_at (Inner brackets) source brackets ts) rest es
      (depth_of_entries source es)
