-- What a reader says: what is derived within the limits, or that the text is too deep.
use Rattle.std.proofs.Common.{◌≡◌, ℕ, ◌+◌, ◌<◌, ◌≤◌, Bool, true, false, cond, List, length, Ok, Err, refl, sym, arith}
use Rattle.std.specs.Prelude.{max, nat_lt}
use Rattle.std.proofs.lemmas.Bool.{ltb-false}
use borrow.Author.Tests.{ltb-true}
use Rattle.cel_lex.specs.declared.token.Token.{Token}
use Rattle.cel_parse.specs.declared.fault.ParseFault.TheVariants.{Unexpected, TooDeep}
use Rattle.cel_parse.specs.declared.tree.Tree.{Tree}
use Rattle.cel_parse.specs.Grammar.{Part, Derives}
use Rattle.cel_parse.specs.Limits.{depth, nests, IsEnd, whole_text, Exceeds, brackets, deep_part, signs, conditionals}
use Rattle.cel_parse.specs.Descent.{◌>>=◌, Found, ReadOf, leaf, node}
use Rattle.cel_parse.proofs.Spans.{end_of, end_le, balanced, joined_ends}

-- how what is read is derived from the tokens between two places
abbrev pub Relation : Type 0 → Type 1
Relation A = List Token → List Token → A → Type 0

-- what was found is derived, with its depth, and opens no more than 100 brackets on the way, if n are open in front
-- and m after it
pub record Right {A : Type 0} (D : Relation A) (size : A → ℕ) (n m : ℕ) (ts : List Token) (f : Found A) : Type 0 where
  pub derives : D ts f.rest f.what
  pub deep : f.deep ≡ size f.what
  pub shallow : f.deep ≤ 100
  pub few : n ≤ 100
  pub within : nests n ts ≤ max 100 (nests m f.rest)

-- what reading says: what is derived, or that the text is too deep, which means past, or another fault
pub data Told {A : Type 0} (past : Type 0) (D : Relation A) (size : A → ℕ) (n m : ℕ) (ts : List Token) : ReadOf A → Type 0 where
  found : {f : Found A} → Right D size n m ts f → Told past D size n m ts (Ok f)
  exceeded : past → Told past D size n m ts (Err TooDeep)
  unexpected : {place : ℕ} → Told past D size n m ts (Err (Unexpected place))

-- a text exceeds the limits, or has more tokens than a text may have bytes
pub data Over (source : List ℕ) (n : ℕ) (ts : List Token) : Type 0 where
  exceeds : Exceeds source n ts → Over source n ts
  long : 16384 < length ts → Over source n ts

exceeds_further : {source : List ℕ} {n m : ℕ} {us ts : List Token} → IsEnd us ts → nests m us ≤ nests n ts → Exceeds source m us
    → Exceeds source n ts
exceeds_further e le (brackets h) = brackets (omega arith)
exceeds_further e le (deep_part i d h) = deep_part (joined_ends i e) d h
exceeds_further e le (signs o i s) = signs o (joined_ends i e) s
exceeds_further e le (conditionals i c) = conditionals (joined_ends i e) c

-- what exceeds the limits from a place on does so from an earlier place on
pub over_from : {source : List ℕ} {n m : ℕ} {us ts : List Token} → IsEnd us ts → nests m us ≤ nests n ts → Over source m us
    → Over source n ts
over_from e le (exceeds x) = exceeds (exceeds_further e le x)
over_from e le (long h) = let short = end_le e in long (omega arith)

-- what exceeds the limits after a part of the text
pub over_behind : {source : List ℕ} {p : Part} {n : ℕ} {ts rest : List Token} {e : Tree} → Derives p ts rest e → Over source n rest
    → Over source n ts
over_behind {n = n} d x = over_from (end_of d) (balanced d n) x

-- a step and what comes after it
pub told_then : {A B : Type 0} {past past' : Type 0} {D : Relation A} {E : Relation B} {size : A → ℕ} {size' : B → ℕ}
    {n m n' m' : ℕ} {ts us : List Token} {r : ReadOf A}
    (go : Found A → ReadOf B) → Told past D size n m us r → (past → past')
    → ((f : Found A) → r ≡ Ok f → Right D size n m us f → Told past' E size' n' m' ts (go f))
    → Told past' E size' n' m' ts (r >>= go)
told_then go (found {f} x) lift next = next f refl x
told_then go (exceeded x) lift next = exceeded (lift x)
told_then go unexpected lift next = unexpected

pub told_past : {A : Type 0} {past past' : Type 0} {D : Relation A} {size : A → ℕ} {n m : ℕ} {ts : List Token} {r : ReadOf A}
    → (past → past') → Told past D size n m ts r → Told past' D size n m ts r
told_past lift (found x) = found x
told_past lift (exceeded x) = exceeded (lift x)
told_past lift unexpected = unexpected

-- what is derived is derived in another way
pub told_as : {A : Type 0} {past : Type 0} {D E : Relation A} {size : A → ℕ} {n m : ℕ} {ts : List Token} {r : ReadOf A}
    → ((rest : List Token) (e : A) → D ts rest e → E ts rest e) → Told past D size n m ts r → Told past E size n m ts r
told_as f (found {f = g} x) =
    found (record { derives = f g.rest g.what x.derives; deep = x.deep; shallow = x.shallow; few = x.few; within = x.within })
told_as f (exceeded x) = exceeded x
told_as f unexpected = unexpected

told_guard : {past : Type 0} {D : Relation Tree} {size : Tree → ℕ} {n m : ℕ} {ts : List Token} (b : Bool) (tree : Tree) (below : ℕ)
    (rest : List Token) → (b ≡ true → Right D size n m ts (record { what = tree; deep = below + 1; rest = rest }))
    → (b ≡ false → past)
    → Told past D size n m ts (cond b (Ok (record { what = tree; deep = below + 1; rest = rest })) (Err TooDeep))
told_guard true tree below rest if_so if_not = found (if_so refl)
told_guard false tree below rest if_so if_not = exceeded (if_not refl)

-- a node
pub told_node : {source : List ℕ} {past : Type 0} {D : Relation Tree} {p : Part} {n : ℕ} {ts rest : List Token} {tree : Tree}
    (below : ℕ) → Derives p ts rest tree → D ts rest tree → below + 1 ≡ depth source tree → n ≤ 100
    → nests n ts ≤ max 100 (nests n rest) → (Over source n ts → past) → Told past D (depth source) n n ts (node tree below rest)
unfolding node
told_node {source} {past} {D} {p} {n} {ts} {rest} {tree} below part d deep few within lift =
    told_guard (nat_lt below 100) tree below rest
    (λ h. let lt : below < 100 = ltb-true below 100 h
    in record { derives = d; deep = deep; shallow = omega arith; few = few; within = within })
    (λ h. let le : 100 ≤ below = ltb-false below 100 h in lift (exceeds (deep_part whole_text part (omega arith))))

-- a leaf
pub told_leaf : (source : List ℕ) {past : Type 0} {p : Part} {n : ℕ} {ts rest : List Token} {tree : Tree} → Derives p ts rest tree
    → depth source tree ≡ 1 → n ≤ 100 → nests n ts ≤ max 100 (nests n rest)
    → Told past (Derives p) (depth source) n n ts (leaf tree rest)
told_leaf source d deep few within = found (record { derives = d; deep = sym deep; shallow = omega arith; few = few; within = within })
