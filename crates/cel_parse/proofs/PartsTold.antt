-- What a reader of a part says, a loop over such readers, and bounds that hold on the way.
use Rattle.std.proofs.Common.{◌≡◌, ℕ, zero, suc, ◌+◌, ◌<◌, ◌≤◌, List, ◌∷◌, Option, Some, Ok, refl, ap, ◌∙◌, arith}
use Rattle.std.specs.Prelude.{max}
use Rattle.cel_lex.specs.declared.token.TokenKind.{TokenKind}
use Rattle.cel_lex.specs.declared.token.Token.{Token}
use Rattle.cel_parse.specs.declared.tree.Tree.{Tree}
use Rattle.cel_parse.specs.Grammar.{Part, Derives}
use Rattle.cel_parse.specs.Limits.{depth, open_after, nests}
use Rattle.cel_parse.specs.Descent.{◌>>=◌, Found, Read, if_at, more}
use Rattle.cel_parse.proofs.Depths.{depth_pos}
use Rattle.cel_parse.proofs.Steps.{option_cases}
use Rattle.cel_parse.proofs.Told.{Told, found, Over, told_then}

-- a token that is no bracket opens none
pub behind_plain : (n : ℕ) (t : Token) (ts : List Token) → n ≤ 100 → open_after n t.kind ≡ n
    → nests n (t ∷ ts) ≤ max 100 (nests n ts)
behind_plain n t ts le e =
    let h : nests (open_after n t.kind) ts ≡ nests n ts = ap (λ m. nests m ts) e in
    omega arith

-- nothing after a token that is no bracket opens more
pub from_plain : (n : ℕ) (t : Token) (ts : List Token) → open_after n t.kind ≡ n → nests n ts ≤ nests n (t ∷ ts)
from_plain n t ts e = let h : nests (open_after n t.kind) ts ≡ nests n ts = ap (λ m. nests m ts) e in omega arith

pub within_then : (a b c : ℕ) → a ≤ max 100 b → b ≤ max 100 c → a ≤ max 100 c
within_then a b c p q = omega arith

pub two_deep : (a b c d : ℕ) → a ≡ c → b ≡ d → max a b + 1 ≡ max c d + 1
two_deep a b c d p q = rw (p, q) refl

pub three_deep : (a b c d e f : ℕ) → a ≡ d → b ≡ e → c ≡ f → max a (max b c) + 1 ≡ max d (max e f) + 1
three_deep a b c d e f p q r = rw (p, q, r) refl

-- a tree that is derived is deeper than another
module _ (source : List ℕ) where
  abbrev pub Longer : Part → List Token → ℕ → List Token → Tree → Type 0
  Longer p ts deep rest e = Derives p ts rest e × (deep < depth source e)

-- what is said of a part from a place on
module _ (source : List ℕ) (opened : ℕ) where
  abbrev pub Tells : Part → List Token → Read → Type 0
  Tells p ts r = Told (Over source opened ts) (Derives p) (depth source) opened opened ts r

  abbrev pub TellsLonger : Part → List Token → ℕ → Read → Type 0
  TellsLonger p ts deep r = Told (Over source opened ts) (λ us rest e. Longer source p ts deep rest e) (depth source) opened opened ts r

  abbrev pub ToldPast : Type 0 → Part → List Token → Read → Type 0
  ToldPast past p ts r = Told past (Derives p) (depth source) opened opened ts r

module _ (opened : ℕ) where
  pub on_plain : (t : Token) {k : TokenKind} (ts : List Token) → t.kind ≡ k → open_after opened k ≡ opened
      → nests opened ts ≤ nests opened (t ∷ ts)
  on_plain t ts q e = from_plain opened t ts (ap (open_after opened) q ∙ e)

  module _ (few : opened ≤ 100) where
    pub plain : (t : Token) {k : TokenKind} (ts : List Token) → t.kind ≡ k → open_after opened k ≡ opened
        → nests opened (t ∷ ts) ≤ max 100 (nests opened ts)
    plain t ts q e = behind_plain opened t ts few (ap (open_after opened) q ∙ e)

module _ (source : List ℕ) (opened : ℕ) (few : opened ≤ 100) where
  -- a loop that goes on while something that is asked for comes first
  module _ {A : Type 0} (p : Part) (ask : List Token → Option A) (act : A → Found Tree → Read)
      (act_told : (ts : List Token) (left : Tree) (deep : ℕ) → deep ≡ depth source left → deep ≤ 100 → (rest : List Token)
      → Derives p ts rest left → nests opened ts ≤ max 100 (nests opened rest) → (x : A) → ask rest ≡ Some x
      → TellsLonger source opened p ts deep (act x (record { what = left; deep = deep; rest = rest }))) where
    more_told : (turns : ℕ) (ts : List Token) (left : Tree) (deep : ℕ) → deep ≡ depth source left → deep ≤ 100
        → 101 ≤ turns + deep → (rest : List Token) → Derives p ts rest left → nests opened ts ≤ max 100 (nests opened rest)
        → Tells source opened p ts (more ask act turns (record { what = left; deep = deep; rest = rest }))
    unfolding more
    more_told zero ts left deep e le lots rest d w = absurd (omega arith)
    more_told (suc turns) ts left deep e le lots rest d w =
        option_cases
        (λ o. Tells source opened p ts (if_at o (Ok (record { what = left; deep = deep; rest = rest }))
        (λ x. act x (record { what = left; deep = deep; rest = rest }) >>= more ask act turns)))
        (ask rest)
        (λ h. found (record { derives = d; deep = e; shallow = le; few = few; within = w }))
        (λ x h. told_then (more ask act turns) (act_told ts left deep e le rest d w x h) (λ y. y)
        (λ f q r. let lt = r.derives.1 in let rd = r.deep
        in more_told turns ts f.what f.deep r.deep r.shallow (omega arith) f.rest r.derives.0 r.within))

    pub read_told : {q : Part} {r : Read} (ts : List Token) → Tells source opened q ts r
        → ((rest : List Token) (e : Tree) → Derives q ts rest e → Derives p ts rest e) → Tells source opened p ts (r >>= more ask act 100)
    read_told ts x as' =
        told_then _ x (λ y. y)
        (λ f e r. let pos = depth_pos source f.what in let deep = r.deep
        in more_told 100 ts f.what f.deep r.deep r.shallow (omega arith) f.rest (as' f.rest f.what r.derives) r.within)
