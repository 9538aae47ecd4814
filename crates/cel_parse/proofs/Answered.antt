-- The answer of a reader of all tokens is the definition's.
use Rattle.std.proofs.Common.{sym, ◌≡◌, ℕ, ◌≤◌, List, [], ◌∷◌, ◌++◌, length}
use Rattle.std.proofs.Common.{Result, Ok, Err, refl, ap, subst, ◌∙◌, arith}
use Rattle.std.specs.Prelude.{IfOk, IsErrOf, max}
use Rattle.cel_lex.specs.declared.token.Token.{Token}
use Rattle.cel_parse.specs.declared.fault.ParseFault.{ParseFault}
use Rattle.cel_parse.specs.declared.fault.ParseFault.TheVariants.{Unexpected, TooDeep}
use Rattle.base_containers.specs.declared.failed.Failed.{Failed}
use Rattle.base_containers.specs.declared.failed.Failed.TheVariants as failed
use Rattle.cel_parse.specs.declared.tree.Tree.{Tree}
use Rattle.cel_parse.specs.Grammar.{Derives, Expression, place_at}
use Rattle.cel_parse.specs.Limits.{depth, nests, IsWithin, Exceeds}
use Rattle.cel_parse.specs.Views.{same, Gives}
use Rattle.cel_parse.specs.Descent.{◌>>=◌, Read, expression, ended, all_of}
use Rattle.cel_parse.specs.Trees.{IsTree, Agrees, same_first, IsUnexpected, HasNoTree, unexpected, too_deep}
use Rattle.cel_parse.proofs.Told.{Told, found, exceeded, unexpected as told_unexpected, Over, exceeds, long}
use Rattle.cel_parse.proofs.Readers.{expression_told}
use Rattle.cel_parse.proofs.Stages.{Front, Stage, again, gave_up, stuck}
use Rattle.cel_parse.proofs.Goings.{expression_stage}
use Rattle.cel_parse.proofs.Complete.{none_derived, tree_answered}

-- what the reading of all tokens results in
data Ends (source : List ℕ) (ts : List Token) : Result Tree ParseFault → Type 0 where
  tree_end : {e : Tree} → IsTree source ts e → Ends source ts (Ok e)
  deep_end : Exceeds source 0 ts → Ends source ts (Err TooDeep)
  place_end : {place : ℕ} → Ends source ts (Err (Unexpected place))

ended_at : (source : List ℕ) (ts : List Token) (tree : Tree) (deep : ℕ) → deep ≡ depth source tree → deep ≤ 100
    → (rest : List Token) → Derives Expression ts rest tree → nests 0 ts ≤ max 100 (nests 0 rest)
    → Ends source ts (ended (record { what = tree; deep = deep; rest = rest }))
ended_at source ts tree deep e le [] d w =
    tree_end (record { derived = d; within = record { shallow = omega arith; closed = omega arith } })
ended_at source ts tree deep e le (t ∷ rest) d w = place_end

ends : {source : List ℕ} {ts : List Token} {r : Read} → length ts ≤ 16384
    → Told (Over source 0 ts) (Derives Expression) (depth source) 0 0 ts r → Ends source ts (r >>= ended)
ends {source} {ts} few (found {f} r) = ended_at source ts f.what f.deep r.deep r.shallow f.rest r.derives r.within
ends few (exceeded (exceeds x)) = deep_end x
ends few (exceeded (long h)) = absurd (omega arith)
ends few told_unexpected = place_end

all_end : (source : List ℕ) (ts : List Token) → length ts ≤ 16384 → Ends source ts (all_of source ts)
unfolding all_of
all_end source ts few = ends few (expression_told source 101 0 (omega arith) ts)

ok_tree : {source : List ℕ} {ts : List Token} {r : Result Tree ParseFault} (e : Tree) → Ends source ts r → r ≡ Ok e
    → IsTree source ts e
ok_tree {source} {ts = ts} e (tree_end t) h = subst (λ x. IsTree source ts x) (cc) t
ok_tree e (deep_end x) h = absurd cc
ok_tree e place_end h = absurd cc

-- the tokens go on in no text of the grammar
module _ (source : List ℕ) (place : ℕ) (ts : List Token) where
  abbrev finish : ℕ
  finish = length source

  stops_by : (F : Front) (rest : List Token)
      → ((other : List Token) → Agrees rest other → all_of source (F.onto other) ≡ Err (Unexpected (place_at finish other)))
      → (other : List Token) → Agrees rest other → (e : Tree) → Derives Expression (F.onto [] ++ other) [] e → ⊥
  stops_by F rest k other a e d =
      none_derived source (place_at finish other) (F.onto other) e (k other a)
      (subst (λ x. Derives Expression x [] e) (sym (F.before other)) d)

  goes_on_by : (F : Front) (more : List Token) (e : Tree) → Derives Expression (F.onto more) [] e
      → Derives Expression (F.onto [] ++ more) [] e
  goes_on_by F more e d = subst (λ x. Derives Expression x [] e) (F.before more) d

  left_over : (tree : Tree) (deep : ℕ) (t : Token) (vs : List Token) (F : Front) →
      ((other : List Token) → Agrees (t ∷ vs) other
      → expression source 101 (F.onto other) ≡ Ok (record { what = tree; deep = deep; rest = other }))
      → (other : List Token) → Agrees (t ∷ vs) other → all_of source (F.onto other) ≡ Err (Unexpected (place_at finish other))
  unfolding all_of
  left_over tree deep t vs F k other (same_first {vs = ws}) = ap (λ (o : Read). o >>= ended) (k (t ∷ ws) same_first)

  found_unexpected : (tree : Tree) (deep : ℕ) (rest : List Token) (F : Front) → F.onto rest ≡ ts
      → ((rest : List Token) → Derives Expression (F.onto rest) rest tree) →
      ((other : List Token) → Agrees rest other
      → expression source 101 (F.onto other) ≡ Ok (record { what = tree; deep = deep; rest = other }))
      → ended (record { what = tree; deep = deep; rest = rest }) ≡ Err (Unexpected place) → IsUnexpected finish ts place
  found_unexpected tree deep [] F e d k h = absurd cc
  found_unexpected tree deep (t ∷ vs) F e d k h = record {
    before = F.onto [];
    rest = t ∷ vs;
    tokens = sym e ∙ F.before (t ∷ vs);
    here = cc;
    more = [];
    tree = tree;
    goes_on = goes_on_by F [] tree (d []);
    stops = stops_by F (t ∷ vs) (left_over tree deep t vs F k);
  }

  stage_unexpected : {r : Read} → Stage finish (Derives Expression) (expression source 101) ts r
      → (r >>= ended) ≡ Err (Unexpected place) → IsUnexpected finish ts place
  unfolding all_of
  stage_unexpected (again {f} F e d k) h = found_unexpected f.what f.deep f.rest F e d k h
  stage_unexpected gave_up h = absurd cc
  stage_unexpected (stuck F w C e q p d k) h = record {
    before = F.onto [];
    rest = w;
    tokens = sym q ∙ F.before w;
    here = cc;
    more = C.onto [];
    tree = e;
    goes_on = goes_on_by F (C.onto []) e (d []);
    stops = stops_by F w (λ other a. ap (λ (o : Read). o >>= ended) (k other a));
  }

  all_unexpected : all_of source ts ≡ Err (Unexpected place) → IsUnexpected finish ts place
  unfolding all_of
  all_unexpected h = stage_unexpected (expression_stage source 101 ts) h

fault_is : {source : List ℕ} {ts : List Token} {r : Result Tree ParseFault} (f : ParseFault) → Ends source ts r → r ≡ Err f
    → ((place : ℕ) → r ≡ Err (Unexpected place) → IsUnexpected (length source) ts place)
    → (r ≡ Err TooDeep → (e : Tree) → Derives Expression ts [] e → IsWithin source ts e → ⊥) → HasNoTree source ts f
fault_is f (tree_end t) h none none_within = absurd cc
fault_is {source} {ts} f (deep_end x) h none none_within =
    subst (λ g. HasNoTree source ts g) (cc) (too_deep (record { cause = x; none_within = none_within refl }))
fault_is {source} {ts} f (place_end {place}) h none none_within = subst (λ g. HasNoTree source ts g) (cc) (unexpected (none place refl))

none_when_deep : (source : List ℕ) (ts : List Token) → length ts ≤ 16384 → all_of source ts ≡ Err TooDeep → (e : Tree)
    → Derives Expression ts [] e → IsWithin source ts e → ⊥
none_when_deep source ts few h e d w = let g = tree_answered source ts e few d w in cc

-- what the code answers, if it answers what reading gives
pub answered_tree : (source : List ℕ) (ts : List Token) → length ts ≤ 16384 → (r : Result Tree (Failed ParseFault))
    → Gives same r (all_of source ts) → IfOk r (λ e. IsTree source ts e)
answered_tree source ts few (Ok e) g = ok_tree e (all_end source ts few) g
answered_tree source ts few (Err e) g = tt

pub answered_fault : (source : List ℕ) (ts : List Token) → length ts ≤ 16384 → (r : Result Tree (Failed ParseFault))
    → Gives same r (all_of source ts) → (f : ParseFault) → IsErrOf r (failed.Fault f) → HasNoTree source ts f
answered_fault source ts few (Ok e) g f h = absurd cc
answered_fault source ts few (Err failed.OutOfMemory) g f h = absurd cc
answered_fault source ts few (Err (failed.Fault k)) g f h =
    let e : k ≡ f = cc in
    fault_is f (all_end source ts few) (g ∙ ap Err e) (λ place q. all_unexpected source place ts q) (none_when_deep source ts few)

-- the tokens have one tree
pub one_tree : (source : List ℕ) (ts : List Token) (a b : Tree) → length ts ≤ 16384 → IsTree source ts a → IsTree source ts b
    → a ≡ b
one_tree source ts a b few p q =
    let x = tree_answered source ts a few p.derived p.within in let y = tree_answered source ts b few q.derived q.within in cc
