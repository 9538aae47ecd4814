-- Types that stay below what an expression puts on them, and code that is written part by part.
use Rattle.std.proofs.Common.{◌≡◌, ℕ, zero, suc, ◌+◌, ◌<◌, ◌≤◌, List, [], ◌∷◌, ◌++◌, length, take, drop, get_or, refl, sym, ap, ◌∙◌, arith}
use Rattle.std.proofs.Common.{drop-cons, add-one}
use Rattle.cel_value.specs.declared.cel_type.CelType.{CelType}
use Rattle.cel_check.specs.declared.tree.TypedTree.{TypedTree}
use Rattle.cel_check.specs.Meaning.{type_of}
use Rattle.cel_expression.specs.declared.compiler.Draft.{Draft}
use Rattle.cel_expression.specs.Placed.{Emits, EmitsEach}
use Rattle.cel_expression.specs.Drafts.{drafted, Writes, WritesEach}
use Rattle.cel_expression.proofs.Place.{emits_none, emits_first}
use Rattle.cel_expression.proofs.Written.{writes_none, writes_first}

take_before : (xs : List CelType) (x : CelType) (n : ℕ) → n ≤ length xs → take n (xs ++ x ∷ []) ≡ take n xs
take_before [] x zero h = refl
take_before [] x (suc n) h = absurd (omega (arith, h))
take_before (y ∷ xs) x zero h = refl
take_before (y ∷ xs) x (suc n) h = ap (λ zs. y ∷ zs) (take_before xs x n (omega (arith, h)))

take_whole : (xs : List CelType) (n : ℕ) → length xs ≤ n → take n xs ≡ xs
take_whole [] zero h = refl
take_whole [] (suc n) h = refl
take_whole (x ∷ xs) zero h = absurd (omega (arith, h))
take_whole (x ∷ xs) (suc n) h = ap (λ zs. x ∷ zs) (take_whole xs n (omega (arith, h)))

take_front : (xs ys : List CelType) → take (length xs) (xs ++ ys) ≡ xs
take_front [] ys = refl
take_front (x ∷ xs) ys = ap (λ zs. x ∷ zs) (take_front xs ys)

-- the first so many are still there
pub one_less : (first now next : List CelType) (t : CelType) (n : ℕ) → take n now ≡ take n first → now ≡ next ++ t ∷ [] → n ≤ length next
    → take n next ≡ take n first
one_less first now next t n h e le = sym (take_before next t n le) ∙ (ap (take n) (sym e) ∙ h)

pub none_more : (first now below types : List CelType) (n : ℕ) → take n now ≡ take n first → length now ≤ n → first ≡ below ++ types
    → n ≡ length below → now ≡ below
none_more first now below types n h le e long =
    sym (take_whole now n le) ∙ (h ∙ (ap (take n) e ∙ (ap (λ k. take k (below ++ types)) long ∙ take_front below types)))

-- an element, and those after it
pub split_at : {X : Type 0} (xs : List X) (i : ℕ) (x : X) → i < length xs → x ≡ get_or xs i x → drop i xs ≡ x ∷ drop (i + 1) xs
split_at xs i x lt is =
    drop-cons xs i x lt ∙ ap (λ y. y ∷ drop (suc i) xs) (sym is) ∙ ap (λ k. x ∷ drop k xs) (sym (add-one i))

pub none_left : {X : Type 0} (xs : List X) (i : ℕ) → length xs ≤ i → drop i xs ≡ []
none_left [] zero h = refl
none_left [] (suc i) h = refl
none_left (x ∷ xs) zero h = absurd (omega (arith, h))
none_left (x ∷ xs) (suc i) h = none_left xs i (omega (arith, h))

-- what is written for the expressions that are left ends what is written for all
pub record GoesOn (first now : Draft) (all left : List TypedTree) : Type 0 where
  pub stands : (new : Draft) → EmitsEach (drafted now) (drafted new) left → EmitsEach (drafted first) (drafted new) all
  pub writes : (new : Draft) → WritesEach now new left → WritesEach first new all

pub begins : (first : Draft) (all : List TypedTree) → GoesOn first first all all
begins first all = record { stands = λ new h. h; writes = λ new h. h }

pub goes_on : (first now d1 d2 : Draft) (all left rest : List TypedTree) (a : TypedTree) → left ≡ a ∷ rest
    → GoesOn first now all left → Emits (drafted now) (drafted d1) a → Writes now d1 a now.below → drafted d2 ≡ drafted d1
    → d2.targets ≡ d1.targets → d2.below ≡ d1.below ++ type_of a ∷ [] → GoesOn first d2 all rest
goes_on first now d1 d2 all left rest a split g ea wa code targets below =
    let g : GoesOn first now all (a ∷ rest) = rw split at g in
    let ea : Emits (drafted now) (drafted d2) a = rw code ea in
    record {
      stands = λ new h. g.stands new (emits_first _ _ _ a rest ea h);
      writes = λ new h. g.writes new (writes_first now d1 d2 new a rest wa code targets below h);
    }

-- likewise a key and its value
pub entry_goes_on : (first now d1 d2 d3 d4 : Draft) (all left rest : List TypedTree) (a b : TypedTree) → left ≡ a ∷ b ∷ rest
    → GoesOn first now all left → Writes now d1 a now.below → Emits (drafted now) (drafted d1) a → Writes d2 d3 b d2.below
    → Emits (drafted d2) (drafted d3) b → drafted d2 ≡ drafted d1 → d2.targets ≡ d1.targets → d2.below ≡ d1.below ++ type_of a ∷ []
    → drafted d4 ≡ drafted d3 → d4.targets ≡ d3.targets → d4.below ≡ d3.below ++ type_of b ∷ [] → GoesOn first d4 all rest
entry_goes_on first now d1 d2 d3 d4 all left rest a b split g wa ea wb eb code targets below code' targets' below' =
    let key = goes_on first now d1 d2 all left (b ∷ rest) a split g ea wa code targets below in
    goes_on first d2 d3 d4 all (b ∷ rest) rest b refl key eb wb code' targets' below'

pub all_stand : (first now : Draft) (all left : List TypedTree) → left ≡ [] → GoesOn first now all left
    → EmitsEach (drafted first) (drafted now) all
all_stand first now all left none g =
    let g : GoesOn first now all [] = rw none at g in g.stands now (emits_none _ _ refl)

pub all_written : (first now : Draft) (all left : List TypedTree) → left ≡ [] → GoesOn first now all left
    → WritesEach first now all
all_written first now all left none g =
    let g : GoesOn first now all [] = rw none at g in g.writes now (writes_none _ _ refl)
