-- What a reader and a loop answer, unless the tree or its text is past the limits.
use Rattle.std.proofs.Common.{◌≡◌, ℕ, zero, suc, ◌+◌, ◌<◌, ◌≤◌, Bool, true, false, cond, List, length, Option, Some, None, Ok}
use Rattle.std.proofs.Common.{Err, refl, sym, ap, subst, ◌∙◌, arith, le_refl}
use Rattle.std.specs.Prelude.{nat_lt}
use Rattle.std.proofs.lemmas.Bool.{ltb-false}
use Rattle.cel_lex.specs.declared.token.Token.{Token}
use Rattle.cel_parse.specs.declared.fault.ParseFault.TheVariants.{TooDeep}
use Rattle.cel_parse.specs.declared.tree.Tree.{Tree}
use Rattle.cel_parse.specs.Limits.{depth, nests}
use Rattle.cel_parse.specs.Descent.{◌>>=◌, Found, ReadOf, Read, leaf, node, if_at, more}
use Rattle.cel_parse.proofs.Depths.{depth_pos}

-- a tree of a depth, or the brackets or the length of its text, are past a limit
pub data IsPast (limit n : ℕ) (ts : List Token) (deep : ℕ) : Type 0 where
  past_depth : limit < deep → IsPast limit n ts deep
  past_brackets : 100 < nests n ts → IsPast limit n ts deep
  past_length : 16384 < length ts → IsPast limit n ts deep

-- what a reader answers is this, unless it is past the limits
pub data Meets {A : Type 0} (past : Type 0) (out : ReadOf A) (rest : List Token) (e : A) (deep : ℕ) : Type 0 where
  gave_up : out ≡ Err TooDeep → past → Meets past out rest e deep
  met : out ≡ Ok (record { what = e; deep = deep; rest = rest }) → Meets past out rest e deep

pub meets_at : {A : Type 0} {past : Type 0} {out other : ReadOf A} {rest : List Token} {e : A} {deep : ℕ} → out ≡ other
    → Meets past other rest e deep → Meets past out rest e deep
meets_at q (gave_up h p) = gave_up (q ∙ h) p
meets_at q (met h) = met (q ∙ h)

pub meets_past : {A : Type 0} {past past' : Type 0} {out : ReadOf A} {rest : List Token} {e : A} {deep : ℕ} → (past → past')
    → Meets past out rest e deep → Meets past' out rest e deep
meets_past f (gave_up h p) = gave_up h (f p)
meets_past f (met h) = met h

pub meets_then : {A B : Type 0} {past past' : Type 0} {out : ReadOf A} {rest rest' : List Token} {e : A} {e' : B} {deep deep' : ℕ}
    (go : Found A → ReadOf B) → (past → past') → Meets past out rest e deep
    → Meets past' (go (record { what = e; deep = deep; rest = rest })) rest' e' deep' → Meets past' (out >>= go) rest' e' deep'
meets_then {A} go f (gave_up h p) next = gave_up (ap (λ (o : ReadOf A). o >>= go) h) (f p)
meets_then {A} go f (met h) next = meets_at (ap (λ (o : ReadOf A). o >>= go) h) next

pub if_none : {B : Type 0} {past : Type 0} {A : Type 0} {o : Option A} {otherwise : ReadOf B} {rest : List Token} {e : B} {deep : ℕ}
    (go : A → ReadOf B) → o ≡ None → Meets past otherwise rest e deep → Meets past (if_at o otherwise go) rest e deep
if_none {otherwise = otherwise} go q m = meets_at (ap (λ x. if_at x otherwise go) q) m

pub if_some : {B : Type 0} {past : Type 0} {A : Type 0} {o : Option A} {x : A} {rest : List Token} {e : B} {deep : ℕ} (otherwise : ReadOf B)
    (go : A → ReadOf B) → o ≡ Some x → Meets past (go x) rest e deep → Meets past (if_at o otherwise go) rest e deep
if_some otherwise go q m = meets_at (ap (λ x. if_at x otherwise go) q) m

not_below : (n : ℕ) → nat_lt n 100 ≡ false → 100 ≤ n
not_below n h = ltb-false n 100 h

guard_meets : {past : Type 0} (b : Bool) (tree : Tree) (deep : ℕ) (rest : List Token) → (b ≡ false → past)
    → Meets past (cond b (Ok (record { what = tree; deep = deep; rest = rest })) (Err TooDeep)) rest tree deep
guard_meets true tree deep rest f = met refl
guard_meets false tree deep rest f = gave_up refl (f refl)

pub node_meets : {past : Type 0} (tree : Tree) (below deep : ℕ) (rest : List Token) → below + 1 ≡ deep → (100 < deep → past)
    → Meets past (node tree below rest) rest tree deep
unfolding node
node_meets {past} tree below deep rest q f =
    subst (λ d. Meets past (node tree below rest) rest tree d) q
    (guard_meets (nat_lt below 100) tree (below + 1) rest (λ h. let le = not_below below h in f (omega arith)))

-- a loop goes on from here
module _ (source : List ℕ) where
  pub data Goes {A : Type 0} (past : Type 0) (out : Read) (ask : List Token → Option A) (act : A → Found Tree → Read) (rest : List Token)
      (e : Tree) : Type 0 where
    stopped : out ≡ Err TooDeep → past → Goes past out ask act rest e
    goes : (turns : ℕ) → 100 < turns + depth source e
        → out ≡ more ask act turns (record { what = e; deep = depth source e; rest = rest }) → Goes past out ask act rest e

  more_zero : {A : Type 0} (ask : List Token → Option A) (act : A → Found Tree → Read) (f : Found Tree)
      → more ask act zero f ≡ Err TooDeep
  unfolding more
  more_zero ask act f = refl

  more_ends : {A : Type 0} (ask : List Token → Option A) (act : A → Found Tree → Read) (turns : ℕ) (f : Found Tree)
      → ask f.rest ≡ None → more ask act (suc turns) f ≡ Ok f
  unfolding more
  more_ends ask act turns f h = ap (λ o. if_at o (Ok f) (λ x. act x f >>= more ask act turns)) h

  more_goes : {A : Type 0} (ask : List Token → Option A) (act : A → Found Tree → Read) (turns : ℕ) (f : Found Tree) (x : A)
      → ask f.rest ≡ Some x → more ask act (suc turns) f ≡ (act x f >>= more ask act turns)
  unfolding more
  more_goes ask act turns f x h = ap (λ o. if_at o (Ok f) (λ x. act x f >>= more ask act turns)) h

  pub goes_meets : {A : Type 0} {past past' : Type 0} {out : Read} {ask : List Token → Option A} {act : A → Found Tree → Read}
      {rest : List Token} {e : Tree}
      → Goes past out ask act rest e → (past → past') → (100 < depth source e → past') → ask rest ≡ None
      → Meets past' out rest e (depth source e)
  goes_meets (stopped h p) f g no_more = gave_up h (f p)
  goes_meets {ask = ask} {act} (goes zero d h) f g no_more = gave_up (h ∙ more_zero ask act _) (g (omega arith))
  goes_meets {ask = ask} {act} (goes (suc turns) d h) f g no_more = met (h ∙ more_ends ask act turns _ no_more)

  -- one step further
  pub further : {A : Type 0} {past pastb past' : Type 0} {out : Read} {ask : List Token → Option A} {act : A → Found Tree → Read}
      {here rest : List Token} {a e : Tree}
      (x : A) → Goes past out ask act here a → ask here ≡ Some x
      → Meets pastb (act x (record { what = a; deep = depth source a; rest = here })) rest e (depth source e)
      → depth source a < depth source e → (past → past') → (pastb → past') → (100 < depth source e → past')
      → Goes past' out ask act rest e
  further x (stopped h p) q m lt f g k = stopped h (f p)
  further {ask = ask} {act} x (goes zero d h) q m lt f g k = stopped (h ∙ more_zero ask act _) (k (omega arith))
  further {ask = ask} {act} {here} {a = a} x (goes (suc turns) d h) q (gave_up z p) lt f g k =
      stopped (h ∙ more_goes ask act turns _ x q ∙ ap (λ (r : Read). r >>= more ask act turns) z) (g p)
  further {ask = ask} {act} {here} {a = a} x (goes (suc turns) d h) q (met z) lt f g k =
      goes turns (omega arith) (h ∙ more_goes ask act turns _ x q ∙ ap (λ (r : Read). r >>= more ask act turns) z)

  pub start_loop : {A : Type 0} {past : Type 0} {out : Read} {rest : List Token} {e : Tree} (ask : List Token → Option A)
      (act : A → Found Tree → Read) → Meets past out rest e (depth source e) → Goes past (out >>= more ask act 100) ask act rest e
  start_loop ask act (gave_up h p) = stopped (ap (λ (o : Read). o >>= more ask act 100) h) p
  start_loop {e = e} ask act (met h) = let pos = depth_pos source e in goes 100 (omega arith) (ap (λ (o : Read). o >>= more ask act 100) h)

  pub leaf_deep : (tree : Tree) (rest : List Token) → depth source tree ≡ 1
      → leaf tree rest ≡ Ok (record { what = tree; deep = depth source tree; rest = rest })
  leaf_deep tree rest e = ap (λ (d : ℕ). Ok (record { what = tree; deep = d; rest = rest })) (sym e)

-- a part of a tree that is past a limit
pub past_part : {ts us : List Token} {a e limit limit' k j : ℕ} → (limit < a → limit' < e) → nests j us ≤ nests k ts
    → length us ≤ length ts → IsPast limit j us a → IsPast limit' k ts e
past_part f le short (past_depth h) = past_depth (f h)
past_part f le short (past_brackets h) = past_brackets (omega arith)
past_part f le short (past_length h) = past_length (omega arith)

pub same_length : (ts : List Token) → length ts ≤ length ts
same_length ts = le_refl (length ts)
