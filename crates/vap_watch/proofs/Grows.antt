-- What is published follows what was seen, and each step keeps this.
use Rattle.std.proofs.Common.{◌≡◌, ℕ, ◌≢◌, Bool, List, [], ◌∷◌, ◌++◌, fold, set, refl, sym, subst, ap, ◌∙◌, ⊎_elim, zero, suc, arith}
use Rattle.std.proofs.lemmas.List.Elements.{All-append}
use mathlib.Core.Option.{some}
use lib.ListN.{get_elem?}
use Rattle.left_right.specs.Register.{Admits, TurnsAt, Forks, Merges}
use Rattle.atomic_table.proofs.Lists.{at_set, at_snoc}
use Rattle.vap_watch.specs.Begins.{StartsWith}
use Rattle.vap_watch.specs.Shown.{Shown}
use Rattle.vap_watch.specs.Seen.{Follows, FollowsAll, Keeps, Sees, Known, SeesMore, Looks, Learns}
use Rattle.vap_watch.proofs.Begins.{starts_here, starts_further, starts_empty}

module _ {X : Type 0} where
  pub follows_here : (s : Shown X) → Follows s s
  follows_here s = record { board = refl; more = starts_here s.list }

  pub follows_same : (s t : Shown X) → s ≡ t → Follows s t
  follows_same s t e = subst (λ x. Follows s x) e (follows_here s)

  pub follows_further : (c b a : Shown X) → Follows c b → Follows b a → Follows c a
  follows_further c b a p q = record { board = p.board ∙ q.board; more = starts_further c.list b.list a.list p.more q.more }

  pub follows_empty : (s t : Shown X) → s.board ≡ t.board → t.list ≡ [] → Follows s t
  follows_empty s t board none = record { board = board; more = subst (λ l. StartsWith s.list l) (sym none) (starts_empty s.list) }

  all_further : (c b : Shown X) (seen : List (Shown X)) → Follows c b → FollowsAll b seen → FollowsAll c seen
  all_further c b seen p q k d h = follows_further c b _ p (q k d h)

  all_one : (c b : Shown X) → Follows c b → FollowsAll c (b ∷ [])
  all_one c b p zero d h = p
  all_one c b p (suc k) d h = absurd (omega arith)

  all_none : (c : Shown X) → FollowsAll c []
  all_none c k d h = absurd (omega arith)

  -- a new place has seen nothing
  pub admits : Admits (Keeps {X = X}) []
  admits x views h seat seen at =
      ⊎_elim (h seat seen) (λ (e : [] ≡ seen). subst (λ (z : List (Shown X)). FollowsAll x z) e (all_none x))
      (at_snoc views [] seen seat at)

  -- one place publishes or enters
  pub grows : (seat : ℕ) (seen : List (Shown X)) (before after : Shown X) → Follows after before → TurnsAt Keeps seat seen before after Sees
  grows seat seen before after more views h at =
      let here = all_one after after (follows_here after) in (
        after ∷ [],
        (λ j u e. ⊎_elim
            (λ (t : (j ≡ seat) × ((after ∷ []) ≡ u)). subst (λ (z : List (Shown X)). FollowsAll after z) t.1 here)
            (λ (t : (j ≢ seat) × (get_elem? views j ≡ some u)). all_further after before u more (h j u t.1))
            (at_set views seat j (after ∷ []) u e)),
        (all_further after before seen more (h seat seen at), refl),
      )

  kept_set : (x : Shown X) (views : List (List (Shown X))) (seat : ℕ) (v : List (Shown X)) → Keeps x views → FollowsAll x v
      → Keeps x (set views seat v)
  kept_set x views seat v h ok j u e = ⊎_elim
      (λ (t : (j ≡ seat) × (v ≡ u)). subst (λ (z : List (Shown X)). FollowsAll x z) t.1 ok)
      (λ (t : (j ≢ seat) × (get_elem? views j ≡ some u)). h j u t.1)
      (at_set views seat j v u e)

  -- one place tells what it knows
  pub forks : (seat : ℕ) (v : List (Shown X)) → Forks Keeps seat v v v
  forks seat v x views h at j u e = ⊎_elim
      (kept_set x views seat v h (h seat v at) j u)
      (λ (same : v ≡ u). subst (λ (z : List (Shown X)). FollowsAll x z) same (h seat v at))
      (at_snoc (set views seat v) v u j e)

  -- another takes it in
  pub merges : (seat : ℕ) (v : List (Shown X)) (other : ℕ) (w : List (Shown X)) → Merges Keeps seat v other w (v ++ w) []
  merges seat v other w x views h at apart there =
      let mine = h seat v at in
      let theirs : FollowsAll x w = ⊎_elim
      (λ (t : (other ≡ seat) × ((v ++ w) ≡ w)). absurd (apart t.0))
      (λ (t : (other ≢ seat) × (get_elem? views other ≡ some w)). h other w t.1)
      (at_set views seat other (v ++ w) w there) in
      let both = All-append (λ (earlier : Shown X). Follows x earlier) v w mine theirs in
      kept_set x (set views seat (v ++ w)) other [] (kept_set x views seat (v ++ w) h both) (all_none x)

  -- only the last of the operations counts
  pub fold_last : (x : Shown X) (ops : List (Shown X)) (op : Shown X)
      → fold (λ (_ : Shown X) (s : Shown X). s) x (ops ++ op ∷ []) ≡ op
  fold_last x [] op = refl
  fold_last x (o ∷ ops) op = fold_last o ops op

  pub sees_still : (k : Known X) → SeesMore k k
  sees_still k = record { board = refl; told = refl; seen = starts_here k.seen }

  -- a reader has seen what it looks at, which is what it had seen
  pub looks_still : (k : Known X) → StartsWith k.seen k.told → Looks k k
  looks_still k begins = record { more = sees_still k; told = begins }

  -- it is another
  pub looks_further : (before after : Known X) → after.board ≡ before.board → after.told ≡ before.told → StartsWith after.seen before.seen
      → StartsWith after.seen before.told → Looks before after
  looks_further before after board told seen begins = record {
    more = record { board = board; told = told; seen = seen };
    told = begins;
  }

  pub learns : (before after : Known X) (list : List X) → after.board ≡ before.board → after.seen ≡ before.seen → StartsWith after.told list
      → StartsWith after.told before.told → Learns before after list
  learns before after list board seen told kept = record { board = board; seen = seen; told = told; kept = kept }
