-- Entries that are put in their order.
use Rattle.std.proofs.Common.{◌≡◌, List, [], ◌∷◌, ◌++◌, Less, Greater, refl, ap, sym, subst, ◌∙◌, append_assoc}
use Rattle.std.specs.BTreeMap.{insert_entry}
use Rattle.std.specs.List.{AllByRecursion}
use Rattle.std.specs.List.Sorted.{IsStrictlySortedBy}
use Rattle.std.specs.Map.{keys_of}
use Rattle.std.specs.Ordering.{match_ordering, ordering_reverse}
use Rattle.vap_read.specs.Keys.{key_cmp}
use Rattle.vap_read.specs.declared.key.Key.{Key}
use Rattle.vap_read.specs.declared.object.Object.{Object}
use Rattle.vap_read.proofs.KeyOrder.{key_total}

-- a key below all those of some entries is below that of one of them
below_one : (first : Key) (es more : List (Key × Object)) (k : Key) (o : Object)
    → AllByRecursion (λ y. key_cmp first y ≡ Less) (keys_of (es ++ (k, o) ∷ more)) → key_cmp first k ≡ Less
below_one first [] more k o below = below.0
below_one first (e ∷ es) more k o below = below_one first es more k o below.1

-- a key that is above those before it goes last
insert_last : (es more : List (Key × Object)) (k : Key) (o : Object)
    → IsStrictlySortedBy key_cmp (keys_of (es ++ (k, o) ∷ more)) → insert_entry key_cmp es k o ≡ es ++ (k, o) ∷ []
unfolding IsStrictlySortedBy
insert_last [] more k o sorted = refl
insert_last (e ∷ es) more k o sorted =
    let above : key_cmp k e.0 ≡ Greater =
    key_total.antisymm k e.0 ∙ ap ordering_reverse (below_one e.0 es more k o sorted.0) in
    ap (λ r. match_ordering r ((k, o) ∷ e ∷ es) ((e.0, o) ∷ es) (e ∷ insert_entry key_cmp es k o)) above
    ∙ ap (λ xs. e ∷ xs) (insert_last es more k o sorted.1)

-- the next of some entries in their order goes after those before it
put_last : (es more all : List (Key × Object)) (k : Key) (o : Object) → es ++ (k, o) ∷ more ≡ all
    → IsStrictlySortedBy key_cmp (keys_of all) → insert_entry key_cmp es k o ++ more ≡ all
put_last es more all k o whole sorted =
    ap (λ xs. xs ++ more) (insert_last es more k o (subst (λ xs. IsStrictlySortedBy key_cmp (keys_of xs)) (sym whole) sorted))
    ∙ append_assoc es ((k, o) ∷ []) more
    ∙ whole

-- so does an equal object under an equal key
pub put_equal : (es made rest more all : List (Key × Object)) (k l : Key) (o p : Object)
    → made ≡ insert_entry key_cmp es l p → l ≡ k → p ≡ o → rest ≡ (k, o) ∷ more → es ++ rest ≡ all
    → IsStrictlySortedBy key_cmp (keys_of all) → made ++ more ≡ all
put_equal es made rest more all k l o p put same_key same_object next whole sorted =
    ap (λ xs. xs ++ more) put
    ∙ ap (λ j. insert_entry key_cmp es j p ++ more) same_key
    ∙ ap (λ q. insert_entry key_cmp es k q ++ more) same_object
    ∙ put_last es more all k o (ap (λ xs. es ++ xs) (sym next) ∙ whole) sorted
