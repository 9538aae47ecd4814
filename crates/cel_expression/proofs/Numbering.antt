-- Constants and the numbers under which their keys are.
use Rattle.std.proofs.Common.{◌≡◌, ◌≢◌, ℕ, zero, suc, true, false, [], ◌∷◌, ◌++◌, length}
use Rattle.std.proofs.Common.{Some, refl, sym, ap, ◌∙◌, subst, inl, inr, ⊎_elim, rules}
use Rattle.std.specs.Prelude.{slice_get, Contains, ◌⊎◌, Result, Ok, Err, OnOk, OnErr}
use Rattle.std.proofs.lemmas.Option.{same_Some}
use Rattle.std.proofs.lemmas.Map.Lookups.{CmpEqualImpliesEq, exact_signed, exact_unsigned}
use Rattle.std.specs.declared.cmp.Ordering.{Ordering}
use Rattle.std.specs.declared.cmp.Ordering.TheVariants.{Less, Equal, Greater}
use Rattle.std.specs.Ordering.{is_eq}
use Rattle.std.specs.BTreeMap.{BTreeMap, get, is_at, Updates}
use Rattle.cel_value.specs.declared.value.Value.{Value, out-Value, roll-Value, the_lemmas}
use Rattle.cel_value.specs.declared.value.Value.TheOpen.{Value-F}
use Rattle.cel_expression.specs.declared.key.Key.TheVariants as key
use Rattle.cel_expression.specs.declared.key.Key.{Key}
use Rattle.cel_expression.specs.Numbered.{Values, key_at, key_of, key_cmp, IsNumbered, Notes}
use Rattle.cel_expression.proofs.Place.{contains_at, get_kept, get_last}

-- the level that has a key
at_key : Key → Value-F Value
at_key key.Null = Value-F.Null
at_key (key.Truth b) = Value-F.Bool b
at_key (key.Int n) = Value-F.Int n
at_key (key.Uint n) = Value-F.Uint n

of_key : (o : Value-F Value) (q : Key) → key_at o ≡ Some q → o ≡ at_key q
unfolding at_key
of_key Value-F.Null q e = ap at_key (same_Some _ _ e)
of_key (Value-F.Bool b) q e = ap at_key (same_Some _ _ e)
of_key (Value-F.Int n) q e = ap at_key (same_Some _ _ e)
of_key (Value-F.Uint n) q e = ap at_key (same_Some _ _ e)
of_key (Value-F.Timestamp n) q e = cc
of_key (Value-F.Duration n) q e = cc
of_key (Value-F.Text bs) q e = cc
of_key (Value-F.List vs) q e = cc
of_key (Value-F.Map es) q e = cc
of_key (Value-F.Object es) q e = cc
of_key Value-F.Opaque q e = cc

roll_out : (v : Value) → roll-Value (out-Value v) ≡ v
roll_out v = search (rules, the_lemmas)

-- values with one key are one
pub one_key : (v w : Value) (q : Key) → key_of v ≡ Some q → key_of w ≡ Some q → v ≡ w
one_key v w q e f = sym (roll_out v) ∙ ap roll-Value (of_key (out-Value v) q e ∙ sym (of_key (out-Value w) q f)) ∙ roll_out w

-- keys that compare alike are one
exact : CmpEqualImpliesEq key_cmp
exact key.Null key.Null e = refl
exact (key.Truth false) (key.Truth false) e = refl
exact (key.Truth true) (key.Truth true) e = refl
exact (key.Int m) (key.Int n) e = ap key.Int (exact_signed m n e)
exact (key.Uint m) (key.Uint n) e = ap key.Uint (exact_unsigned m n e)
exact _ _ e = let no : ⊥ = cc in absurd no

apart : (p q : Key) → p ≢ q → is_at (key_cmp p) q ≡ false
apart p q ne = by (key_cmp p q) refl
  where
    by : (o : Ordering) → key_cmp p q ≡ o → is_eq o ≡ false
    by Less e = refl
    by Equal e = absurd (ne (exact p q e))
    by Greater e = refl

pub noted : (old new : BTreeMap Key ℕ) (v : Value) (q : Key) (number : ℕ) → key_of v ≡ Some q
    → Updates key_cmp old new q (Some number) → Notes old new v number
noted old new v q number has u =
    record {
      own = λ p e. let same : q ≡ p = same_Some q p (sym has ∙ e) in ap (get key_cmp new) (sym same) ∙ u.1;
      others = λ p ne. u.2 p (apart q p (λ same. ne (has ∙ ap Some same)));
    }

-- a number is noted for a value that is no constant yet
pub still_numbered : (constants : Values) (old new : BTreeMap Key ℕ) (v : Value) (number : ℕ) → IsNumbered constants old
    → ¬ Contains constants v → Notes old new v number → IsNumbered constants new
still_numbered constants old new v number is fresh notes =
    record {
      each = λ k w q here has.
          let (n, got, there) = is.each k w q here has in (
            n,
            notes.others q (λ own. fresh (contains_at constants k v (here ∙ ap Some (one_key w v q has own)))) ∙ got,
            there,
          );
    }

pub last_or_before : (xs : Values) (y x : Value) (k : ℕ) → slice_get (xs ++ y ∷ []) k ≡ Some x
    → (slice_get xs k ≡ Some x) ⊎ (x ≡ y)
last_or_before [] y x zero h = inr (sym (same_Some _ _ h))
last_or_before [] y x (suc k) h = cc
last_or_before (z ∷ xs) y x zero h = inl h
last_or_before (z ∷ xs) y x (suc k) h = last_or_before xs y x k h

-- and then it is one
pub numbered_next : (constants : Values) (old new : BTreeMap Key ℕ) (v : Value) → IsNumbered constants old
    → ¬ Contains constants v → Notes old new v (length constants) → IsNumbered (constants ++ v ∷ []) new
numbered_next constants old new v is fresh notes =
    let before = still_numbered constants old new v (length constants) is fresh notes in
    record {
      each = λ k w q here has.
          ⊎_elim
          (λ h. let (n, got, there) = before.each k w q h has in (n, got, get_kept constants v n w there))
          (λ same. (length constants, notes.own q (ap key_of (sym same) ∙ has), get_last constants v ∙ ap Some (sym same)))
          (last_or_before constants v w k here);
    }

-- whichever way the list of constants ends
pub numbered_after : {A B : Type 0} (r : Result A B) (constants new : Values) (old numbers : BTreeMap Key ℕ) (v w : Value)
    (number : ℕ) → w ≡ v → number ≡ length constants → IsNumbered constants old → ¬ Contains constants v
    → Notes old numbers v number → OnOk r (new ≡ constants ++ w ∷ []) → OnErr r (new ≡ constants) → IsNumbered new numbers
numbered_after (Ok a) constants new old numbers v w number same last is fresh notes ok err =
    subst (λ cs. IsNumbered cs numbers) (sym (ok ∙ ap (λ x. constants ++ x ∷ []) same))
    (numbered_next constants old numbers v is fresh (subst (Notes old numbers v) last notes))
numbered_after (Err b) constants new old numbers v w number same last is fresh notes ok err =
    subst (λ cs. IsNumbered cs numbers) (sym err) (still_numbered constants old numbers v number is fresh notes)
