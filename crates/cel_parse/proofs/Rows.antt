-- One turn of the loops over items and over entries.
use Rattle.std.proofs.Common.{◌≡◌, ℕ, suc, ◌+◌, ◌-◌, ◌<◌, ◌≤◌, List, [], ◌∷◌}
use Rattle.std.proofs.Common.{◌++◌, Result, Ok, Err, refl, sym, ap, ◌∙◌, arith, append_assoc}
use Rattle.std.specs.Prelude.{max}
use Rattle.cel_lex.specs.declared.token.Token.{Token}
use Rattle.cel_parse.specs.declared.fault.ParseFault.{ParseFault}
use Rattle.cel_parse.specs.declared.fault.ParseFault.TheVariants.{TooDeep}
use Rattle.base_containers.specs.declared.failed.Failed.{Failed}
use Rattle.base_containers.specs.declared.failed.Failed.TheVariants as failed
use Rattle.cel_parse.specs.declared.heads.Closer.{Closer}
use Rattle.cel_parse.specs.declared.heads.Step.{Step}
use Rattle.cel_parse.specs.declared.heads.Step.TheVariants as step
use Rattle.std.specs.Borrow.{Bor}
use Rattle.cel_parse.specs.Views.{Fails, seen_step}
use Rattle.cel_parse.specs.Descent.{◌>>=◌, Found, ReadOf, Move, stop, go_on, step_at, with_first, moved, items_from}

-- what is read after items that were read already
abbrev pub with_front : {A : Type 0} → List A → ℕ → ReadOf (List A) → ReadOf (List A)
with_front front deep r = r >>= λ f. Ok (record { what = front ++ f.what; deep = max deep f.deep; rest = f.rest })

max_assoc : (a b c : ℕ) → max (max a b) c ≡ max a (max b c)
max_assoc a b c = omega arith

same_found : {A : Type 0} (a b : A) (m n : ℕ) (rest : List Token) → a ≡ b → m ≡ n
    → ◌≡◌ {A = ReadOf A} (Ok (record { what = a; deep = m; rest = rest })) (Ok (record { what = b; deep = n; rest = rest }))
same_found a b m n rest p q = rw (p, q) refl

-- what a step that was answered is
pub end_is : (r : Result Move ParseFault) (s : Step) (ts : Bor (List Token)) → r ≡ Ok (seen_step s) → s ≡ step.End ts
    → r ≡ Ok (stop ts.now)
end_is r s ts q e = q ∙ ap (λ (x : Step). Ok (seen_step x)) e

pub more_is : (r : Result Move ParseFault) (s : Step) (ts : Bor (List Token)) → r ≡ Ok (seen_step s) → s ≡ step.More ts
    → r ≡ Ok (go_on ts.now)
more_is r s ts q e = q ∙ ap (λ (x : Step). Ok (seen_step x)) e

module _ {A : Type 0} (source : List ℕ) (c : Closer) (item : List Token → ReadOf A) where
  -- a turn in which an item is read
  module _ (t : ℕ) (ahead : List Token) (front : List A) (deep : ℕ) (total : ReadOf (List A)) (lt : t < 16384)
      (kept : with_front front deep (items_from source c item (16384 - t) ahead) ≡ total) where
    abbrev others : List Token → ReadOf (List A)
    others = items_from source c item (16384 - (t + 1))

    unrolled : with_front front deep (items_from source c item (suc (16384 - (t + 1))) ahead) ≡ total
    unrolled =
        let e : 16384 - t ≡ suc (16384 - (t + 1)) = omega arith in
        sym (ap (λ k. with_front front deep (items_from source c item k ahead)) e) ∙ kept

    after_item : (r : ReadOf A) → item ahead ≡ r
        → total ≡ with_front front deep (r >>= λ e. step_at source c e.rest >>= moved others e)
    unfolding items_from
    after_item r h =
        sym unrolled ∙ ap (λ (q : ReadOf A). with_front front deep (q >>= λ e. step_at source c e.rest >>= moved others e)) h

    pub item_fails : (e : Failed ParseFault) → Fails e (item ahead) → Fails e total
    item_fails failed.OutOfMemory h = tt
    item_fails (failed.Fault f) h = after_item (Err f) h

    module _ (e : Found A) (h : item ahead ≡ Ok e) where
      after_step : (r : Result Move ParseFault) → step_at source c e.rest ≡ r → total ≡ with_front front deep (r >>= moved others e)
      after_step r q = after_item (Ok e) h ∙ ap (λ (s : Result Move ParseFault). with_front front deep (s >>= moved others e)) q

      pub step_fails : (x : Failed ParseFault) → Fails x (step_at source c e.rest) → Fails x total
      step_fails failed.OutOfMemory q = tt
      step_fails (failed.Fault f) q = after_step (Err f) q

      pub items_end : (rest : List Token) (now : List A) (depth : ℕ) → step_at source c e.rest ≡ Ok (stop rest)
          → now ≡ front ++ e.what ∷ [] → depth ≡ max deep e.deep
          → total ≡ Ok (record { what = now; deep = depth; rest = rest })
      items_end rest now depth q p d =
          after_step (Ok (stop rest)) q ∙ sym (same_found now (front ++ e.what ∷ []) depth (max deep e.deep) rest p d)

      regrouped : (r : ReadOf (List A))
          → with_front (front ++ e.what ∷ []) (max deep e.deep) r ≡ with_front front deep (r >>= with_first e)
      regrouped (Ok f) = same_found _ _ _ _ f.rest (append_assoc front (e.what ∷ []) f.what) (max_assoc deep e.deep f.deep)
      regrouped (Err x) = refl

      pub items_go_on : (rest : List Token) (now : List A) (depth : ℕ) → step_at source c e.rest ≡ Ok (go_on rest)
          → now ≡ front ++ e.what ∷ [] → depth ≡ max deep e.deep → with_front now depth (others rest) ≡ total
      items_go_on rest now depth q p d =
          ap (λ (x : List A). with_front x depth (others rest)) p
          ∙ ap (λ (n : ℕ). with_front (front ++ e.what ∷ []) n (others rest)) d
          ∙ regrouped (others rest)
          ∙ sym (after_step (Ok (go_on rest)) q)

  -- no turn is left
  pub out_of_items : (t : ℕ) (ahead : List Token) (front : List A) (deep : ℕ) (total : ReadOf (List A)) → 16384 ≤ t
      → with_front front deep (items_from source c item (16384 - t) ahead) ≡ total → total ≡ Err TooDeep
  unfolding items_from
  out_of_items t ahead front deep total le kept =
      let e : 16384 - t ≡ 0 = omega arith in
      sym kept ∙ ap (λ k. with_front front deep (items_from source c item k ahead)) e
