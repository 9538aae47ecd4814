-- What is in the grammar between brackets is read, unless it is past the limits.
use Rattle.std.proofs.Common.{◌≡◌, ℕ, zero, suc, ◌+◌, ◌<◌, ◌≤◌, List, [], ◌∷◌, length, Option, Some, None, Result, Ok, refl, sym}
use Rattle.std.proofs.Common.{ap, subst, ◌∙◌, inl, inr, arith, le_refl}
use Rattle.std.specs.Prelude.{max, ◌⊎◌}
use Rattle.cel_lex.specs.declared.token.TokenKind.TheVariants as kind
use Rattle.cel_lex.specs.declared.token.Token.{Token}
use Rattle.cel_parse.specs.declared.fault.ParseFault.{ParseFault}
use Rattle.cel_parse.specs.declared.heads.Closer.{Closer}
use Rattle.cel_parse.specs.Grammar.{takes_comma, Ends}
use Rattle.cel_parse.specs.Limits.{nests, open_after}
use Rattle.cel_parse.specs.Descent.{◌>>=◌, ReadOf, unexpected, head_if, is_comma, if_at, spare_comma_at, opened as opened_at}
use Rattle.cel_parse.specs.Descent.{Move, stop, go_on, step_at, with_first, moved, items_from, any_items}
use Rattle.cel_parse.proofs.Spans.{past_token, nests_ge}
use Rattle.cel_parse.proofs.Fronts.{head_kept, Begins, begins_spare, begins_end, comma_no_end, end_kept}
use Rattle.cel_parse.proofs.PastLimits.{IsPast, past_brackets, past_length, Meets, gave_up, met, meets_at, meets_past}
use Rattle.cel_parse.proofs.PastLimits.{meets_then, past_part}

-- what is read between brackets
module _ {A : Type 0} (source : List ℕ) (c : Closer) (item : List Token → ReadOf A) (size : A → ℕ) (sizes : List A → ℕ) where
  abbrev pub RowPast : ℕ → ℕ → List Token → ℕ → Type 0
  RowPast turns k ts deep = IsPast 100 k ts deep ⊎ (turns ≤ length ts)

  pub last_meets : {ts mid rest : List Token} {a : A} (turns k : ℕ) → sizes (a ∷ []) ≡ size a
      → Meets (IsPast 100 k ts (size a)) (item ts) mid a (size a) → Ends c mid rest
      → Meets (RowPast turns k ts (sizes (a ∷ []))) (items_from source c item turns ts) rest (a ∷ []) (sizes (a ∷ []))
  unfolding items_from
  last_meets zero k same m z = gave_up refl (inr (omega arith))
  last_meets {ts} {mid} {rest} {a} (suc turns) k same m z =
      let e = end_kept z in
      meets_then _ (λ p. inl (subst (λ d. IsPast 100 k ts d) (sym same) p)) m
      (met (ap (λ (o : Option (ℕ × List Token)). if_at o (if_at (head_if is_comma mid) (unexpected source mid) (λ x. Ok (go_on x.1)))
      (λ x. Ok (stop x.1)) >>= moved (items_from source c item turns) (record { what = a; deep = size a; rest = mid })) e.1
      ∙ ap (λ (d : ℕ). Ok (record { what = a ∷ []; deep = d; rest = rest })) (sym same)))

  pub next_meets : {ts mid rest : List Token} {t : Token} {a : A} {xs : List A} (turns k : ℕ) → sizes (a ∷ xs) ≡ max (size a) (sizes xs)
      → Meets (IsPast 100 k ts (size a)) (item ts) (t ∷ mid) a (size a) → t.kind ≡ kind.Comma → Begins mid
      → nests k mid ≤ nests k ts → length mid < length ts
      → ((left : ℕ) → Meets (RowPast left k mid (sizes xs)) (items_from source c item left mid) rest xs (sizes xs))
      → Meets (RowPast turns k ts (sizes (a ∷ xs))) (items_from source c item turns ts) rest (a ∷ xs) (sizes (a ∷ xs))
  unfolding items_from
  next_meets zero k same m q b le lt r = gave_up refl (inr (omega arith))
  next_meets {ts} {mid} {rest} {t} {a} {xs} (suc turns) k same m q b le lt r =
      let step : step_at source c (t ∷ mid) ≡ Ok (go_on mid) =
      ap
      (λ (o : Option (ℕ × List Token)). if_at o (if_at (head_if is_comma (t ∷ mid)) (unexpected source (t ∷ mid)) (λ x. Ok (go_on x.1)))
      (λ x. Ok (stop x.1)))
      (comma_no_end c t mid q b)
      ∙ ap (λ (o : Option (ℕ × List Token)). if_at o (unexpected source (t ∷ mid)) (λ x. Ok (go_on x.1)))
      (head_kept t is_comma mid (ap is_comma q)) in
      meets_then _ (λ p. inl (past_part (λ h. omega arith) (le_refl (nests k ts)) (le_refl (length ts)) p)) m
      (meets_at (ap (λ (s : Result Move ParseFault). s >>= moved (items_from source c item turns)
      (record { what = a; deep = size a; rest = t ∷ mid })) step)
      (meets_then (with_first (record { what = a; deep = size a; rest = t ∷ mid }))
      (λ p. elim p [ inl x ↦ inl (past_part (λ h. omega arith) le (omega arith) x) | inr x ↦ inr (omega arith) ]) (r turns)
      (met (ap (λ (d : ℕ). Ok (record { what = a ∷ xs; deep = d; rest = rest })) (sym same)))))

  -- after an opening bracket
  module _ (brackets opened : ℕ) (room : opened + brackets ≡ 100) (o : Token) (ts : List Token)
      (opens : open_after opened o.kind ≡ opened + 1) where
    no_room : (rest : List Token) (xs : List A) (deep : ℕ) → brackets ≡ 0
        → Meets (IsPast 100 opened (o ∷ ts) deep) (opened_at source brackets c ts >>= any_items source c item ts) rest xs deep
    unfolding opened_at
    no_room rest xs deep q =
        let p = past_token opened (opened + 1) o ts opens in
        let least = nests_ge (opened + 1) ts in
        gave_up (ap (λ (b : ℕ). opened_at source b c ts >>= any_items source c item ts) q) (past_brackets (omega arith))

    pub empty_by : (b : ℕ) (rest : List Token) → opened + b ≡ 100 → sizes [] ≡ 0 → Ends c ts rest
        → Meets (IsPast 100 opened (o ∷ ts) (sizes [])) (opened_at source b c ts >>= any_items source c item ts) rest [] (sizes [])
    unfolding opened_at
    empty_by zero rest e same z =
        let p = past_token opened (opened + 1) o ts opens in
        let least = nests_ge (opened + 1) ts in
        gave_up refl (past_brackets (omega arith))
    empty_by (suc b) rest e same z =
        let k = end_kept z in
        met (ap (λ (x : Option (ℕ × List Token)). if_at x (if_at (spare_comma_at c ts) (Ok None) (λ x. unexpected source x.1))
        (λ x. Ok (Some x)) >>= any_items source c item ts) k.1
        ∙ ap (λ (d : ℕ). Ok (record { what = []; deep = d; rest = rest })) (sym same))

    pub some_by : (b : ℕ) (rest : List Token) (xs : List A) → opened + b ≡ 100 → Begins ts
        → ((k : ℕ) → suc k ≡ b → Meets (RowPast 16384 (opened + 1) ts (sizes xs)) (items_from source c item 16384 ts) rest xs
        (sizes xs))
        → Meets (IsPast 100 opened (o ∷ ts) (sizes xs)) (opened_at source b c ts >>= any_items source c item ts) rest xs (sizes xs)
    unfolding opened_at
    some_by zero rest xs e h m =
        let p = past_token opened (opened + 1) o ts opens in
        let least = nests_ge (opened + 1) ts in
        gave_up refl (past_brackets (omega arith))
    some_by (suc b) rest xs e h m =
        meets_at (ap (λ (x : Option (ℕ × List Token)). if_at x (if_at (spare_comma_at c ts) (Ok None) (λ x. unexpected source x.1))
        (λ x. Ok (Some x)) >>= any_items source c item ts) (begins_end c ts h)
        ∙ ap (λ (x : Option (ℕ × List Token)). if_at x (Ok None) (λ x. unexpected source x.1) >>= any_items source c item ts)
        (begins_spare (takes_comma c) ts h))
        (meets_past (λ p. elim p [
          | inl x ↦ past_part (λ h. h) (past_token opened (opened + 1) o ts opens) (omega arith) x
          | inr x ↦ past_length (omega arith)
        ]) (m b refl))
