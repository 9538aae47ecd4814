-- Kinds of params, each once.
use Rattle.std.proofs.Common.{◌≡◌, ◌<◌, ◌≤◌, ◌+◌, ℕ, zero, suc, Bool, true, false, not, cond, ◌||◌, List, [], ◌∷◌, ◌++◌, length, drop}
use Rattle.std.proofs.Common.{get_or, filter, refl, sym, ap, ◌∙◌, subst, append_assoc, append-nil, add-one, drop-cons, arith, bytes_eq}
use Rattle.std.specs.List.{flat_map, list_any}
use Rattle.std.proofs.lemmas.Bool.{and_parts}
use Rattle.std.proofs.lemmas.List.Folds.{list_any-append}
use Rattle.base_containers.specs.declared.text.Keyed.{Keyed}
use Rattle.vap_read.specs.declared.policy.ParamKind.{ParamKind}
use Rattle.vap_read.specs.declared.policy.Policy.{Policy}
use Rattle.vap_read_objects.specs.Fitted.{Adds, and_others, each_once, is_same_kind, kind_in, kinds_named}
use Rattle.vap_read_objects.proofs.Names.{itself, same_text}

-- kinds that are written alike are one
pub same_kind : (j k : ParamKind) → is_same_kind j k ≡ true → j ≡ k
same_kind j k h =
    let parts = and_parts (bytes_eq j.api_version k.api_version) (bytes_eq j.kind k.kind) h in
    λ i. record {
      api_version = same_text j.api_version k.api_version parts.0 i;
      kind = same_text j.kind k.kind parts.1 i;
    }

pub own_kind : (k : ParamKind) → is_same_kind k k ≡ true
own_kind k = rw (itself k.api_version) (itself k.kind)

-- those of these kinds that are not among others
abbrev without : List ParamKind → List ParamKind → List ParamKind
without ks us = filter (λ u. not (list_any (is_same_kind u) ks)) us

abbrev others : ParamKind → List ParamKind → List ParamKind
others k us = filter (λ u. not (is_same_kind u k)) us

-- those that are neither among kinds nor one more
without_more : (ks : List ParamKind) (k : ParamKind) (us : List ParamKind) → without (ks ++ k ∷ []) us ≡ without ks (others k us)
without_more ks k [] = refl
without_more ks k (u ∷ us) =
    ap (λ b. cond (not b) (u ∷ without (ks ++ k ∷ []) us) (without (ks ++ k ∷ []) us)) (list_any-append (is_same_kind u) ks (k ∷ []))
    ∙ at (is_same_kind u k) (list_any (is_same_kind u) ks) (without_more ks k us) refl
  where
    at : (e d : Bool) → without (ks ++ k ∷ []) us ≡ without ks (others k us) → list_any (is_same_kind u) ks ≡ d
        → cond (not (d || (e || false))) (u ∷ without (ks ++ k ∷ []) us) (without (ks ++ k ∷ []) us)
        ≡ without ks (cond (not e) (u ∷ others k us) (others k us))
    at true true rest same = rest
    at true false rest same = rest
    at false true rest same = rest ∙ sym (ap (λ b. cond (not b) (u ∷ without ks (others k us)) (without ks (others k us))) same)
    at false false rest same =
        ap (λ xs. u ∷ xs) rest ∙ sym (ap (λ b. cond (not b) (u ∷ without ks (others k us)) (without ks (others k us))) same)

-- those that are not among kinds are others than each of them
without_one : (ks : List ParamKind) (k : ParamKind) (us : List ParamKind) → list_any (is_same_kind k) ks ≡ true
    → without ks (others k us) ≡ without ks us
without_one ks k [] there = refl
without_one ks k (u ∷ us) there = at (is_same_kind u k) refl (without_one ks k us there)
  where
    at : (e : Bool) → is_same_kind u k ≡ e → without ks (others k us) ≡ without ks us
        → without ks (cond (not e) (u ∷ others k us) (others k us))
        ≡ cond (not (list_any (is_same_kind u) ks)) (u ∷ without ks us) (without ks us)
    at true same rest =
        let among : list_any (is_same_kind u) ks ≡ true =
        subst (λ (x : ParamKind). list_any (is_same_kind x) ks ≡ true) (sym (same_kind u k same)) there in
        rest ∙ sym (ap (λ b. cond (not b) (u ∷ without ks us) (without ks us)) among)
    at false same rest = ap (λ xs. cond (not (list_any (is_same_kind u) ks)) (u ∷ xs) xs) rest

-- a kind that is among others adds nothing
pub there_already : (ks : List ParamKind) (k : ParamKind) → list_any (is_same_kind k) ks ≡ true → Adds (k ∷ []) ks ks
there_already ks k there rest =
    ap (λ xs. ks ++ xs) (sym (without_one ks k (each_once rest) there))
    ∙ sym (ap (λ b. ks ++ cond (not b) (k ∷ without ks (others k (each_once rest))) (without ks (others k (each_once rest)))) there)

-- one that is not is one more
pub one_more : (ks : List ParamKind) (k : ParamKind) → list_any (is_same_kind k) ks ≡ false → Adds (k ∷ []) ks (ks ++ k ∷ [])
one_more ks k new rest =
    append_assoc ks (k ∷ []) (without (ks ++ k ∷ []) (each_once rest))
    ∙ ap (λ xs. ks ++ k ∷ xs) (without_more ks k (each_once rest))
    ∙ sym (ap (λ b. ks ++ cond (not b) (k ∷ without ks (others k (each_once rest))) (without ks (others k (each_once rest)))) new)

-- ---- in a loop

-- before the first all are left
pub all_left : (js : List ParamKind) → and_others [] js ≡ each_once js
all_left js = each (each_once js)
  where
    each : (us : List ParamKind) → without [] us ≡ us
    each [] = refl
    each (u ∷ us) = ap (λ xs. u ∷ xs) (each us)

pub next_left : (ps : List (Keyed Policy)) (i : ℕ) (p : Keyed Policy) (old new : List ParamKind) → i < length ps → p ≡ get_or ps i p
    → Adds (kind_in p) old new → and_others old (flat_map kind_in (drop i ps)) ≡ kinds_named ps
    → and_others new (flat_map kind_in (drop (i + 1) ps)) ≡ kinds_named ps
next_left ps i p old new lt is adds before =
    let cut : drop i ps ≡ p ∷ drop (i + 1) ps =
    drop-cons ps i p lt ∙ ap (λ (x : Keyed Policy). x ∷ drop (suc i) ps) (sym is)
    ∙ ap (λ (n : ℕ). p ∷ drop n ps) (sym (add-one i)) in
    adds (flat_map kind_in (drop (i + 1) ps))
    ∙ sym (ap (λ xs. and_others old (flat_map kind_in xs)) cut)
    ∙ before

none_left : (ps : List (Keyed Policy)) (i : ℕ) → length ps ≤ i → drop i ps ≡ []
none_left [] zero h = refl
none_left [] (suc i) h = refl
none_left (p ∷ ps) zero h = absurd (omega (arith, h))
none_left (p ∷ ps) (suc i) h = none_left ps i (omega (arith, h))

-- after the last none are left
pub nothing_left : (ps : List (Keyed Policy)) (i : ℕ) (ks : List ParamKind) → length ps ≤ i
    → and_others ks (flat_map kind_in (drop i ps)) ≡ kinds_named ps → ks ≡ kinds_named ps
nothing_left ps i ks ends so_far =
    sym (append-nil ks) ∙ sym (ap (λ xs. and_others ks (flat_map kind_in xs)) (none_left ps i ends)) ∙ so_far
