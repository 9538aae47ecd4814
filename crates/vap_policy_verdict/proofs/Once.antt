-- Values that are gathered one after the other, each once.
use Rattle.std.proofs.Common.{◌≡◌, ◌<◌, ◌+◌, ℕ, suc, Bool, true, false, not, cond, ◌||◌, List, [], ◌∷◌, ◌++◌, length, drop, get_or, filter}
use Rattle.std.proofs.Common.{map, refl, sym, ap, ◌∙◌, subst, append_assoc, add-one, drop-cons, bytes_eq}
use Rattle.std.specs.List.{list_any}
use Rattle.std.specs.Prelude.{if◌then◌else◌}
use Rattle.std.proofs.lemmas.List.Folds.{list_any-append}
use Rattle.base_containers.specs.declared.text.Keyed.{Keyed}
use Rattle.vap_read_objects.proofs.Names.{same_text}
use Rattle.vap_policy_verdict.specs.DecisionAnnotations.{each_once, values_at}

-- texts with one more, if it is not among them
abbrev with_text : List (List ℕ) → List ℕ → List (List ℕ)
with_text ts t = if list_any (bytes_eq t) ts then ts else ts ++ t ∷ []

-- the values so far, and that of an entry under this key
abbrev pub noted : List ℕ → List (List ℕ) → Keyed (List ℕ) → List (List ℕ)
noted key ts n = if bytes_eq n.key key then with_text ts n.value else ts

-- those texts that are not among others
abbrev pub without : List (List ℕ) → List (List ℕ) → List (List ℕ)
without ts us = filter (λ u. not (list_any (bytes_eq u) ts)) us

abbrev others : List ℕ → List (List ℕ) → List (List ℕ)
others t us = filter (λ u. not (bytes_eq u t)) us

-- those that are neither among texts nor one more
without_more : (ts : List (List ℕ)) (t : List ℕ) (us : List (List ℕ)) → without (ts ++ t ∷ []) us ≡ without ts (others t us)
without_more ts t [] = refl
without_more ts t (u ∷ us) =
    ap (λ b. cond (not b) (u ∷ without (ts ++ t ∷ []) us) (without (ts ++ t ∷ []) us)) (list_any-append (bytes_eq u) ts (t ∷ []))
    ∙ at (bytes_eq u t) (list_any (bytes_eq u) ts) (without_more ts t us) refl
  where
    at : (e d : Bool) → without (ts ++ t ∷ []) us ≡ without ts (others t us) → list_any (bytes_eq u) ts ≡ d
        → cond (not (d || (e || false))) (u ∷ without (ts ++ t ∷ []) us) (without (ts ++ t ∷ []) us)
        ≡ without ts (cond (not e) (u ∷ others t us) (others t us))
    at true true rest same = rest
    at true false rest same = rest
    at false true rest same = rest ∙ sym (ap (λ b. cond (not b) (u ∷ without ts (others t us)) (without ts (others t us))) same)
    at false false rest same =
        ap (λ xs. u ∷ xs) rest ∙ sym (ap (λ b. cond (not b) (u ∷ without ts (others t us)) (without ts (others t us))) same)

-- those that are not among texts are others than each text
without_one : (ts : List (List ℕ)) (t : List ℕ) (us : List (List ℕ)) → list_any (bytes_eq t) ts ≡ true
    → without ts (others t us) ≡ without ts us
without_one ts t [] there = refl
without_one ts t (u ∷ us) there = at (bytes_eq u t) refl (without_one ts t us there)
  where
    at : (e : Bool) → bytes_eq u t ≡ e → without ts (others t us) ≡ without ts us
        → without ts (cond (not e) (u ∷ others t us) (others t us))
        ≡ cond (not (list_any (bytes_eq u) ts)) (u ∷ without ts us) (without ts us)
    at true same rest =
        let among : list_any (bytes_eq u) ts ≡ true =
        subst (λ x. list_any (bytes_eq x) ts ≡ true) (sym (same_text u t same)) there in
        rest ∙ sym (ap (λ b. cond (not b) (u ∷ without ts us) (without ts us)) among)
    at false same rest = ap (λ xs. cond (not (list_any (bytes_eq u) ts)) (u ∷ xs) xs) rest

-- the values so far, with one more, and those of the rest
next_value : (ts : List (List ℕ)) (t : List ℕ) (us : List (List ℕ))
    → with_text ts t ++ without (with_text ts t) us ≡ ts ++ without ts (t ∷ others t us)
next_value ts t us = at (list_any (bytes_eq t) ts) refl
  where
    at : (b : Bool) → list_any (bytes_eq t) ts ≡ b
        → cond b ts (ts ++ t ∷ []) ++ without (cond b ts (ts ++ t ∷ [])) us
        ≡ ts ++ cond (not (list_any (bytes_eq t) ts)) (t ∷ without ts (others t us)) (without ts (others t us))
    at true there =
        ap (λ xs. ts ++ xs) (sym (without_one ts t us there))
        ∙ sym (ap (λ b. ts ++ cond (not b) (t ∷ without ts (others t us)) (without ts (others t us))) there)
    at false new =
        append_assoc ts (t ∷ []) (without (ts ++ t ∷ []) us)
        ∙ ap (λ xs. ts ++ t ∷ xs) (without_more ts t us)
        ∙ sym (ap (λ b. ts ++ cond (not b) (t ∷ without ts (others t us)) (without ts (others t us))) new)

-- the same of an entry, which counts under its own key
noted_next : (key : List ℕ) (ts : List (List ℕ)) (n : Keyed (List ℕ)) (ns : List (Keyed (List ℕ)))
    → noted key ts n ++ without (noted key ts n) (values_at key ns) ≡ ts ++ without ts (values_at key (n ∷ ns))
noted_next key ts n ns = at (bytes_eq n.key key)
  where
    rest : List (Keyed (List ℕ))
    rest = filter (λ e. bytes_eq e.key key) ns

    at : (b : Bool) → cond b (with_text ts n.value) ts ++ without (cond b (with_text ts n.value) ts) (values_at key ns)
        ≡ ts ++ without ts (each_once (map (λ (e : Keyed (List ℕ)). e.value) (cond b (n ∷ rest) rest)))
    at true = next_value ts n.value (values_at key ns)
    at false = refl

-- the same at a place in the list
pub noted_at : (key : List ℕ) (ts new : List (List ℕ)) (ns : List (Keyed (List ℕ))) (i : ℕ) (n : Keyed (List ℕ)) → i < length ns
    → n ≡ get_or ns i n → new ≡ noted key ts n → ts ++ without ts (values_at key (drop i ns)) ≡ values_at key ns
    → new ++ without new (values_at key (drop (i + 1) ns)) ≡ values_at key ns
noted_at key ts new ns i n lt is same before =
    let cut : drop i ns ≡ n ∷ drop (i + 1) ns =
    drop-cons ns i n lt ∙ ap (λ (y : Keyed (List ℕ)). y ∷ drop (suc i) ns) (sym is) ∙ ap (λ (k : ℕ). n ∷ drop k ns) (sym (add-one i)) in
    ap (λ xs. xs ++ without xs (values_at key (drop (i + 1) ns))) same
    ∙ noted_next key ts n (drop (i + 1) ns)
    ∙ ap (λ ms. ts ++ without ts (values_at key ms)) (sym cut)
    ∙ before

-- before the first all are left
pub nothing_noted : (us : List (List ℕ)) → without [] us ≡ us
nothing_noted [] = refl
nothing_noted (u ∷ us) = ap (λ xs. u ∷ xs) (nothing_noted us)

-- a value that is not among those so far is one more
pub one_noted : (key : List ℕ) (ts : List (List ℕ)) (n : Keyed (List ℕ)) → bytes_eq n.key key ≡ true
    → list_any (bytes_eq n.value) ts ≡ false → ts ++ n.value ∷ [] ≡ noted key ts n
one_noted key ts n own new =
    sym (ap (λ b. cond b ts (ts ++ n.value ∷ [])) new) ∙ sym (ap (λ b. cond b (with_text ts n.value) ts) own)

-- one that is among them changes nothing
pub same_noted : (key : List ℕ) (ts : List (List ℕ)) (n : Keyed (List ℕ)) → list_any (bytes_eq n.value) ts ≡ true → ts ≡ noted key ts n
same_noted key ts n there = at (bytes_eq n.key key)
  where
    at : (b : Bool) → ts ≡ cond b (with_text ts n.value) ts
    at true = sym (ap (λ b. cond b ts (ts ++ n.value ∷ [])) there)
    at false = refl

-- nor does one under another key
pub other_noted : (key : List ℕ) (ts : List (List ℕ)) (n : Keyed (List ℕ)) → bytes_eq n.key key ≡ false → ts ≡ noted key ts n
other_noted key ts n other = sym (ap (λ b. cond b (with_text ts n.value) ts) other)
