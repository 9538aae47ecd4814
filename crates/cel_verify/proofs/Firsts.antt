-- The first target of each instruction, found from the last target on.
use Rattle.std.proofs.Common.{◌≡◌, ℕ, ◌+◌, ◌<◌, Bool, true, false, List, ◌∷◌, drop, length}
use Rattle.std.proofs.Common.{reverse, replicate, Some, refl, sym, ap, ◌∙◌, arith, length-set, get_or-set_same, get_or-set_other}
use Rattle.std.specs.Prelude.{nat_eq, slice_get, slice_index, slice_set, if◌then◌else◌}
use Rattle.std.proofs.lemmas.Bool.{eqb-true, eqb-false}
use Rattle.std.proofs.lemmas.List.{length-replicate, get_or-replicate, drop_all, drop_more}
use Rattle.std.proofs.lemmas.Option.{slice_get_past, slice_get_within, get_or_from_slice_get}
use Rattle.cel_code.specs.declared.image.Target.{Target}
use Rattle.cel_verify.specs.Sound.{entry_in}
use Rattle.cel_verify.specs.Arrivals.{types_of, AreFirsts}

-- before any target was looked at
pub none_yet : (targets : List Target) (count : ℕ)
    → AreFirsts targets (drop (length targets) targets) count (replicate count (length targets))
none_yet targets count =
    record {
      long = length-replicate count (length targets);
      each = λ at lt.
          let none = slice_get_past targets (length targets) (omega arith) in
          ap (λ ts. entry_in ts at) (drop_all (length targets) targets (omega arith))
          ∙ ap types_of (sym (ap (slice_get targets) (get_or-replicate count at (length targets) 0 lt) ∙ none));
    }

-- one target before those that were looked at
module _ (targets : List Target) (count number : ℕ) (firsts : List ℕ) (t : Target) (is : slice_get targets number ≡ Some t)
    (later : AreFirsts targets (drop (number + 1) targets) count firsts) where
  one_is : (b : Bool) (at : ℕ) → at < count → nat_eq t.at at ≡ b
      → (if b then Some (reverse t.types) else entry_in (drop (number + 1) targets) at)
      ≡ types_of (slice_get targets (slice_index (slice_set firsts t.at number) at))
  one_is true at lt e =
      let here : t.at ≡ at = eqb-true t.at at e in
      let inside : t.at < length firsts = omega (arith, later.long) in
      ap types_of (sym is)
      ∙ ap (λ n. types_of (slice_get targets n))
      (sym (get_or-set_same firsts t.at number 0 inside) ∙ ap (slice_index (slice_set firsts t.at number)) here)
  one_is false at lt e =
      later.each at lt
      ∙ ap (λ n. types_of (slice_get targets n))
      (sym (get_or-set_other firsts t.at at number 0 (λ same. eqb-false t.at at e (sym same))))

  pub one_earlier : AreFirsts targets (drop number targets) count (slice_set firsts t.at number)
  one_earlier =
      record {
        long = length-set firsts t.at number ∙ later.long;
        each = λ at lt.
            let first = get_or_from_slice_get targets number t t is in
            let more = drop_more targets number t (slice_get_within targets number t is) in
            ap (λ ts. entry_in ts at) (more ∙ ap (λ e. e ∷ drop (number + 1) targets) first)
            ∙ one_is (nat_eq t.at at) at lt refl;
      }
