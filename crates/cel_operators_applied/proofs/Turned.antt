-- Entries that are in order from the last to the first.
use Rattle.std.proofs.Common.{◌≡◌, ℕ, ◌+◌, ◌-◌, ◌++◌, List, [], ◌∷◌, reverse, Option, Some, Result, Ok, ◌^◌, min, refl, sym, ap, ◌∙◌, arith}
use Rattle.std.proofs.lemmas.List.{reverse-append}
use Rattle.base_containers.specs.declared.text.Keyed.{Keyed}
use Rattle.cel_value.specs.declared.value.Value.{Value}
use Rattle.cel_value.specs.declared.cel_error.CelError.{CelError}
use Rattle.cel_operators.specs.declared.operator.Made.{Made}
use Rattle.cel_operators.specs.Outcomes.{Outcome}
use Rattle.cel_operators.specs.Operators.{makes}
use Rattle.cel_operators.specs.Maps.{entries_charge, map_of, map_or_duplicate, placed_among}
use Rattle.cel_operators_applied.specs.Counted.{counted}
use Rattle.cel_operators_applied.specs.Pairs.{turned}

-- entries charge as much from the last to the first
charge_append : (es fs : List (Keyed Value)) → entries_charge (es ++ fs) + 1 ≡ entries_charge es + entries_charge fs
charge_append [] fs = omega arith
charge_append (e ∷ es) fs = omega (arith, charge_append es fs)

pub charge_reverse : (es : List (Keyed Value)) → entries_charge (reverse es) ≡ entries_charge es
charge_reverse [] = refl
charge_reverse (e ∷ es) =
    let behind : reverse (e ∷ es) ≡ reverse es ++ e ∷ [] = reverse-append (e ∷ []) es in
    omega (arith, ap entries_charge behind, charge_append (reverse es) (e ∷ []), charge_reverse es)

-- a map of entries from the last to the first, with its charge
pub map_whole : (r : Result (List (Keyed Value)) CelError) (es seen : List (Keyed Value)) (x : Outcome) (n : ℕ) (m : Option Made)
    → r ≡ Ok es → seen ≡ es
    → x ≡ map_or_duplicate (placed_among [] (reverse es)) → n ≡ min (entries_charge seen) (2 ^ 64 - 1) → m ≡ makes (Some x) n
    → m ≡ counted (Some (map_of (turned r)))
map_whole r es seen x n m hr hs hx hn hm =
    hm ∙ ap (λ y. makes (Some y) n) hx
    ∙ ap (makes (Some (map_or_duplicate (placed_among [] (reverse es)))))
    (hn ∙ ap (λ l. min (entries_charge l) (2 ^ 64 - 1)) hs ∙ ap (λ k. min k (2 ^ 64 - 1)) (sym (charge_reverse es)))
    ∙ ap (λ q. counted (Some (map_of (turned q)))) (sym hr)
