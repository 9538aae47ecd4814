-- How many items and entries are read, and that a limit is kept.
use Rattle.std.proofs.Common.{◌≡◌, ℕ, suc, ◌+◌, cond, Bool, true, false, nat_le, nat_lt, ◌&&◌, List}
use Rattle.std.proofs.Common.{[], ◌∷◌, length, Result, Ok, Err, refl, ap, sym, ◌∙◌, subst, arith}
use Rattle.std.specs.Prelude.{IfOk, IsTrue}
use Rattle.std.specs.List.{list_all}
use Rattle.std.proofs.lemmas.Bool.{and_from}
use Rattle.std.proofs.lemmas.Bool.Decides.{nat_tests}
use Rattle.base_containers.specs.Failures.{Answers}
use Rattle.base_containers.specs.declared.failed.Failed.{Failed}
use Rattle.base_containers.specs.declared.text.Keyed.{Keyed}
use Rattle.serde_json.specs.Data.{Items, no_items, item, Members, no_members, member}
use Rattle.serde_json.specs.Events.{items_len, members_len}
use Rattle.cel_value.specs.declared.value.Value.{Value}
use Rattle.cel_value.specs.declared.cel_type.CelType.{CelType}
use Rattle.vap_schema.specs.Entries.{entry_fits}
use Rattle.cel_value.specs.Fits.{fits}
use Rattle.vap_schema.specs.Paths.{at_item}
use Rattle.vap_schema.specs.Seen.{Reading, within, seen_list, seen_items, seen_map, seen_entry, seen_entries}
use Rattle.vap_schema.specs.declared.fit_fault.FitFault.{FitFault}
use Rattle.vap_schema.proofs.Parts.{both, same_ok, stops, goes_on}

limit_kept : (over : Bool) (e : FitFault) (u : Unit {0}) → (cond over (Err e) (Ok tt)) ≡ Ok u → over ≡ false
limit_kept true e u h = absurd (cc)
limit_kept false e u h = refl

pub within_kept : (max n : ℕ) (path : List ℕ) (u : Unit {0}) → within max n path ≡ Ok u → nat_le n max ≡ true
within_kept max n path u h = let test : nat_lt max n ≡ false = limit_kept (nat_lt max n) _ u h in grind (arith, nat_tests)

items_length : (here : Reading) (path : List ℕ) (place : ℕ) (ds : Items) (vs : List Value) → seen_items here path place ds ≡ Ok vs
    → length vs ≡ items_len ds
items_length here path place no_items vs h = ap length (sym (same_ok (Ok []) [] vs refl h))
items_length here path place (item d ds) vs h =
    let p = both (here (at_item path place) d) (seen_items here path (place + 1) ds) (λ v more. v ∷ more) vs h in
    ap length p.4 ∙ ap suc (items_length here path (place + 1) ds p.1 p.3)

entries_length : (here : Reading) (key_max : ℕ) (path : List ℕ) (ms : Members) (es : List (Keyed Value))
    → seen_entries here key_max path ms ≡ Ok es → length es ≡ members_len ms
entries_length here key_max path no_members es h = ap length (sym (same_ok (Ok []) [] es refl h))
entries_length here key_max path (member k d ms) es h =
    let p = both (seen_entry here key_max path k d) (seen_entries here key_max path ms) (λ e more. e ∷ more) es h in
    ap length p.4 ∙ ap suc (entries_length here key_max path ms p.1 p.3)

-- ---- a list

pub list_over : (here : Reading) (max n : ℕ) (path : List ℕ) (ds : Items) (e : Failed FitFault) → items_len ds ≡ n
    → Answers (within max n path) (Err e) → Answers (seen_list here max path ds) (Err e)
list_over here max n path ds e count a =
    stops (within max (items_len ds) path) (λ _. seen_items here path 0 ds) (seen_list here max path ds) e refl
    (subst (λ k. Answers (within max k path) (Err e)) (sym count) a)

pub list_read : (here : Reading) (max n : ℕ) (path : List ℕ) (ds : Items) (u : Unit {0}) (answer : Result (List Value) (Failed FitFault))
    → items_len ds ≡ n → within max n path ≡ Ok u
    → Answers (seen_items here path 0 ds) answer → Answers (seen_list here max path ds) answer
list_read here max n path ds u answer count limit a =
    goes_on (within max (items_len ds) path) u (seen_items here path 0 ds) answer (rw count limit) a

pub list_fits : (here : Reading) (max n : ℕ) (path : List ℕ) (ds : Items) (u : Unit {0}) (t : CelType)
    (answer : Result (List Value) (Failed FitFault)) → items_len ds ≡ n → within max n path ≡ Ok u
    → Answers (seen_items here path 0 ds) answer
    → IfOk answer (λ vs. IsTrue (list_all (λ v. fits v t) vs))
    → IfOk answer (λ vs. IsTrue (nat_le (length vs) max && list_all (λ v. fits v t) vs))
list_fits here max n path ds u t (Ok vs) count limit a h =
    and_from _ _ (ap (λ k. nat_le k max) (items_length here path 0 ds vs a ∙ count) ∙ within_kept max n path u limit) h
list_fits here max n path ds u t (Err e) count limit a h = tt

-- ---- a map

pub map_over : (here : Reading) (max key_max n : ℕ) (path : List ℕ) (ms : Members) (e : Failed FitFault) → members_len ms ≡ n
    → Answers (within max n path) (Err e) → Answers (seen_map here max key_max path ms) (Err e)
map_over here max key_max n path ms e count a =
    stops (within max (members_len ms) path) (λ _. seen_entries here key_max path ms) (seen_map here max key_max path ms) e refl
    (subst (λ k. Answers (within max k path) (Err e)) (sym count) a)

pub map_read : (here : Reading) (max key_max n : ℕ) (path : List ℕ) (ms : Members) (u : Unit {0})
    (answer : Result (List (Keyed Value)) (Failed FitFault)) → members_len ms ≡ n → within max n path ≡ Ok u
    → Answers (seen_entries here key_max path ms) answer → Answers (seen_map here max key_max path ms) answer
map_read here max key_max n path ms u answer count limit a =
    goes_on (within max (members_len ms) path) u (seen_entries here key_max path ms) answer (rw count limit) a

pub map_fits : (here : Reading) (max key_max n : ℕ) (path : List ℕ) (ms : Members) (u : Unit {0}) (t : CelType)
    (answer : Result (List (Keyed Value)) (Failed FitFault)) → members_len ms ≡ n → within max n path ≡ Ok u
    → Answers (seen_entries here key_max path ms) answer
    → IfOk answer (λ es. IsTrue (list_all (entry_fits key_max t) es))
    → IfOk answer (λ es. IsTrue (nat_le (length es) max && list_all (entry_fits key_max t) es))
map_fits here max key_max n path ms u t (Ok es) count limit a h =
    and_from _ _ (ap (λ k. nat_le k max) (entries_length here key_max path ms es a ∙ count) ∙ within_kept max n path u limit) h
map_fits here max key_max n path ms u t (Err e) count limit a h = tt
