-- Reading items one after the other, as a loop does.
use Rattle.std.proofs.Common.{◌≡◌, ℕ, suc, ◌-◌, ◌+◌, ◌≤◌, ◌<◌, Bool, ◌&&◌, List, [], ◌∷◌, ◌++◌, length, take}
use Rattle.std.proofs.Common.{drop, get_or, Option, Some, None, Result, Ok, Err, refl, sym, ap, ◌∙◌, append_assoc, arith}
use Rattle.std.proofs.Common.{slice_get, drop-cons}
use Rattle.std.proofs.lemmas.List.{append-nil, take_more}
use Rattle.cel_code.specs.declared.fault.ReadFault.{ReadFault}
use Rattle.base_containers.specs.declared.failed.Failed.{Failed}
use Rattle.base_containers.specs.declared.failed.Failed.TheVariants.{OutOfMemory, Fault}
use Rattle.base_containers.specs.Failures.{Fails}
use Rattle.cel_code.specs.Spelling.{each_after}
use Rattle.cel_code.specs.Reading.{◌>>=◌, Reader, last_of, items_at}

pub last_at : {A : Type 0} (xs : List A) → last_of xs ≡ slice_get xs (length xs - 1)
last_at [] = refl
last_at (x ∷ []) = refl
last_at (x ∷ y ∷ xs) =
    let e : suc (length xs) ≡ suc (suc (length xs)) - 1 = omega arith in
    let f : length xs ≡ suc (length xs) - 1 = omega arith in
    last_at (y ∷ xs) ∙ ap (slice_get (y ∷ xs)) (sym f) ∙ ap (slice_get (x ∷ y ∷ xs)) e

pub last_push : {A : Type 0} (xs : List A) (x : A) → last_of (xs ++ x ∷ []) ≡ Some x
last_push [] x = refl
last_push (y ∷ []) x = refl
last_push (y ∷ z ∷ xs) x = last_push (z ∷ xs) x

-- what was read before, and what is still read
abbrev pub with_front : {A : Type 0} → List A → Result (List A × List ℕ) ReadFault → Result (List A × List ℕ) ReadFault
with_front front read = read >>= λ x. Ok (front ++ x.0, x.1)

-- the list is read as its items, once its count is
pub counted : {A : Type 0} (read : Option A → Reader A) (r : Result (ℕ × List ℕ) ReadFault) (n : ℕ) (rest : List ℕ) → r ≡ Ok (n, rest)
    → (r >>= λ n. items_at read None n.0 n.1) ≡ items_at read None n rest
counted read r n rest e = ap (λ (s : Result (ℕ × List ℕ) ReadFault). s >>= λ n. items_at read None n.0 n.1) e

-- so many items after those that were read
abbrev pub still : {A : Type 0} → (Option A → Reader A) → List A → ℕ → List ℕ → Result (List A × List ℕ) ReadFault
still read front n bytes = with_front front (items_at read (last_of front) n bytes)

regroup : {A : Type 0} (front : List A) (n : A) (read : Result (List A × List ℕ) ReadFault)
    → with_front front (read >>= λ x. Ok (n ∷ x.0, x.1)) ≡ with_front (front ++ n ∷ []) read
regroup {A} front n (Ok x) = ap (λ (ns : List A). Ok (ns, x.1)) (simp append_assoc)
regroup front n (Err f) = refl

whole : {A : Type 0} (r : Result (List A × List ℕ) ReadFault) → with_front [] r ≡ r
whole (Ok x) = refl
whole (Err e) = refl

pub begins : {A : Type 0} (read : Option A → Reader A) (n : ℕ) (bytes : List ℕ) → still read [] (n - 0) bytes ≡ items_at read None n bytes
begins {A} read n bytes =
    let e : n - 0 ≡ n = omega arith in
    ap (λ (m : ℕ). still read [] m bytes) e ∙ whole (items_at read None n bytes)

pub goes_on : {A : Type 0} (read : Option A → Reader A) (front : List A) (count i : ℕ) (bytes : List ℕ) (x : A) (after : List ℕ)
    (total : Result (List A × List ℕ) ReadFault) → i < count
    → read (last_of front) bytes ≡ Ok (x, after) → still read front (count - i) bytes ≡ total
    → still read (front ++ x ∷ []) (count - (i + 1)) after ≡ total
unfolding items_at
goes_on {A} read front count i bytes x after total lt h so_far =
    let k : count - i ≡ suc (count - (i + 1)) = omega arith in
    let one : still read front (count - i) bytes ≡ with_front (front ++ x ∷ []) (items_at read (Some x) (count - (i + 1)) after) =
    rw (k, h) (regroup front x (items_at read (Some x) (count - (i + 1)) after)) in
    ap (λ (o : Option A). with_front (front ++ x ∷ []) (items_at read o (count - (i + 1)) after)) (last_push front x) ∙ sym one ∙ so_far

pub ends : {A : Type 0} (read : Option A → Reader A) (e : Failed ReadFault) (front : List A) (count i : ℕ) (bytes : List ℕ)
    (total : Result (List A × List ℕ) ReadFault) → i < count
    → Fails e (read (last_of front) bytes) → still read front (count - i) bytes ≡ total → Fails e total
unfolding items_at
ends read OutOfMemory front count i bytes total lt h so_far = tt
ends read (Fault f) front count i bytes total lt h so_far =
    let k : count - i ≡ suc (count - (i + 1)) = omega arith in
    let one : still read front (count - i) bytes ≡ Err f = rw (k, h) refl in
    sym so_far ∙ one

pub is_done : {A : Type 0} (read : Option A → Reader A) (front : List A) (count i : ℕ) (bytes : List ℕ)
    (total : Result (List A × List ℕ) ReadFault) → count ≤ i
    → still read front (count - i) bytes ≡ total → total ≡ Ok (front, bytes)
unfolding items_at
is_done {A} read front count i bytes total le so_far =
    let k : count - i ≡ 0 = omega arith in
    let one : still read front (count - i) bytes ≡ Ok (front, bytes) = rw k (ap (λ (ns : List A). Ok (ns, bytes)) (append-nil front)) in
    sym so_far ∙ one

-- an item after those that passed
pub each_step : {A : Type 0} (fits : Option A → A → Bool) (xs : List A) (i : ℕ) (d : A) → i < length xs
    → each_after fits (last_of (take i xs)) (drop i xs) ≡ (fits (last_of (take i xs)) (get_or xs i d)
    && each_after fits (last_of (take (i + 1) xs)) (drop (i + 1) xs))
each_step {A} fits xs i d lt =
    let one : take (i + 1) xs ≡ take i xs ++ get_or xs i d ∷ [] = take_more xs i d lt in
    let next : suc i ≡ i + 1 = omega arith in
    let two : drop i xs ≡ get_or xs i d ∷ drop (i + 1) xs = drop-cons xs i d lt ∙ ap (λ (n : ℕ). get_or xs i d ∷ drop n xs) next in
    let three : last_of (take (i + 1) xs) ≡ Some (get_or xs i d) = ap last_of one ∙ last_push (take i xs) (get_or xs i d) in
    ap (each_after fits (last_of (take i xs))) two
    ∙ ap (λ (o : Option A). fits (last_of (take i xs)) (get_or xs i d) && each_after fits o (drop (i + 1) xs)) (sym three)
