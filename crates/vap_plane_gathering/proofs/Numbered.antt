-- What came under a number, one answer further, and what results from it.
use Rattle.std.proofs.Common.{◌≡◌, ◌≢◌, ◌⊎◌, ℕ, ◌+◌, ◌<◌, ◌≤◌, Bool, true, false, List, [], ◌∷◌, ◌++◌, length, map, replicate}
use Rattle.std.proofs.Common.{refl, sym, ap, subst, ◌∙◌, inl, inr, ⊎_elim, zero, suc, arith}
use Rattle.std.proofs.lemmas.List.{length-map, length-append}
use Rattle.std.proofs.lemmas.Option.{slice_get_within}
use Rattle.std.proofs.lemmas.Bool.Decides.{nat_tests}
use Rattle.std.specs.Prelude.{◌==◌, slice_get, slice_set, Option, Some, None, if◌then◌else◌}
use Rattle.std.specs.List.{All}
use Rattle.base_containers.specs.declared.failed.Failed.{Failed}
use Rattle.base_containers.specs.declared.failed.Failed.TheVariants.{OutOfMemory, Fault}
use Rattle.vap_policy_verdict.specs.declared.verdict.Verdict.{Verdict}
use Rattle.vap_plane_gathering.specs.Numbered.{once_more, came, IsFine, HasFault, IsListOf, IsLeastFault, IsWhy, LeastOf, IsBroken, IsGap}
use Rattle.vap_plane_gathering.specs.Numbered.{AreCame, IsLeastStranger, Breaks}
use Rattle.vap_plane_gathering.specs.declared.gathering.Came.{Came}
use Rattle.vap_plane_gathering.specs.declared.gathering.Came.TheVariants.{Never, Once, Again}
use Rattle.vap_plane_gathering.specs.declared.gathering.GatherFault.{GatherFault}
use Rattle.vap_plane_gathering.specs.declared.gathering.GatherFault.TheVariants.{Stranger}

abbrev pub Answers : Type 0
Answers = List (ℕ × Verdict)

-- of two answers, it makes no difference which comes once more first
turned : (v w : Verdict) (c : Came) → once_more v (once_more w c) ≡ once_more w (once_more v c)
turned v w Never = refl
turned v w (Once u) = refl
turned v w Again = refl

abbrev if_more : Bool → Verdict → Came → Came
if_more b v c = if b then once_more v c else c

turned_if : (b d : Bool) (v w : Verdict) (c : Came) → if_more b v (if_more d w c) ≡ if_more d w (if_more b v c)
turned_if true true v w c = turned v w c
turned_if true false v w c = refl
turned_if false true v w c = refl
turned_if false false v w c = refl

-- what came, if one more answer is the last
pub came_more : (n m : ℕ) (v : Verdict) (ys : Answers) → came n (ys ++ (m, v) ∷ []) ≡ if_more (m == n) v (came n ys)
came_more n m v [] = refl
came_more n m v (y ∷ ys) =
    ap (λ (c : Came). if_more (y.0 == n) y.1 c) (came_more n m v ys) ∙ turned_if (y.0 == n) (m == n) y.1 v (came n ys)

is_self : (n m : ℕ) → m ≡ n → (m == n) ≡ true
is_self n m e = grind (arith, nat_tests)

is_other : (n m : ℕ) → m ≢ n → (m == n) ≡ false
is_other n m ne = grind (arith, nat_tests)

pub came_here : (n m : ℕ) (v : Verdict) (ys : Answers) → m ≡ n → came n (ys ++ (m, v) ∷ []) ≡ once_more v (came n ys)
came_here n m v ys e = came_more n m v ys ∙ ap (λ (b : Bool). if_more b v (came n ys)) (is_self n m e)

pub came_there : (n m : ℕ) (v : Verdict) (ys : Answers) → m ≢ n → came n (ys ++ (m, v) ∷ []) ≡ came n ys
came_there n m v ys ne = came_more n m v ys ∙ ap (λ (b : Bool). if_more b v (came n ys)) (is_other n m ne)

module _ {X : Type 0} where
  pub set_length : (xs : List X) (n : ℕ) (x : X) → length (slice_set xs n x) ≡ length xs
  set_length [] n x = refl
  set_length (y ∷ xs) zero x = refl
  set_length (y ∷ xs) (suc n) x = ap suc (set_length xs n x)

  pub set_again : (xs : List X) (n : ℕ) (x y : X) → slice_set (slice_set xs n x) n y ≡ slice_set xs n y
  set_again [] n x y = refl
  set_again (z ∷ xs) zero x y = refl
  set_again (z ∷ xs) (suc n) x y = ap (λ (l : List X). z ∷ l) (set_again xs n x y)

  pub get_set_here : (xs : List X) (n : ℕ) (x : X) → n < length xs → slice_get (slice_set xs n x) n ≡ Some x
  get_set_here [] n x lt = absurd (omega arith)
  get_set_here (y ∷ xs) zero x lt = refl
  get_set_here (y ∷ xs) (suc n) x lt = get_set_here xs n x (omega arith)

  pub get_set_there : (xs : List X) (n k : ℕ) (x : X) → n ≢ k → slice_get (slice_set xs n x) k ≡ slice_get xs k
  get_set_there [] n k x ne = refl
  get_set_there (y ∷ xs) zero zero x ne = absurd (ne refl)
  get_set_there (y ∷ xs) zero (suc k) x ne = refl
  get_set_there (y ∷ xs) (suc n) zero x ne = refl
  get_set_there (y ∷ xs) (suc n) (suc k) x ne = get_set_there xs n k x (λ e. ne (ap suc e))

  pub get_replicated : (count n : ℕ) (x : X) → n < count → slice_get (replicate count x) n ≡ Some x
  get_replicated zero n x lt = absurd (omega arith)
  get_replicated (suc count) zero x lt = refl
  get_replicated (suc count) (suc n) x lt = get_replicated count n x (omega arith)

  pub length_replicated : (count : ℕ) (x : X) → length (replicate count x) ≡ count
  length_replicated zero x = refl
  length_replicated (suc count) x = ap suc (length_replicated count x)

-- before any answer
pub none_came : (count : ℕ) → AreCame count [] (replicate count Never)
none_came count = record { whole = length_replicated count Never; each = λ n lt. get_replicated count n Never lt }

pub no_stranger : (count : ℕ) → IsLeastStranger count [] None
no_stranger count n le = refl

either_way : (n m : ℕ) → (m ≡ n) ⊎ (m ≢ n)
either_way zero zero = inl refl
either_way zero (suc m) = inr (λ e. absurd (omega arith))
either_way (suc n) zero = inr (λ e. absurd (omega arith))
either_way (suc n) (suc m) = ⊎_elim (λ (e : m ≡ n). inl (ap suc e)) (λ (ne : m ≢ n). inr (λ e. ne (omega arith))) (either_way n m)

-- an answer is put into its place
pub one_placed : (count : ℕ) (ys : Answers) (slots : List Came) (n : ℕ) (v : Verdict) → n < count → AreCame count ys slots
    → AreCame count (ys ++ (n, v) ∷ []) (slice_set slots n (once_more v (came n ys)))
one_placed count ys slots n v lt are = record {
  whole = set_length slots n (once_more v (came n ys)) ∙ are.whole;
  each = λ k within. ⊎_elim
      (λ (e : n ≡ k). subst (λ (j : ℕ). slice_get (slice_set slots n (once_more v (came n ys))) j ≡ Some (came j (ys ++ (n, v) ∷ []))) e
      (get_set_here slots n (once_more v (came n ys)) (let w = are.whole in omega arith) ∙ ap Some (sym (came_here n n v ys refl))))
      (λ (ne : n ≢ k). get_set_there slots n k (once_more v (came n ys)) ne ∙ (are.each k within ∙ ap Some (sym (came_there k n v ys ne))))
      (either_way k n);
}

pub stranger_kept : (count : ℕ) (ys : Answers) (s : Option ℕ) (n : ℕ) (v : Verdict) → n < count → IsLeastStranger count ys s
    → IsLeastStranger count (ys ++ (n, v) ∷ []) s
stranger_kept count ys None n v lt none = λ k le. came_there k n v ys (λ e. absurd (omega arith)) ∙ none k le
stranger_kept count ys (Some s) n v lt is = (
  is.0,
  (λ never. is.1 (sym (came_there s n v ys (λ e. (let le = is.0 in absurd (omega arith)))) ∙ never)),
  (λ k le less. came_there k n v ys (λ e. absurd (omega arith)) ∙ is.2 k le less),
)

-- an answer has no place
pub none_placed : (count : ℕ) (ys : Answers) (slots : List Came) (n : ℕ) (v : Verdict) → count ≤ n → AreCame count ys slots
    → AreCame count (ys ++ (n, v) ∷ []) slots
none_placed count ys slots n v le are = record {
  whole = are.whole;
  each = λ k within. are.each k within ∙ ap Some (sym (came_there k n v ys (λ e. absurd (omega arith))));
}

more_comes : (v : Verdict) (c : Came) → once_more v c ≢ Never
more_comes v Never e = cc
more_comes v (Once w) e = cc
more_comes v Again e = cc

comes_here : (n : ℕ) (v : Verdict) (ys : Answers) → came n (ys ++ (n, v) ∷ []) ≢ Never
comes_here n v ys e = more_comes v (came n ys) (sym (came_here n n v ys refl) ∙ e)

comes_still : (n m : ℕ) (v : Verdict) (ys : Answers) → came n ys ≢ Never → came n (ys ++ (m, v) ∷ []) ≢ Never
comes_still n m v ys some e = ⊎_elim
    (λ (same : m ≡ n). more_comes v (came n ys) (sym (came_here n m v ys same) ∙ e))
    (λ (ne : m ≢ n). some (sym (came_there n m v ys ne) ∙ e))
    (either_way n m)

pub stranger_more : (count : ℕ) (ys : Answers) (s : Option ℕ) (n r : ℕ) (v : Verdict) → count ≤ n → IsLeastStranger count ys s
    → LeastOf s n r
    → IsLeastStranger count (ys ++ (n, v) ∷ []) (Some r)
stranger_more count ys None n r v le none e = (
  omega arith,
  subst (λ (j : ℕ). came j (ys ++ (n, v) ∷ []) ≢ Never) (sym e) (comes_here n v ys),
  (λ k from less. came_there k n v ys (λ same. absurd (omega arith)) ∙ none k from),
)
stranger_more count ys (Some s) n r v le is least = ⊎_elim
    (λ (old : (r ≡ s) × (s ≤ n)).
    subst (λ (j : ℕ). IsLeastStranger count (ys ++ (n, v) ∷ []) (Some j)) (sym old.0) (
      is.0,
      comes_still s n v ys is.1,
      (λ k from less. came_there k n v ys (λ same. (let o = old.1 in absurd (omega arith))) ∙ is.2 k from less),
    ))
    (λ (new : (r ≡ n) × (n < s)).
    subst (λ (j : ℕ). IsLeastStranger count (ys ++ (n, v) ∷ []) (Some j)) (sym new.0) (
      le,
      comes_here n v ys,
      (λ k from less. came_there k n v ys (λ same. absurd (omega arith)) ∙ is.2 k from (let o = new.1 in omega arith)),
    ))
    least

-- places, in each of which exactly one came
module _ {X : Type 0} {Y : Type 0} where
  pub get_mapped : (f : X → Y) (xs : List X) (n : ℕ) (x : X) → slice_get xs n ≡ Some x → slice_get (map f xs) n ≡ Some (f x)
  get_mapped f [] n x e = cc
  get_mapped f (y ∷ xs) zero x e = let s : y ≡ x = cc in ap (λ (z : X). Some (f z)) s
  get_mapped f (y ∷ xs) (suc n) x e = get_mapped f xs n x e

  mapped_get : (f : X → Y) (xs : List X) (n : ℕ) → n < length xs → (x : X) × (slice_get (map f xs) n ≡ Some (f x))
  mapped_get f [] n lt = absurd (omega arith)
  mapped_get f (y ∷ xs) zero lt = (y, refl)
  mapped_get f (y ∷ xs) (suc n) lt = mapped_get f xs n (omega arith)

  mapped_before : (f : X → Y) (xs : List X) (ys : List Y) (n : ℕ) → n < length xs → (x : X) × (slice_get (map f xs ++ ys) n ≡ Some (f x))
  mapped_before f [] ys n lt = absurd (omega arith)
  mapped_before f (x ∷ xs) ys zero lt = (x, refl)
  mapped_before f (x ∷ xs) ys (suc n) lt = mapped_before f xs ys n (omega arith)

  mapped_at : (f : X → Y) (xs : List X) (y : Y) (ys : List Y) → slice_get (map f xs ++ y ∷ ys) (length xs) ≡ Some y
  mapped_at f [] y ys = refl
  mapped_at f (x ∷ xs) y ys = mapped_at f xs y ys

  mapped_within : (f : X → Y) (xs : List X) (y : Y) (ys : List Y) → length xs < length (map f xs ++ y ∷ ys)
  mapped_within f [] y ys = omega arith
  mapped_within f (x ∷ xs) y ys = (let h = mapped_within f xs y ys in omega arith)

  pub mapped_length : (f : X → Y) (xs : List X) → length (map f xs) ≡ length xs
  mapped_length f [] = refl
  mapped_length f (x ∷ xs) = ap suc (mapped_length f xs)

inner : (a b : Came) → ◌≡◌ {A = Option Came} (Some a) (Some b) → a ≡ b
inner a b e = cc

once_here : (count : ℕ) (ys : Answers) (slots : List Came) (vs : List Verdict) (n : ℕ) → AreCame count ys slots → slots ≡ map Once vs
    → n < count
    → (v : Verdict) × (came n ys ≡ Once v)
once_here count ys slots vs n are is lt =
    let short : length vs ≡ count = sym (mapped_length Once vs) ∙ (sym (ap length is) ∙ are.whole) in
    let g = mapped_get Once vs n (omega arith) in (
      g.0,
      inner (came n ys) (Once g.0) (sym (are.each n lt) ∙ (ap (λ (l : List Came). slice_get l n) is ∙ g.1)),
    )

-- the first place in which not exactly one came
pub breaks_here : (slots before behind : List Came) (vs : List Verdict) (c : Came) (fault : GatherFault) → before ≡ map Once vs
    → before ++ c ∷ behind ≡ slots → Breaks (length vs) c fault → IsBroken slots fault
breaks_here slots before behind vs c fault once split breaks = record {
  before = vs;
  found = c;
  behind = behind;
  split = sym split ∙ ap (λ (l : List Came). l ++ c ∷ behind) once;
  breaks = breaks;
}

-- exactly one came in each place, and no stranger
pub list_of : (count : ℕ) (ys : Answers) (slots : List Came) (vs : List Verdict) → AreCame count ys slots → slots ≡ map Once vs
    → IsLeastStranger count ys None → IsListOf count ys vs
list_of count ys slots vs are is none =
    let short : length vs ≡ count = sym (mapped_length Once vs) ∙ (sym (ap length is) ∙ are.whole) in
    record {
      fine = λ n. record { once = λ lt. once_here count ys slots vs n are is lt; never = none n };
      whole = short;
      each = λ n v at.
          (let lt = slice_get_within vs n v at in
          inner (came n ys) (Once v) (sym (are.each n (omega arith)) ∙ (ap (λ (l : List Came). slice_get l n) is
          ∙ get_mapped Once vs n v at)));
    }

-- exactly one came in each place, and a stranger
pub stranger_fault : (count : ℕ) (ys : Answers) (slots : List Came) (vs : List Verdict) (n : ℕ) → AreCame count ys slots
    → slots ≡ map Once vs
    → IsLeastStranger count ys (Some n) → IsLeastFault count ys (Stranger n)
stranger_fault count ys slots vs n are is least = record {
  number = n;
  has = (refl, least.0, least.1);
  least = λ k less. record { once = λ lt. once_here count ys slots vs k are is lt; never = λ from. least.2 k from less };
}

broken_before : (count : ℕ) (ys : Answers) (slots : List Came) (vs : List Verdict) (c : Came) (rest : List Came) → AreCame count ys slots
    → slots ≡ map Once vs ++ c ∷ rest → (n : ℕ) → n < length vs → IsFine count ys n
broken_before count ys slots vs c rest are is n less =
    let within : length vs < count = (let a = mapped_within Once vs c rest in let b = ap length is in let w = are.whole in omega arith) in
    let g = mapped_before Once vs (c ∷ rest) n less in
    record {
      once = λ lt. (g.0, inner (came n ys) (Once g.0) (sym (are.each n lt) ∙ (ap (λ (l : List Came). slice_get l n) is ∙ g.1)));
      never = λ from. absurd (omega arith);
    }

broken_at : (count : ℕ) (ys : Answers) (slots : List Came) (vs : List Verdict) (c : Came) (rest : List Came) → AreCame count ys slots
    → slots ≡ map Once vs ++ c ∷ rest → (length vs < count) × (came (length vs) ys ≡ c)
broken_at count ys slots vs c rest are is =
    let within : length vs < count = (let a = mapped_within Once vs c rest in let b = ap length is in let w = are.whole in omega arith) in (
      within,
      inner (came (length vs) ys) c (sym (are.each (length vs) within) ∙ (ap (λ (l : List Came). slice_get l (length vs)) is
          ∙ mapped_at Once vs c rest)),
    )

fault_in : (count : ℕ) (ys : Answers) (slots : List Came) (vs : List Verdict) (c : Came) (rest : List Came) (fault : GatherFault)
    → AreCame count ys slots
    → slots ≡ map Once vs ++ c ∷ rest → Breaks (length vs) c fault → HasFault count ys (length vs) fault
fault_in count ys slots vs Never rest fault are is breaks =
    let a = broken_at count ys slots vs Never rest are is in subst (HasFault count ys (length vs)) (sym breaks) (refl, a.0, a.1)
fault_in count ys slots vs Again rest fault are is breaks =
    let a = broken_at count ys slots vs Again rest are is in subst (HasFault count ys (length vs)) (sym breaks) (refl, a.0, a.1)
fault_in count ys slots vs (Once v) rest fault are is breaks = absurd breaks

least_in : (count : ℕ) (ys : Answers) (slots : List Came) (fault : GatherFault) → AreCame count ys slots → IsBroken slots fault
    → IsLeastFault count ys fault
least_in count ys slots fault are broken = record {
  number = length broken.before;
  has = fault_in count ys slots broken.before broken.found broken.behind fault are broken.split broken.breaks;
  least = broken_before count ys slots broken.before broken.found broken.behind are broken.split;
}

-- not exactly one came in some place
pub gap_fault : (count : ℕ) (ys : Answers) (slots : List Came) (error : Failed GatherFault) → AreCame count ys slots → IsGap slots error
    → IsWhy count ys error
gap_fault count ys slots OutOfMemory are gap = tt
gap_fault count ys slots (Fault fault) are gap = least_in count ys slots fault are gap

nat_same : (n m : ℕ) → (m == n) ≡ true → m ≡ n
nat_same n m e = grind (arith, nat_tests)

one : (v w : Verdict) (c : Came) → once_more v c ≡ Once w → (v ≡ w) × (c ≡ Never)
one v w Never e = ((let s : v ≡ w = cc in s), refl)
one v w (Once u) e = cc
one v w Again e = cc

came_by : (P : ℕ × Verdict → Type 0) (n : ℕ) (w : Verdict) (y : ℕ × Verdict) (c : Came) (b : Bool) → (y.0 == n) ≡ b
    → (if b then once_more y.1 c else c) ≡ Once w → P y → (c ≡ Once w → P (n, w)) → P (n, w)
came_by P n w y c true is e here rest = let o = one y.1 w c e in let s = nat_same n y.0 is in subst P (λ i. (s i, o.0 i)) here
came_by P n w y c false is e here rest = rest e

-- what came once is one of the answers
pub came_of : (P : ℕ × Verdict → Type 0) (n : ℕ) (w : Verdict) (ys : List (ℕ × Verdict)) → All P ys → came n ys ≡ Once w → P (n, w)
came_of P n w [] all e = cc
came_of P n w (y ∷ ys) all e =
    came_by P n w y (came n ys) (y.0 == n) refl e (all zero y (omega arith))
    (λ r. came_of P n w ys (λ k d lt. all (suc k) d (omega arith)) r)
