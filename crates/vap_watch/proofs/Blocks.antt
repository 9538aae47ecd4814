-- Elements of blocks by their places.
use Rattle.std.proofs.Common.{◌≡◌, ℕ, ◌+◌, ◌-◌, ◌<◌, ◌≤◌, List, [], ◌∷◌, ◌++◌, length, take, drop, get_or}
use Rattle.std.proofs.Common.{refl, sym, ap, ◌∙◌, append_assoc, append-nil, add-one, zero, suc, arith}
use Rattle.std.proofs.lemmas.List.{take-append-drop, length-append}
use Rattle.std.proofs.lemmas.Grind.{flat_map-append}
use Rattle.std.proofs.lemmas.Option.{slice_get-get_or}
use Rattle.std.proofs.Math.Seq.{drop-cons}
use Rattle.std.specs.Prelude.{slice_get, Some}
use Rattle.vap_read_objects.specs.Blocks.{joined}

module _ {X : Type 0} where
  -- a place within the first of two lists
  pub get_first : (xs ys : List X) (i : ℕ) → i < length xs → slice_get (xs ++ ys) i ≡ slice_get xs i
  get_first [] ys i within = absurd (omega arith)
  get_first (x ∷ xs) ys zero within = refl
  get_first (x ∷ xs) ys (suc i) within = get_first xs ys i (omega arith)

  -- a place after the first of two lists
  pub get_second : (xs ys : List X) (i : ℕ) → slice_get (xs ++ ys) (length xs + i) ≡ slice_get ys i
  get_second [] ys i =
      let none : length {A = X} [] + i ≡ i = omega arith in
      ap (λ (n : ℕ). slice_get ys n) none
  get_second (x ∷ xs) ys i =
      let next : length (x ∷ xs) + i ≡ suc (length xs + i) = omega arith in
      ap (λ (n : ℕ). slice_get (x ∷ (xs ++ ys)) n) next ∙ get_second xs ys i

  -- a list of blocks with one more after them
  pub joined_last : (blocks : List (List X)) (block : List X) → joined (blocks ++ block ∷ []) ≡ joined blocks ++ block
  joined_last blocks block =
      flat_map-append (λ (b : List X). b) blocks (block ∷ []) ∙ ap (λ (l : List X). joined blocks ++ l) (append-nil block)

  -- the last blocks are joined to one
  pub cut : (blocks : List (List X)) (kept : ℕ) (more : List X)
      → joined (take kept blocks ++ (joined (drop kept blocks) ++ more) ∷ []) ≡ joined blocks ++ more
  cut blocks kept more =
      joined_last (take kept blocks) (joined (drop kept blocks) ++ more)
      ∙ (sym (append_assoc (joined (take kept blocks)) (joined (drop kept blocks)) more)
      ∙ ap (λ (l : List X). l ++ more)
      (sym (flat_map-append (λ (b : List X). b) (take kept blocks) (drop kept blocks)) ∙ ap joined (take-append-drop kept blocks)))

  -- the blocks from a place on are the block there and those after it
  here : (blocks : List (List X)) (k : ℕ) (block : List X) → k < length blocks → block ≡ get_or blocks k block
      → joined (drop k blocks) ≡ block ++ joined (drop (k + 1) blocks)
  here blocks k block within is =
      rw add-one (ap joined (drop-cons blocks k block within) ∙ ap (λ (b : List X). b ++ joined (drop (suc k) blocks)) (sym is))

  -- the place is in the first of the blocks that are left
  pub found : (blocks : List (List X)) (k : ℕ) (block : List X) (left place : ℕ) (d : X) → k < length blocks
      → block ≡ get_or blocks k block → slice_get (joined (drop k blocks)) left ≡ slice_get (joined blocks) place
      → left < length block → slice_get (joined blocks) place ≡ Some (get_or block left d)
  found blocks k block left place d within is same inside =
      sym same
      ∙ (ap (λ (l : List X). slice_get l left) (here blocks k block within is)
      ∙ (get_first block (joined (drop (k + 1) blocks)) left inside ∙ slice_get-get_or block left d inside))

  -- the place is after it
  pub behind : (blocks : List (List X)) (k : ℕ) (block : List X) (left place : ℕ) → k < length blocks
      → block ≡ get_or blocks k block
      → (slice_get (joined (drop k blocks)) left ≡ slice_get (joined blocks) place) × (left < length (joined (drop k blocks)))
      → length block ≤ left
      → (slice_get (joined (drop (k + 1) blocks)) (left - length block) ≡ slice_get (joined blocks) place)
      × (left - length block < length (joined (drop (k + 1) blocks)))
  behind blocks k block left place within is inv past =
      let rest : List X = joined (drop (k + 1) blocks) in
      let all : joined (drop k blocks) ≡ block ++ rest = here blocks k block within is in
      let count : length (joined (drop k blocks)) ≡ length block + length rest =
      ap (λ (l : List X). length l) all ∙ length-append block rest in
      let same : length block + (left - length block) ≡ left = omega arith in (
        sym (get_second block rest (left - length block))
            ∙ (ap (λ (n : ℕ). slice_get (block ++ rest) n) same ∙ (ap (λ (l : List X). slice_get l left) (sym all) ∙ inv.0)),
        omega (arith, inv.1, count),
      )
