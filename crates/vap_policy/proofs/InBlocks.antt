-- Params in blocks, one block after the other.
use Rattle.std.proofs.Common.{◌≡◌, ◌<◌, ◌≤◌, ◌+◌, ℕ, Bool, true, false, ◌||◌, List, [], ◌∷◌, ◌++◌, length, take, drop, get_or, map, filter}
use Rattle.std.proofs.Common.{sym, ap, ◌∙◌, subst, suc, add-one, take-append-drop}
use Rattle.std.proofs.lemmas.Grind.{flat_map-append}
use Rattle.std.proofs.lemmas.List.{drop_all, map-append}
use Rattle.std.proofs.lemmas.List.Elements.{All-from_recursion, filter-append, recursion_from_All}
use Rattle.std.proofs.lemmas.List.Folds.{list_any-append}
use Rattle.std.proofs.Math.Seq.{drop-cons}
use Rattle.std.specs.List.{All, AllByRecursion, list_any}
use Rattle.cel_value.specs.declared.cel_type.CelType.{CelType}
use Rattle.vap_policy_programs.specs.declared.programs.Programs.{Programs}
use Rattle.vap_read.specs.declared.object.Object.{Object}
use Rattle.vap_read_objects.specs.Seen.{Param}
use Rattle.vap_read_objects.specs.Blocks.{joined}
use Rattle.vap_policy.specs.Evaluations.{Evaluation, Rule}
use Rattle.vap_policy.specs.Judging.{Case, at_param}

module _ {X : Type 0} where
  -- the blocks from a place on are the block there and those after it
  pub here : (blocks : List (List X)) (k : ℕ) (block : List X) → k < length blocks → block ≡ get_or blocks k block
      → joined (drop k blocks) ≡ block ++ joined (drop (k + 1) blocks)
  here blocks k block within is =
      rw add-one (ap joined (drop-cons blocks k block within) ∙ ap (λ (b : List X). b ++ joined (drop (suc k) blocks)) (sym is))

  before : (blocks : List (List X)) (k : ℕ) → joined blocks ≡ joined (take k blocks) ++ joined (drop k blocks)
  before blocks k =
      ap joined (sym (take-append-drop k blocks)) ∙ flat_map-append (λ (b : List X). b) (take k blocks) (drop k blocks)

  -- after the last there are none
  pub none_left : (blocks : List (List X)) (k : ℕ) → length blocks ≤ k → joined (drop k blocks) ≡ []
  none_left blocks k over = ap joined (drop_all k blocks over)

  pub held_at : (P : X → Type 0) (blocks : List (List X)) (k : ℕ) (block : List X) → k < length blocks → block ≡ get_or blocks k block
      → All P (joined blocks) → All P block
  held_at P blocks k block within is all =
      All-from_recursion P block
      (
      first_part block (joined (drop (k + 1) blocks))
      (
      rest_part (joined (take k blocks)) (block ++ joined (drop (k + 1) blocks))
      (
      recursion_from_All P (joined (take k blocks) ++ (block ++ joined (drop (k + 1) blocks)))
      (
      subst (All P) (before blocks k ∙ ap (λ (xs : List X). joined (take k blocks) ++ xs) (here blocks k block within is)) all
      )
      )
      )
      )
    where
      first_part : (xs ys : List X) → AllByRecursion P (xs ++ ys) → AllByRecursion P xs
      first_part [] ys all = tt
      first_part (x ∷ xs) ys all = (all.0, first_part xs ys all.1)

      rest_part : (xs ys : List X) → AllByRecursion P (xs ++ ys) → AllByRecursion P ys
      rest_part [] ys all = all
      rest_part (x ∷ xs) ys all = rest_part xs ys all.1

-- ---- whether one is a param

abbrev objects : List Param → List Object
objects xs = map (λ (x : Param). x.object) xs

any_here : (test : Object → Bool) (blocks : List (List Param)) (k : ℕ) (block : List Param) → k < length blocks
    → block ≡ get_or blocks k block
    → list_any test (objects (joined (drop k blocks)))
    ≡ (list_any test (objects block) || list_any test (objects (joined (drop (k + 1) blocks))))
any_here test blocks k block within is =
    ap (λ xs. list_any test (objects xs)) (here blocks k block within is)
    ∙ ap (list_any test) (map-append (λ (x : Param). x.object) block (joined (drop (k + 1) blocks)))
    ∙ list_any-append test (objects block) (objects (joined (drop (k + 1) blocks)))

pub one_here : (test : Object → Bool) (blocks : List (List Param)) (k : ℕ) (block : List Param) → k < length blocks
    → block ≡ get_or blocks k block → list_any test (objects block) ≡ true → list_any test (objects (joined (drop k blocks))) ≡ true
one_here test blocks k block within is one =
    any_here test blocks k block within is ∙ ap (λ b. b || list_any test (objects (joined (drop (k + 1) blocks)))) one

pub none_here : (test : Object → Bool) (blocks : List (List Param)) (k : ℕ) (block : List Param) → k < length blocks
    → block ≡ get_or blocks k block → list_any test (objects block) ≡ false
    → list_any test (objects (joined (drop (k + 1) blocks))) ≡ list_any test (objects (joined (drop k blocks)))
none_here test blocks k block within is none =
    sym (
    any_here test blocks k block within is ∙ ap (λ b. b || list_any test (objects (joined (drop (k + 1) blocks)))) none
    )

-- ---- what is found at each

module _ (c : Case) (w : Rule) (ps : Programs) (t : CelType) (test : Object → Bool) where
  abbrev found : List Param → List Evaluation
  found xs = map (at_param c w ps t) (filter test (objects xs))

  both : (xs ys : List Param) → found (xs ++ ys) ≡ found xs ++ found ys
  both xs ys =
      ap (λ os. map (at_param c w ps t) (filter test os)) (map-append (λ (x : Param). x.object) xs ys)
      ∙ ap (map (at_param c w ps t)) (filter-append test (objects xs) (objects ys))
      ∙ map-append (at_param c w ps t) (filter test (objects xs)) (filter test (objects ys))

  -- the evaluations at those of a block, before the rest
  pub next_block : (blocks : List (List Param)) (k : ℕ) (block : List Param) → k < length blocks → block ≡ get_or blocks k block
      → found block ++ found (joined (drop (k + 1) blocks)) ≡ found (joined (drop k blocks))
  next_block blocks k block within is =
      sym (ap found (here blocks k block within is) ∙ both block (joined (drop (k + 1) blocks)))
