-- Lists by name that are made of one entry after the other.
use Rattle.std.proofs.Common.{◌≡◌, ℕ, List, [], ◌∷◌, ◌++◌, append_assoc, append-nil, ap, sym, subst, ◌∙◌, refl}
use Rattle.std.specs.Cmp.Lexicographic.{slice_cmp}
use Rattle.std.specs.List.{flat_map}
use Rattle.std.specs.List.Sorted.{IsSortedByKey}
use Rattle.std.specs.Ordering.{nat_cmp}
use Rattle.base_containers.specs.Keys.{with_entry}
use Rattle.base_containers.specs.declared.text.Keyed.{Keyed}
use Rattle.vap_read_objects.specs.ByName.{Adds, by_name}
use Rattle.vap_read_objects.proofs.ByName.{by_name_is, one_more}

-- ---- one step

-- an entry that is put after the others of its name is one more
pub adds_one : {V : Type 0} (name : List ℕ) (value : V) (old new : List (Keyed V))
    → (IsSortedByKey (λ e. e.key) (slice_cmp nat_cmp) old → new ≡ with_entry name value old)
    → Adds (record { key = name; value = value } ∷ []) old new
adds_one name value old new is = record {
  grown = λ these by.
      let sorted : IsSortedByKey (λ e. e.key) (slice_cmp nat_cmp) old =
      subst (λ es. IsSortedByKey (λ e. e.key) (slice_cmp nat_cmp) es) (sym by) (by_name_is these).sorted in
      is sorted ∙ ap (with_entry name value) by ∙ sym (one_more these (record { key = name; value = value }));
}

pub adds_none : {V : Type 0} (list : List (Keyed V)) → Adds [] list list
adds_none list = record { grown = λ these by. by ∙ ap by_name (sym (append-nil these)) }

-- ---- all steps

-- a list has by name what there is of all except the rest
pub record IsGathered {V : Type 0} (all rest list : List (Keyed V)) : Type 0 where
  pub before : List (Keyed V)
  pub whole : before ++ rest ≡ all
  pub is : list ≡ by_name before

pub nothing_gathered : {V : Type 0} (all list : List (Keyed V)) → list ≡ [] → IsGathered all all list
nothing_gathered all list none = record { before = []; whole = refl; is = none }

pub gathers : {V : Type 0} (all more rest old new : List (Keyed V)) → Adds more old new → IsGathered all (more ++ rest) old
    → IsGathered all rest new
gathers all more rest old new adds is = record {
  before = is.before ++ more;
  whole = append_assoc is.before more rest ∙ is.whole;
  is = adds.grown is.before is.is;
}

-- the next of some things from which entries are read
pub reads_next : {A V : Type 0} (read : A → List (Keyed V)) (all : List (Keyed V)) (from : A) (before after : List A)
    (more old new : List (Keyed V)) → Adds more old new → more ≡ read from → before ≡ from ∷ after
    → IsGathered all (flat_map read before) old → IsGathered all (flat_map read after) new
reads_next read all from before after more old new adds same next is =
    gathers all more (flat_map read after) old new adds
    (subst (λ rest. IsGathered all rest old) (ap (flat_map read) next ∙ ap (λ xs. xs ++ flat_map read after) (sym same)) is)

pub all_gathered : {V : Type 0} (all list : List (Keyed V)) → IsGathered all [] list → list ≡ by_name all
all_gathered all list is = is.is ∙ ap by_name (sym (append-nil is.before) ∙ is.whole)

pub all_read : {A V : Type 0} (read : A → List (Keyed V)) (all : List (Keyed V)) (left : List A) (list : List (Keyed V)) → left ≡ []
    → IsGathered all (flat_map read left) list → list ≡ by_name all
all_read read all left list none is = all_gathered all list (subst (λ xs. IsGathered all (flat_map read xs) list) none is)
