-- The annotations that are kept with a decision.
use Rattle.std.specs.Prelude.{◌≡◌, ℕ, Bool, not, codes, List, [], ◌∷◌, ◌++◌, map, filter, if◌then◌else◌}
use Rattle.std.specs.List.{flat_map, list_any}
use Rattle.std.specs.Str.{bytes_eq}
use Rattle.base_containers.specs.Keys.{IsInKeyOrder, keys_in, value_under, with_entry, without}
use Rattle.base_containers.specs.declared.text.Keyed.{Keyed}
use Rattle.vap_policy_verdict.specs.Cut.{cut_text}
use Rattle.vap_policy_verdict.specs.Failures.{failures_text}
use Rattle.vap_policy_verdict.specs.declared.finding.Finding.{Finding}
use Rattle.vap_policy_verdict.specs.declared.finding.Note.{Note}

-- ---- one value under its key

-- the key of a note: the policy's name, a slash and the annotation's own key
abbrev pub key_of : Note → List ℕ
key_of n = n.policy ++ (codes "/" ++ n.key)

-- a note's value under its key, cut if it is too long
abbrev pub entry_of : Note → Keyed (List ℕ)
entry_of n = record { key = key_of n; value = cut_text 10240 n.value }

-- the same, unless it is empty
unfoldable pub entry_in : Note → List (Keyed (List ℕ))
entry_in n = if bytes_eq n.value [] then [] else entry_of n ∷ []

-- what notes give, in their order
abbrev pub entries_of : List Note → List (Keyed (List ℕ))
entries_of notes = flat_map entry_in notes

-- ---- each key with all its values

-- texts, each once, where it first appears
abbrev pub each_once : List (List ℕ) → List (List ℕ)
each_once [] = []
each_once (t ∷ ts) = t ∷ filter (λ u. not (bytes_eq u t)) (each_once ts)

-- the values under a key, each once
abbrev pub values_at : List ℕ → List (Keyed (List ℕ)) → List (List ℕ)
values_at key es = each_once (map (λ e. e.value) (filter (λ e. bytes_eq e.key key) es))

-- texts, each after a comma and a space
abbrev pub after_first : List (List ℕ) → List ℕ
after_first [] = []
after_first (t ∷ ts) = codes ", " ++ (t ++ after_first ts)

-- texts in a row, each further one after a comma and a space
abbrev pub joined : List (List ℕ) → List ℕ
joined [] = []
joined (t ∷ ts) = t ++ after_first ts

-- a key with its values, joined
abbrev pub joined_at : List (Keyed (List ℕ)) → List ℕ → Keyed (List ℕ)
joined_at es key = record { key = key; value = joined (values_at key es) }

-- each key once, with all its values
abbrev pub grouped : List (Keyed (List ℕ)) → List (Keyed (List ℕ))
grouped es = map (joined_at es) (each_once (keys_in es))

-- ---- in the order of keys

-- entries by the bytes of their keys; of those of one key only the first is kept
abbrev pub by_key : {V : Type 0} → List (Keyed V) → List (Keyed V)
by_key [] = []
by_key (e ∷ es) = with_entry e.key e.value (without e.key (by_key es))

-- these are the entries in the order of their keys, each key once, with the value that comes first under it
pub record AreByKey {V : Type 0} (es ordered : List (Keyed V)) : Type 0 where
  pub order : IsInKeyOrder ordered
  pub values : (key : List ℕ) → value_under key ordered ≡ value_under key es

-- ---- all annotations

-- a failure's binding audits
abbrev pub audits : Finding → Bool
audits f = f.actions.audit

-- the key of the failures
unfoldable pub failure_key : List ℕ
failure_key = codes "validation.policy.admission.k8s.io/validation_failure"

-- the failures whose bindings audit, under their key, if there are any
unfoldable pub failure_annotation : List Finding → List (Keyed (List ℕ))
failure_annotation fs = if list_any audits fs then record { key = failure_key; value = failures_text fs } ∷ [] else []

-- the failures, and then the values of notes, each key with all its own
abbrev pub found_annotations : List Finding → List Note → List (Keyed (List ℕ))
found_annotations fs notes = failure_annotation fs ++ grouped (entries_of notes)

-- these in the order of their keys; under the key of the failures a note is not kept if a binding audits
abbrev pub annotations_of : List Finding → List Note → List (Keyed (List ℕ))
annotations_of fs notes = by_key (found_annotations fs notes)
