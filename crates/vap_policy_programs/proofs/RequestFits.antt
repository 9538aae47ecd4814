-- What `request` holds of a request that is within its limits is of the type of `request`.
use Rattle.std.proofs.Common.{◌≡◌, ℕ, suc, ◌≤◌, Bool, true, nat_le, List, [], ◌∷◌, length, map, codes}
use Rattle.std.proofs.Common.{refl, ap, sym, ◌∙◌, rules, inl, inr}
use Rattle.std.proofs.lemmas.Bool.{and_from, cases_Bool, le-leb}
use Rattle.std.proofs.lemmas.Slice.Eq.{bytes_eq-Decides}
use Rattle.std.specs.List.{AllByRecursion, list_all}
use Rattle.std.specs.Ordering.{nat_cmp, is_lt}
use Rattle.std.specs.Cmp.Lexicographic.{slice_cmp}
use Rattle.std.specs.Str.{bytes_eq, chars}
use Rattle.base_containers.specs.declared.text.Keyed.{Keyed}
use Rattle.base_containers.specs.Keys.{with_entry, without}
use Rattle.cel_value.proofs.CodePoints.{code_points-chars}
use Rattle.cel_value.proofs.Objects.{fits-Object}
use Rattle.cel_value.specs.CelType.{fits}
use Rattle.cel_value.specs.Fits.{admitted_by, object_fits}
use Rattle.cel_value.specs.Value.{code_points}
use Rattle.cel_value.specs.declared.cel_type.CelType as type
use Rattle.cel_value.specs.declared.cel_type.CelType.{CelType}
use Rattle.cel_value.specs.declared.cel_type.Field.{Field}
use Rattle.cel_value.specs.declared.value.Value as value
use Rattle.cel_value.specs.declared.value.Value.{Value}
use Rattle.vap_schema.proofs.Fitted.{fits-List, fits-Map}
use Rattle.vap_schema.specs.Entries.{entry_fits}
use Rattle.vap_match.specs.Within.{AreTexts, IsEntry, IsText, IsUserInfo, IsWithin}
use Rattle.vap_match.specs.declared.request.Admission.{Admission}
use Rattle.vap_match.specs.declared.request.UserInfo.{UserInfo}
use Rattle.vap_policy_programs.specs.RequestType.{asked_fields, request_type, texts_type, user_type, versioned_type, with_required}
use Rattle.vap_policy_programs.specs.RequestValue.{asked_values, request_value, texts_entry, texts_value, user_value, versioned_value}
use Rattle.vap_policy_programs.specs.RequestValue.{with_field}

abbrev Fields : Type 0
Fields = List (Keyed (Field CelType))

abbrev Entries : Type 0
Entries = List (Keyed Value)

-- ---- fields and entries in step

-- each field has its entry, at the same place and under the same name, and each entry fits its field
abbrev Meet : Fields → Entries → Type 0
Meet [] [] = Unit {0}
Meet [] (e ∷ es) = ⊥
Meet (f ∷ fs) [] = ⊥
Meet (f ∷ fs) (e ∷ es) = (f.key ≡ e.key) × (fits e.value f.value.cel_type ≡ true) × Meet fs es

-- the same, as one type
record InStep (fs : Fields) (es : Entries) : Type 0 where
  all : Meet fs es

meeting_fits : (fs : Fields) (es : Entries) → Meet fs es → object_fits (admitted_by fs) es ≡ true
meeting_fits [] [] m = refl
meeting_fits [] (e ∷ es) m = absurd m
meeting_fits (f ∷ fs) [] m = absurd m
meeting_fits (f ∷ fs) (e ∷ es) m = rw ((bytes_eq-Decides f.key e.key).1 m.0) (and_from _ _ m.1 (meeting_fits fs es m.2))

object_fitting : {fs : Fields} {es : Entries} → InStep fs es → fits (value.Object es) (type.Object fs) ≡ true
object_fitting {fs} {es} s = fits-Object es fs ∙ meeting_fits fs es s.all

meet_without : (k : List ℕ) (fs : Fields) (es : Entries) → Meet fs es → Meet (without k fs) (without k es)
meet_without k [] [] m = tt
meet_without k [] (e ∷ es) m = absurd m
meet_without k (f ∷ fs) [] m = absurd m
meet_without k (f ∷ fs) (e ∷ es) m = elim (cases_Bool (bytes_eq f.key k)) [
  | inl here ↦ rw (here, ap (λ l. bytes_eq l k) (sym m.0) ∙ here) m.2
  | inr other ↦ rw (other, ap (λ l. bytes_eq l k) (sym m.0) ∙ other) (m.0, m.1, meet_without k fs es m.2)
]

meet_put : (k : List ℕ) (t : CelType) (v : Value) (fs : Fields) (es : Entries) → fits v t ≡ true → Meet fs es
    → Meet (with_entry k (record { required = true; cel_type = t }) fs) (with_entry k v es)
meet_put k t v [] [] fit m = (refl, fit, tt)
meet_put k t v [] (e ∷ es) fit m = absurd m
meet_put k t v (f ∷ fs) [] fit m = absurd m
meet_put k t v (f ∷ fs) (e ∷ es) fit m = elim (cases_Bool (is_lt (slice_cmp nat_cmp k f.key))) [
  | inl here ↦ rw (here, ap (λ l. is_lt (slice_cmp nat_cmp k l)) (sym m.0) ∙ here) (refl, fit, m)
  | inr behind ↦
      rw (behind, ap (λ l. is_lt (slice_cmp nat_cmp k l)) (sym m.0) ∙ behind) (m.0, m.1, meet_put k t v fs es fit m.2)
]

none : InStep [] []
none = record { all = tt }

-- one more field, with its entry
more : {fs : Fields} {es : Entries} (k : List ℕ) (t : CelType) (v : Value) → fits v t ≡ true → InStep fs es
    → InStep (with_required k t fs) (with_field k v es)
more {fs} {es} k t v fit s = record { all = meet_put k t v (without k fs) (without k es) fit (meet_without k fs es s.all) }

-- ---- texts

within : (most : ℕ) (text : List ℕ) → IsText most text → nat_le (code_points text) most ≡ true
within most text is =
    ap (λ n. nat_le n most) (code_points-chars text is.spelled) ∙ le-leb (length (chars text)) most is.short

text_fits : (most : ℕ) (text : List ℕ) → IsText most text → fits (value.Text text) (type.Text most) ≡ true
text_fits most text is =
    let opened : fits (value.Text text) (type.Text most) ≡ nat_le (code_points text) most =
    search (rules, type.the_lemmas, value.the_lemmas) in
    opened ∙ within most text is

bool_fits : (b : Bool) → fits (value.Bool b) type.Bool ≡ true
bool_fits b = search (rules, type.the_lemmas, value.the_lemmas)

all_texts_fit : (texts : List (List ℕ)) → AllByRecursion (IsText 1024) texts
    → list_all (λ v. fits v (type.Text 1024)) (map value.Text texts) ≡ true
all_texts_fit [] all = refl
all_texts_fit (text ∷ texts) all = and_from _ _ (text_fits 1024 text all.0) (all_texts_fit texts all.1)

as_many : (texts : List (List ℕ)) → length (map value.Text texts) ≡ length texts
as_many [] = refl
as_many (text ∷ texts) = ap suc (as_many texts)

texts_fit : (texts : List (List ℕ)) → AreTexts texts → fits (texts_value texts) texts_type ≡ true
texts_fit texts are =
    fits-List 1024 true (type.Text 1024) (map value.Text texts)
    ∙ and_from _ _ (ap (λ n. nat_le n 1024) (as_many texts) ∙ le-leb (length texts) 1024 are.few) (all_texts_fit texts are.short)

all_entries_fit : (es : List (Keyed (List (List ℕ)))) → AllByRecursion IsEntry es
    → list_all (entry_fits 1024 texts_type) (map texts_entry es) ≡ true
all_entries_fit [] all = refl
all_entries_fit (e ∷ es) all =
    and_from _ _ (and_from _ _ (within 1024 e.key all.0.key) (texts_fit e.value all.0.value)) (all_entries_fit es all.1)

as_many_entries : (es : List (Keyed (List (List ℕ)))) → length (map texts_entry es) ≡ length es
as_many_entries [] = refl
as_many_entries (e ∷ es) = ap suc (as_many_entries es)

extra_fits : (es : List (Keyed (List (List ℕ)))) → length es ≤ 1024 → AllByRecursion IsEntry es
    → fits (value.Map (map texts_entry es)) (type.Map 1024 1024 texts_type) ≡ true
extra_fits es few all =
    fits-Map 1024 1024 texts_type (map texts_entry es)
    ∙ and_from _ _ (ap (λ n. nat_le n 1024) (as_many_entries es) ∙ le-leb (length es) 1024 few) (all_entries_fit es all)

-- one more text
more_text : {fs : Fields} {es : Entries} (most : ℕ) (k text : List ℕ) → IsText most text → InStep fs es
    → InStep (with_required k (type.Text most) fs) (with_field k (value.Text text) es)
more_text most k text is s = more k (type.Text most) (value.Text text) (text_fits most text is) s

-- ---- the parts of a request

versioned_fits : (last group version text : List ℕ) → IsText 253 group → IsText 253 version → IsText 253 text
    → fits (versioned_value last group version text) (versioned_type last) ≡ true
versioned_fits last group version text g v t =
    let one = more_text 253 (codes "group") group g none in
    let two = more_text 253 (codes "version") version v one in
    let three = more_text 253 last text t two in
    object_fitting three

user_fits : (u : UserInfo) → IsUserInfo u → fits (user_value u) user_type ≡ true
user_fits u is =
    let one = more_text 1024 (codes "username") u.username is.username none in
    let two = more_text 1024 (codes "uid") u.uid is.uid one in
    let three = more (codes "groups") texts_type (texts_value u.groups) (texts_fit u.groups is.groups) two in
    let four =
    more (codes "extra") (type.Map 1024 1024 texts_type) (value.Map (map texts_entry u.extra)) (extra_fits u.extra is.few is.extra) three in
    object_fitting four

asked_meet : (r : Admission) → IsWithin r → InStep asked_fields (asked_values r)
asked_meet r is =
    let one = more_text 253 (codes "name") r.name is.name none in
    let two = more_text 253 (codes "namespace") r.namespace is.namespace one in
    let three = more_text 253 (codes "subResource") r.sub_resource is.sub_resource two in
    let four = more_text 7 (codes "operation") r.operation is.operation three in
    more (codes "dryRun") type.Bool (value.Bool r.dry_run) (bool_fits r.dry_run) four

pub request_fits : (r : Admission) → IsWithin r → fits (request_value r) request_type ≡ true
request_fits r is =
    let kind =
    versioned_fits (codes "kind") r.kind.group r.kind.version r.kind.kind is.kind.group is.kind.version is.kind.kind in
    let resource =
    versioned_fits (codes "resource") r.resource.group r.resource.version r.resource.resource is.resource.group is.resource.version
    is.resource.resource in
    let one =
    more (codes "kind") (versioned_type (codes "kind"))
    (versioned_value (codes "kind") r.kind.group r.kind.version r.kind.kind) kind (asked_meet r is) in
    let two =
    more (codes "resource") (versioned_type (codes "resource"))
    (versioned_value (codes "resource") r.resource.group r.resource.version r.resource.resource) resource one in
    let three = more (codes "userInfo") user_type (user_value r.user_info) (user_fits r.user_info is.user_info) two in
    object_fitting three
