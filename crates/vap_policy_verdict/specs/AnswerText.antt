-- The line that answers a request.
use Rattle.std.specs.Prelude.{ℕ, Bool, List, [], ◌∷◌, ◌++◌, map, codes}
use Rattle.std.specs.List.{flat_map}
use Rattle.json.specs.Print.{print}
use Rattle.json.specs.Token.{Token, begin_array, begin_object, boolean, end_array, end_object, key, string}
use Rattle.base_containers.specs.declared.text.Keyed.{Keyed}
use Rattle.vap_policy_verdict.specs.Members.{text_member, number_member}
use Rattle.vap_policy_verdict.specs.declared.verdict.Verdict.{Verdict}

-- an annotation
unfoldable pub entry_tokens : Keyed (List ℕ) → List Token
entry_tokens e = text_member e.key e.value

-- the object of the annotations, which are in the order of the bytes of their keys
unfoldable pub annotation_object : List (Keyed (List ℕ)) → List Token
annotation_object es = begin_object ∷ (flat_map entry_tokens es ++ end_object ∷ [])

-- a member that is this object
abbrev pub annotation_member : List ℕ → List (Keyed (List ℕ)) → List Token
annotation_member name es = key name ∷ annotation_object es

-- the annotations
unfoldable pub annotation_members : List (Keyed (List ℕ)) → List Token
annotation_members es = annotation_member (codes "auditAnnotations") es

-- whether the request is allowed
abbrev pub allowed_member : Bool → List Token
allowed_member allowed = key (codes "allowed") ∷ boolean allowed ∷ []

-- the members before `charged`
unfoldable pub front_members : Verdict → List Token
front_members v = allowed_member v.allowed ++ annotation_members v.annotations

-- the charge and the status code
unfoldable pub number_members : Verdict → List Token
number_members v = number_member (codes "charged") v.charged ++ number_member (codes "code") v.code

-- the message and the reason
unfoldable pub word_members : Verdict → List Token
word_members v = text_member (codes "message") v.message ++ text_member (codes "reason") v.reason

-- the members that decide
unfoldable pub decision_members : Verdict → List Token
decision_members v = number_members v ++ word_members v

-- the revision and the request's own name
unfoldable pub name_members : List ℕ → Verdict → List Token
name_members uid v = number_member (codes "revision") v.revision ++ text_member (codes "uid") uid

-- the warnings
unfoldable pub warning_members : Verdict → List Token
warning_members v = key (codes "warnings") ∷ begin_array ∷ (map string v.warnings ++ end_array ∷ [])

-- an answer, its members by the bytes of their keys
abbrev pub answer_tokens : List ℕ → Verdict → List Token
answer_tokens uid v =
    begin_object ∷ (front_members v ++ (decision_members v ++ (name_members uid v ++ (warning_members v ++ end_object ∷ []))))

-- an answer as compact JSON
abbrev pub answer_text : List ℕ → Verdict → List ℕ
answer_text uid v = print (answer_tokens uid v)
