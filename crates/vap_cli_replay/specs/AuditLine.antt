-- The line that the audit has for an entry.
use Rattle.std.specs.Prelude.{ℕ, Bool, List, [], ◌∷◌, ◌++◌, codes, flat_map}
use Rattle.json.specs.Print.{print}
use Rattle.json.specs.Token.{Token, begin_object, boolean, end_object, key}
use Rattle.base_containers.specs.declared.text.Keyed.{Keyed}
use Rattle.vap_policy_verdict.specs.Members.{number_member, text_member}
use Rattle.vap_policy_verdict.specs.declared.verdict.Verdict.{Verdict}
use Rattle.vap_audit.specs.declared.entry.Entry.{Entry}

-- the annotations, each under its key
abbrev pub annotation_members : List (Keyed (List ℕ)) → List Token
annotation_members annotations = flat_map (λ a. text_member a.key a.value) annotations

-- a member that is the object of the annotations
abbrev pub object_member : List ℕ → List (Keyed (List ℕ)) → List Token
object_member name annotations = key name ∷ begin_object ∷ (annotation_members annotations ++ end_object ∷ [])

-- whether the request was allowed
unfoldable pub allowed_member : Bool → List Token
allowed_member allowed = key (codes "allowed") ∷ boolean allowed ∷ []

-- whether the request was allowed, and the annotations
unfoldable pub decided_members : Verdict → List Token
decided_members v = allowed_member v.allowed ++ object_member (codes "annotations") v.annotations

-- the call and the revision
unfoldable pub number_members : ℕ → ℕ → List Token
number_members call revision = number_member (codes "call") call ++ number_member (codes "revision") revision

-- the call, the revision and the request's own name
unfoldable pub named_members : Entry → List Token
named_members e = number_members e.call e.verdict.revision ++ text_member (codes "uid") e.request.admission.uid

-- an entry, its members by the bytes of their keys
abbrev pub audit_tokens : Entry → List Token
audit_tokens e = begin_object ∷ (decided_members e.verdict ++ (named_members e ++ end_object ∷ []))

-- the line for an entry, without its line feed: compact JSON
abbrev pub audit_text : Entry → List ℕ
audit_text e = print (audit_tokens e)
