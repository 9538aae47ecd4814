-- Which documents are objects, and under which keys (Kubernetes API reference, "ObjectMeta").
use Rattle.std.specs.Prelude.{ℕ, Bool, ◌&&◌, codes, List, unwrap_or, option_and_then, is_ok}
use Rattle.serde_json.specs.Data.{Data, null}
use Rattle.serde_json.specs.Find.{get}
use Rattle.vap_match.specs.Forms.{there_and, is_text}
use Rattle.vap_match.specs.Parts.{text_in}
use Rattle.vap_schema.specs.Seen.{seen}
use Rattle.vap_schema.specs.FixedTypes.{metadata_type}
use Rattle.vap_read.specs.Lines.{is_of}
use Rattle.vap_read.specs.declared.key.Key.{Key}

-- whether a document is metadata that names its object
abbrev pub is_metadata : Data → Bool
is_metadata d = there_and is_text (get (codes "name") d) && is_ok (seen (codes "metadata") metadata_type d)

-- whether a document is an object: it has a version, a kind and metadata
abbrev pub is_object : Data → Bool
is_object d =
    there_and is_text (get (codes "apiVersion") d)
    && there_and is_text (get (codes "kind") d)
    && there_and is_metadata (get (codes "metadata") d)

-- the text of a member of the metadata
abbrev pub text_under : List ℕ → Data → List ℕ
text_under name d = text_in (option_and_then (get name) (get (codes "metadata") d))

-- the key of an object; one that is in no namespace has the empty text there
abbrev pub key_of : Data → Key
key_of d = record {
  api_version = text_in (get (codes "apiVersion") d);
  kind = text_in (get (codes "kind") d);
  namespace = text_under (codes "namespace") d;
  name = text_under (codes "name") d;
}

-- what is under a member, null if nothing is
abbrev pub member_in : List ℕ → Data → Data
member_in name d = unwrap_or (get name d) null

-- whether an object is a policy
abbrev pub is_policy : Data → Bool
is_policy d = is_of (codes "admissionregistration.k8s.io/v1") (codes "ValidatingAdmissionPolicy") d

-- whether an object is a binding
abbrev pub is_binding : Data → Bool
is_binding d = is_of (codes "admissionregistration.k8s.io/v1") (codes "ValidatingAdmissionPolicyBinding") d
