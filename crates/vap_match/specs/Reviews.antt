-- Which documents are reviews.
use Rattle.std.specs.Prelude.{ℕ, Bool, true, false, ◌&&◌, codes, List, is_some}
use Rattle.serde_json.specs.Data as json
use Rattle.serde_json.specs.Data.{Data}
use Rattle.serde_json.specs.Find.{get, as_bool}
use Rattle.vap_match.specs.Forms.{there_and, absent_or, is_text, is_object, is_list_of, is_map_of}

-- whether a document is true or false
abbrev pub is_bool : Data → Bool
is_bool d = is_some (as_bool d)

-- whether a document is an object, or null
abbrev pub is_nullable_object : Data → Bool
is_nullable_object json.null = true
is_nullable_object (json.object ms) = true
is_nullable_object _ = false

-- an object of a group, a version and a last part, each a text if it is there
abbrev pub is_versioned : List ℕ → Data → Bool
is_versioned last d =
    is_object d
    && absent_or is_text (get (codes "group") d)
    && absent_or is_text (get (codes "version") d)
    && absent_or is_text (get last d)

-- an object that says whose request it is
abbrev pub is_user_info : Data → Bool
is_user_info d =
    is_object d
    && absent_or is_text (get (codes "username") d)
    && absent_or is_text (get (codes "uid") d)
    && absent_or (is_list_of is_text) (get (codes "groups") d)
    && absent_or (is_map_of (is_list_of is_text)) (get (codes "extra") d)

-- what a request is on has texts for names, if they are there
abbrev pub has_place : Data → Bool
has_place d =
    absent_or is_text (get (codes "name") d)
    && absent_or is_text (get (codes "namespace") d)
    && absent_or is_text (get (codes "subResource") d)

-- what a request needs
abbrev pub has_needed : Data → Bool
has_needed d =
    there_and is_text (get (codes "uid") d)
    && there_and (is_versioned (codes "kind")) (get (codes "kind") d)
    && there_and (is_versioned (codes "resource")) (get (codes "resource") d)
    && there_and is_text (get (codes "operation") d)

-- whether a document is a request
abbrev pub is_request : Data → Bool
is_request d =
    has_needed d
    && has_place d
    && absent_or is_bool (get (codes "dryRun") d)
    && absent_or is_user_info (get (codes "userInfo") d)
    && absent_or is_nullable_object (get (codes "object") d)
    && absent_or is_nullable_object (get (codes "oldObject") d)

-- whether a document is a review: it has a request
abbrev pub is_review : Data → Bool
is_review d = there_and is_request (get (codes "request") d)
