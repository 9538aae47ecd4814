-- Which reviews are within the limits of texts and lists.
use Rattle.std.specs.Prelude.{ℕ, Bool, true, ◌&&◌, nat_le, codes, List}
use Rattle.serde_json.specs.Data as json
use Rattle.serde_json.specs.Data.{Data, Items, Members}
use Rattle.serde_json.specs.Events.{items_len, members_len}
use Rattle.serde_json.specs.Find.{get}
use Rattle.vap_match.specs.Forms.{absent_or, all_items}
use Rattle.vap_match.specs.TextLimits.{is_short, short_at}
use Rattle.vap_match.specs.Parts.{text_of, items_of, items_in}

-- a group, a version and a last part of at most 253 code points
abbrev pub is_short_versioned : List ℕ → Data → Bool
is_short_versioned last d = short_at 253 (codes "group") d && short_at 253 (codes "version") d && short_at 253 last d

-- at most 1,024 texts, each of at most 1,024 code points
abbrev pub are_short : Items → Bool
are_short ds = nat_le (items_len ds) 1024 && all_items (λ d. is_short 1024 (text_of d)) ds

-- names of at most 1,024 code points, each over a list that is within its limits
abbrev pub all_short : Members → Bool
all_short json.no_members = true
all_short (json.member k d ms) = is_short 1024 k && are_short (items_of d) && all_short ms

-- at most 1,024 such names
abbrev pub are_short_entries : Members → Bool
are_short_entries ms = nat_le (members_len ms) 1024 && all_short ms

-- an object of such names
abbrev pub is_short_map : Data → Bool
is_short_map (json.object ms) = are_short_entries ms
is_short_map _ = true

-- whose request it is, within the limits
abbrev pub is_short_user_info : Data → Bool
is_short_user_info d =
    short_at 1024 (codes "username") d
    && short_at 1024 (codes "uid") d
    && are_short (items_in (get (codes "groups") d))
    && absent_or is_short_map (get (codes "extra") d)

-- whether a request is within the limits
abbrev pub is_short_request : Data → Bool
is_short_request d =
    short_at 253 (codes "uid") d
    && absent_or (is_short_versioned (codes "kind")) (get (codes "kind") d)
    && absent_or (is_short_versioned (codes "resource")) (get (codes "resource") d)
    && short_at 7 (codes "operation") d
    && short_at 253 (codes "name") d
    && short_at 253 (codes "namespace") d
    && short_at 253 (codes "subResource") d
    && absent_or is_short_user_info (get (codes "userInfo") d)

-- whether a review's request is within the limits
abbrev pub is_short_review : Data → Bool
is_short_review d = absent_or is_short_request (get (codes "request") d)
