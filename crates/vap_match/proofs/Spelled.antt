-- Each text of a document in UTF-8 is UTF-8.
use Rattle.std.proofs.Common.{ℕ, List, Option, Some, None, Ordering, Less, Equal, Greater, nat_cmp}
use Rattle.std.proofs.lemmas.Str.{IsUtf8-nil}
use Rattle.std.specs.Prelude.{IfSome}
use Rattle.std.specs.Cmp.Lexicographic.{slice_cmp}
use Rattle.std.specs.Ordering.{match_ordering}
use Rattle.std.specs.Str.{IsUtf8}
use Rattle.serde_json.specs.Data as json
use Rattle.serde_json.specs.Data.{Data, Members}
use Rattle.serde_json.specs.Find.{get, get_member}
use Rattle.base_containers.proofs.Spelled.{IsSpelled, AreSpelled, AreNamed}
use Rattle.vap_match.specs.Parts as part
use Rattle.vap_match.specs.Parts.{text_of, text_in, items_in}

chosen : (o : Ordering) (rest : Option Data) (d : Data) → IfSome rest IsSpelled → IsSpelled d
    → IfSome (match_ordering o rest (Some d) rest) IsSpelled
chosen Less rest d h k = h
chosen Equal rest d h k = k
chosen Greater rest d h k = h

member_spelled : (name : List ℕ) (ms : Members) → AreNamed ms → IfSome (get_member name ms) IsSpelled
member_spelled name json.no_members h = tt
member_spelled name (json.member k d ms) h =
    chosen (slice_cmp nat_cmp name k) (get_member name ms) d (member_spelled name ms h.2) h.1

pub found_spelled : (name : List ℕ) (d : Data) → IsSpelled d → IfSome (get name d) IsSpelled
found_spelled name json.null h = tt
found_spelled name (json.boolean b) h = tt
found_spelled name (json.number n) h = tt
found_spelled name (json.string s) h = tt
found_spelled name (json.array ds) h = tt
found_spelled name (json.object ms) h = member_spelled name ms h

pub text_spelled : (d : Data) → IsSpelled d → IsUtf8 (text_of d)
text_spelled json.null h = IsUtf8-nil
text_spelled (json.boolean b) h = IsUtf8-nil
text_spelled (json.number n) h = IsUtf8-nil
text_spelled (json.string s) h = h
text_spelled (json.array ds) h = IsUtf8-nil
text_spelled (json.object ms) h = IsUtf8-nil

pub text_spelled_in : (o : Option Data) → IfSome o IsSpelled → IsUtf8 (text_in o)
text_spelled_in None h = IsUtf8-nil
text_spelled_in (Some d) h = text_spelled d h

pub items_spelled_of : (d : Data) → IsSpelled d → AreSpelled (part.items_of d)
items_spelled_of json.null h = tt
items_spelled_of (json.boolean b) h = tt
items_spelled_of (json.number n) h = tt
items_spelled_of (json.string s) h = tt
items_spelled_of (json.array ds) h = h
items_spelled_of (json.object ms) h = tt

pub items_spelled_in : (o : Option Data) → IfSome o IsSpelled → AreSpelled (items_in o)
items_spelled_in None h = tt
items_spelled_in (Some d) h = items_spelled_of d h
