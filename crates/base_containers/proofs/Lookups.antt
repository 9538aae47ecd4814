-- What is found in a value is found in its data.
use Rattle.std.proofs.Common.{◌≡◌, ℕ, ◌+◌, ◌≤◌, List, ◌++◌, length, Bool, true, false, cond, Option, Some}
use Rattle.std.proofs.Common.{None, option_map, option_and_then, bytes_eq, true≢false, refl, sym, ap, ◌∙◌, subst, arith}
use Rattle.std.proofs.Common.{length-append}
use Rattle.std.specs.Prelude.{IsSome, is_some, unwrap_or}
use Rattle.std.proofs.lemmas.Slice.Eq.{bytes_eq-Decides}
use Rattle.json.specs.Token.{Token}
use Rattle.json.specs.Json as json
use Rattle.json.specs.Json.{value}
use Rattle.json.specs.Find as json_find
use Rattle.json.specs.Find.{BeginsWith, Finds, later_or}
use Rattle.json.specs.Tree as tree
use Rattle.json.specs.Tree.{json_tokens, items_tokens, members_tokens}
use Rattle.json.proofs.Found.{not_found, Some_inj}
use Rattle.json.proofs.Printed.Trees.{value-json_tokens}
use Rattle.json.proofs.Unique.Spelling.{value-json_tokens_back}
use Rattle.serde_json.specs.Data.{Num, Data, null, boolean, number, string, array, object, Items, Members, no_members, member, put}
use Rattle.serde_json.specs.Find as find
use Rattle.serde_json.specs.Read.{number_of, of_json, of_items, of_members}
use Rattle.serde_json.proofs.Views.{get_member-put, get_member-put_other}
use Rattle.base_containers.specs.Parts.{data_at, data_of, IsPart}

-- ---- where a value begins

mutual
  depth-tokens : (j : json.Json) → tree.depth j ≤ length (json_tokens j)
  depth-tokens json.null = omega arith
  depth-tokens (json.boolean b) = omega arith
  depth-tokens (json.number s) = omega arith
  depth-tokens (json.string s) = omega arith
  depth-tokens (json.array js) = omega (arith, depth-items_tokens js)
  depth-tokens (json.object ms) = omega (arith, depth-members_tokens ms)

  depth-items_tokens : (js : json.Items) → tree.items_depth js ≤ length (items_tokens js)
  depth-items_tokens json.no_items = omega arith
  depth-items_tokens (json.item j js) =
      omega (arith, length-append (json_tokens j) (items_tokens js), depth-tokens j, depth-items_tokens js)

  depth-members_tokens : (ms : json.Members) → tree.members_depth ms ≤ length (members_tokens ms)
  depth-members_tokens json.no_members = omega arith
  depth-members_tokens (json.member k j ms) =
      omega (arith, length-append (json_tokens j) (members_tokens ms), depth-tokens j, depth-members_tokens ms)

-- a value that begins is read with as many levels as there are tokens
whole : (ts : List Token) (j : json.Json) → BeginsWith ts j → (rest : List Token) × (value (length ts) ts ≡ Some (j, rest))
whole ts j h =
    let spelled : ts ≡ json_tokens j ++ h.1 = value-json_tokens_back h.0 ts h.1 j h.2 in
    let enough : tree.depth j ≤ length ts = omega (arith, depth-tokens j, length-append (json_tokens j) h.1, ap length spelled) in
    (h.1, ap (value (length ts)) spelled ∙ value-json_tokens j (length ts) h.1 enough)

-- the data of what begins is there
pub data_begins : (ts : List Token) (j : json.Json) → BeginsWith ts j → data_at ts ≡ of_json j
unfolding data_at
data_begins ts j h = let w = whole ts j h in ap (option_and_then (λ p. of_json p.0)) w.1

read_at : (o : Option (json.Json × List Token)) → IsSome (option_and_then (λ p. of_json p.0) o)
    → (p : json.Json × List Token) × (o ≡ Some p)
read_at None h = absurd (true≢false (sym h))
read_at (Some p) h = (p, refl)

pub begins : (ts : List Token) → IsPart ts → (j : json.Json) × BeginsWith ts j
unfolding data_at
begins ts h = let r = read_at (value (length ts) ts) h in (r.0.0, (length ts, r.0.1, r.1))

pub there : (o : Option Data) → IsSome o → o ≡ Some (unwrap_or o null)
there None h = absurd (true≢false (sym h))
there (Some d) h = refl

-- the value at which a part begins, with its data
pub part_json : (ts : List Token) → IsPart ts → (j : json.Json) × BeginsWith ts j × (of_json j ≡ Some (data_of ts))
part_json ts h =
    let b = begins ts h in
    (b.0, b.1, sym (data_begins ts b.0 b.1) ∙ there (data_at ts) h)

pub json_part : (ts : List Token) (j : json.Json) (d : Data) → BeginsWith ts j → of_json j ≡ Some d → IsPart ts × (data_of ts ≡ d)
json_part ts j d b e =
    let is : data_at ts ≡ Some d = data_begins ts j b ∙ e in
    (subst IsSome (sym is) refl, ap (λ o. unwrap_or o null) is)

-- ---- members

-- what is found later, as data, or what was found before
abbrev pick : Option json.Json → Option Data → Option Data
pick None before = before
pick (Some j) before = of_json j

same_key : (k l : List ℕ) (d : Data) (found : Members) (j : json.Json) → of_json j ≡ Some d → (b : Bool) → bytes_eq l k ≡ b
    → find.get_member k (put l d found) ≡ pick (cond b (Some j) None) (find.get_member k found)
same_key k l d found j e true is =
    let same : l ≡ k = (bytes_eq-Decides l k).0 is in
    subst (λ x. find.get_member x (put l d found) ≡ of_json j) same (get_member-put l d found ∙ sym e)
same_key k l d found j e false is = get_member-put_other k l d found (λ h. absurd (cc (sym is, (bytes_eq-Decides l k).1 (sym h))))

later : (k l : List ℕ) (d : Data) (found : Members) (j : json.Json) → of_json j ≡ Some d → (o : Option json.Json)
    → pick o (find.get_member k (put l d found)) ≡ pick (later_or o (cond (bytes_eq l k) (Some j) None)) (find.get_member k found)
later k l d found j e None = same_key k l d found j e (bytes_eq l k) refl
later k l d found j e (Some i) = refl

member_get : (k l : List ℕ) (j : json.Json) (ms : json.Members) (found all : Members)
    → ((f : Members) → of_members ms f ≡ Some all → find.get_member k all ≡ pick (json_find.get_member k ms) (find.get_member k f))
    → (o : Option Data) → of_json j ≡ o → option_and_then (λ d. of_members ms (put l d found)) o ≡ Some all
    → find.get_member k all ≡ pick (later_or (json_find.get_member k ms) (cond (bytes_eq l k) (Some j) None)) (find.get_member k found)
member_get k l j ms found all behind None is e = not_found all e
member_get k l j ms found all behind (Some d) is e = behind (put l d found) e ∙ later k l d found j is (json_find.get_member k ms)

members_get : (k : List ℕ) (ms : json.Members) (found all : Members) → of_members ms found ≡ Some all
    → find.get_member k all ≡ pick (json_find.get_member k ms) (find.get_member k found)
members_get k json.no_members found all e = ap (find.get_member k) (sym (Some_inj found all e))
members_get k (json.member l j ms) found all e = member_get k l j ms found all (λ f h. members_get k ms f all h) (of_json j) refl e

-- each member that is found has data
abbrev HasData : Option json.Json → Type 0
HasData None = Unit {0}
HasData (Some j) = IsSome (of_json j)

either_has : (o p : Option json.Json) → HasData o → HasData p → HasData (later_or o p)
either_has None p a b = b
either_has (Some j) p a b = a

here_has : (b : Bool) (j : json.Json) → IsSome (of_json j) → HasData (cond b (Some j) None)
here_has true j h = h
here_has false j h = tt

member_has : (k l : List ℕ) (j : json.Json) (ms : json.Members) (found all : Members)
    → ((f : Members) → of_members ms f ≡ Some all → HasData (json_find.get_member k ms))
    → (o : Option Data) → of_json j ≡ o → option_and_then (λ d. of_members ms (put l d found)) o ≡ Some all
    → HasData (later_or (json_find.get_member k ms) (cond (bytes_eq l k) (Some j) None))
member_has k l j ms found all behind None is e = not_found all e
member_has k l j ms found all behind (Some d) is e =
    either_has (json_find.get_member k ms) _ (behind (put l d found) e) (here_has (bytes_eq l k) j (subst IsSome (sym is) refl))

members_have : (k : List ℕ) (ms : json.Members) (found all : Members) → of_members ms found ≡ Some all → HasData (json_find.get_member k ms)
members_have k json.no_members found all e = tt
members_have k (json.member l j ms) found all e = member_has k l j ms found all (λ f h. members_have k ms f all h) (of_json j) refl e

-- ---- look-ups

-- what is found has the data that is found
abbrev Gets : Option json.Json → Option Data → Type 0
Gets None o = None ≡ o
Gets (Some i) o = (of_json i ≡ o) × IsSome (of_json i)

picked : (o : Option json.Json) (p : Option Data) → p ≡ pick o None → HasData o → Gets o p
picked None p e h = sym e
picked (Some i) p e h = (sym e, h)

object_gets : (k : List ℕ) (ms : json.Members) (o : Option Members) (d : Data) → of_members ms no_members ≡ o → option_map object o ≡ Some d
    → Gets (json_find.get_member k ms) (find.get k d)
object_gets k ms None d is e = not_found d e
object_gets k ms (Some all) d is e =
    let same : object all ≡ d = Some_inj (object all) d e in
    subst (λ x. Gets (json_find.get_member k ms) (find.get k x)) same
    (picked (json_find.get_member k ms) (find.get_member k all) (members_get k ms no_members all is) (members_have k ms no_members all is))

array_gets : (k : List ℕ) (o : Option Items) (d : Data) → option_map array o ≡ Some d → None ≡ find.get k d
array_gets k None d e = not_found d e
array_gets k (Some ds) d e = ap (find.get k) (Some_inj (array ds) d e)

number_gets : (k : List ℕ) (o : Option Num) (d : Data) → option_map number o ≡ Some d → None ≡ find.get k d
number_gets k None d e = not_found d e
number_gets k (Some n) d e = ap (find.get k) (Some_inj (number n) d e)

gets : (k : List ℕ) (j : json.Json) (d : Data) → of_json j ≡ Some d → Gets (json_find.get k j) (find.get k d)
gets k json.null d e = ap (find.get k) (Some_inj null d e)
gets k (json.boolean b) d e = ap (find.get k) (Some_inj (boolean b) d e)
gets k (json.number s) d e = number_gets k (number_of s) d e
gets k (json.string s) d e = ap (find.get k) (Some_inj (string s) d e)
gets k (json.array js) d e = array_gets k (of_items js) d e
gets k (json.object ms) d e = object_gets k ms (of_members ms no_members) d refl e

-- a part where the data o begins, if there is some
abbrev pub FoundAs : Option (List Token) → Option Data → Type 0
FoundAs None o = None ≡ o
FoundAs (Some ts) o = IsPart ts × (Some (data_of ts) ≡ o)

found_as : (r : Option (List Token)) (x : Option json.Json) (o : Option Data) → Finds r x → Gets x o → FoundAs r o
found_as None x o f g = subst (λ y. Gets y o) f g
found_as (Some ts) x o f g =
    let h : (of_json f.0 ≡ o) × IsSome (of_json f.0) = subst (λ y. Gets y o) f.1 g in
    let part = json_part ts f.0 (unwrap_or (of_json f.0) null) f.2 (there (of_json f.0) h.1) in
    (part.0, ap Some part.1 ∙ sym (there (of_json f.0) h.1) ∙ h.0)

-- what a look into the value finds, a look into the data finds
pub found : (k : List ℕ) (ts : List Token) → IsPart ts → (r : Option (List Token))
    → ((j : json.Json) → BeginsWith ts j → Finds r (json_find.get k j))
    → FoundAs r (find.get k (data_of ts))
found k ts h r f =
    let p = part_json ts h in
    found_as r (json_find.get k p.0) (find.get k (data_of ts)) (f p.0 p.1) (gets k p.0 (data_of ts) p.2)

-- ---- scalars

object_text : (o : Option Members) (d : Data) → option_map object o ≡ Some d
    → (None ≡ find.as_str d) × (None ≡ find.as_bool d) × (None ≡ find.as_number d)
object_text None d e = not_found d e
object_text (Some ms) d e = let same = Some_inj (object ms) d e in (ap find.as_str same, ap find.as_bool same, ap find.as_number same)

array_text : (o : Option Items) (d : Data) → option_map array o ≡ Some d
    → (None ≡ find.as_str d) × (None ≡ find.as_bool d) × (None ≡ find.as_number d)
array_text None d e = not_found d e
array_text (Some ds) d e = let same = Some_inj (array ds) d e in (ap find.as_str same, ap find.as_bool same, ap find.as_number same)

number_text : (o : Option Num) (d : Data) → option_map number o ≡ Some d
    → (None ≡ find.as_str d) × (None ≡ find.as_bool d) × (o ≡ find.as_number d)
number_text None d e = not_found d e
number_text (Some n) d e = let same = Some_inj (number n) d e in (ap find.as_str same, ap find.as_bool same, ap find.as_number same)

scalars : (j : json.Json) (d : Data) → of_json j ≡ Some d
    → (json_find.as_str j ≡ find.as_str d) × (json_find.as_bool j ≡ find.as_bool d)
    × (option_and_then number_of (json_find.as_number j) ≡ find.as_number d)
scalars json.null d e = let same = Some_inj null d e in (ap find.as_str same, ap find.as_bool same, ap find.as_number same)
scalars (json.boolean b) d e = let same = Some_inj (boolean b) d e in (ap find.as_str same, ap find.as_bool same, ap find.as_number same)
scalars (json.number s) d e = number_text (number_of s) d e
scalars (json.string s) d e = let same = Some_inj (string s) d e in (ap find.as_str same, ap find.as_bool same, ap find.as_number same)
scalars (json.array js) d e = array_text (of_items js) d e
scalars (json.object ms) d e = object_text (of_members ms no_members) d e

pub text_of_part : (ts : List Token) → IsPart ts → (r : Option (List ℕ)) → ((j : json.Json) → BeginsWith ts j → r ≡ json_find.as_str j)
    → r ≡ find.as_str (data_of ts)
text_of_part ts h r f = let p = part_json ts h in f p.0 p.1 ∙ (scalars p.0 (data_of ts) p.2).0

pub bool_of_part : (ts : List Token) → IsPart ts → (r : Option Bool) → ((j : json.Json) → BeginsWith ts j → r ≡ json_find.as_bool j)
    → r ≡ find.as_bool (data_of ts)
bool_of_part ts h r f = let p = part_json ts h in f p.0 p.1 ∙ (scalars p.0 (data_of ts) p.2).1

pub number_of_part : (ts : List Token) → IsPart ts → (r : Option (List ℕ)) → ((j : json.Json) → BeginsWith ts j → r ≡ json_find.as_number j)
    → option_and_then number_of r ≡ find.as_number (data_of ts)
number_of_part ts h r f = let p = part_json ts h in ap (option_and_then number_of) (f p.0 p.1) ∙ (scalars p.0 (data_of ts) p.2).2

-- ---- null

object_null : (o : Option Members) (d : Data) → option_map object o ≡ Some d → false ≡ is_some (find.as_null d)
object_null None d e = not_found d e
object_null (Some ms) d e = ap (λ x. is_some (find.as_null x)) (Some_inj (object ms) d e)

array_null : (o : Option Items) (d : Data) → option_map array o ≡ Some d → false ≡ is_some (find.as_null d)
array_null None d e = not_found d e
array_null (Some ds) d e = ap (λ x. is_some (find.as_null x)) (Some_inj (array ds) d e)

number_null : (o : Option Num) (d : Data) → option_map number o ≡ Some d → false ≡ is_some (find.as_null d)
number_null None d e = not_found d e
number_null (Some n) d e = ap (λ x. is_some (find.as_null x)) (Some_inj (number n) d e)

nulls : (j : json.Json) (d : Data) → of_json j ≡ Some d → json_find.is_null j ≡ is_some (find.as_null d)
nulls json.null d e = ap (λ x. is_some (find.as_null x)) (Some_inj null d e)
nulls (json.boolean b) d e = ap (λ x. is_some (find.as_null x)) (Some_inj (boolean b) d e)
nulls (json.number s) d e = number_null (number_of s) d e
nulls (json.string s) d e = ap (λ x. is_some (find.as_null x)) (Some_inj (string s) d e)
nulls (json.array js) d e = array_null (of_items js) d e
nulls (json.object ms) d e = object_null (of_members ms no_members) d e

pub null_of_part : (ts : List Token) → IsPart ts → (r : Bool) → ((j : json.Json) → BeginsWith ts j → r ≡ json_find.is_null j)
    → r ≡ is_some (find.as_null (data_of ts))
null_of_part ts h r f = let p = part_json ts h in f p.0 p.1 ∙ nulls p.0 (data_of ts) p.2
