-- The items and members of a part, a turn at a time.
use Rattle.std.proofs.Common.{◌≡◌, ℕ, suc, List, [], ◌∷◌, ◌++◌, length, Option, Some, None, option_map, option_and_then, Ordering}
use Rattle.std.proofs.Common.{Less, Equal, Greater, Bor, refl, sym, ap, ◌∙◌, subst}
use Rattle.std.specs.Prelude.{is_some, MatchOption}
use Rattle.serde_json.specs.Events.{items_len, members_len}
use Rattle.std.specs.Ordering.{nat_cmp, match_ordering}
use Rattle.std.specs.Cmp.Lexicographic.{slice_cmp}
use Rattle.std.specs.BTreeMap.{insert_entry}
use Rattle.json.specs.Token.{Token}
use Rattle.json.specs.Json as json
use Rattle.json.specs.Find as json_find
use Rattle.json.specs.Find.{BeginsWith, InItems, InMembers, NextItem, NextMember}
use Rattle.json.proofs.Found.{not_found, Some_inj}
use Rattle.serde_json.specs.Data.{Num, Data, null, boolean, number, string, array, object, Items, no_items, item, Members}
use Rattle.serde_json.specs.Data.{no_members, member, put}
use Rattle.serde_json.specs.Find as find
use Rattle.serde_json.specs.Read.{number_of, of_json, of_items, of_members}
use Rattle.base_containers.specs.Parts.{data_of, IsPart}
use Rattle.base_containers.specs.Gathered.{items_of, members_of}
use Rattle.base_containers.proofs.Lookups.{part_json, json_part}

-- ---- which form a part has

abbrev pub ItemsHere : Option (List Token) → Data → Type 0
ItemsHere None d = None ≡ find.as_array d
ItemsHere (Some ts) d = (js : json.Items) × (ds : Items) × InItems ts js × (of_items js ≡ Some ds) × (Some ds ≡ find.as_array d)

abbrev pub MembersHere : Option (List Token) → Data → Type 0
MembersHere None d = None ≡ find.as_object d
MembersHere (Some ts) d =
    (ms : json.Members) × (all : Members) × InMembers ts ms × (of_members ms no_members ≡ Some all) × (Some all ≡ find.as_object d)

array_same : (js : json.Items) (o : Option Items) (d : Data) → of_items js ≡ o → option_map array o ≡ Some d
    → (ds : Items) × (of_items js ≡ Some ds) × (Some ds ≡ find.as_array d)
array_same js None d is e = not_found d e
array_same js (Some ds) d is e = (ds, is, ap find.as_array (Some_inj (array ds) d e))

object_same : (ms : json.Members) (o : Option Members) (d : Data) → of_members ms no_members ≡ o → option_map object o ≡ Some d
    → (all : Members) × (of_members ms no_members ≡ Some all) × (Some all ≡ find.as_object d)
object_same ms None d is e = not_found d e
object_same ms (Some all) d is e = (all, is, ap find.as_object (Some_inj (object all) d e))

neither : (o : Option Num) (d : Data) → option_map number o ≡ Some d → (None ≡ find.as_array d) × (None ≡ find.as_object d)
neither None d e = not_found d e
neither (Some n) d e = let same = Some_inj (number n) d e in (ap find.as_array same, ap find.as_object same)

object_no_array : (o : Option Members) (d : Data) → option_map object o ≡ Some d → None ≡ find.as_array d
object_no_array None d e = not_found d e
object_no_array (Some ms) d e = ap find.as_array (Some_inj (object ms) d e)

array_no_object : (o : Option Items) (d : Data) → option_map array o ≡ Some d → None ≡ find.as_object d
array_no_object None d e = not_found d e
array_no_object (Some ds) d e = ap find.as_object (Some_inj (array ds) d e)

no_array : (j : json.Json) (d : Data) → of_json j ≡ Some d → json_find.as_array j ≡ None → None ≡ find.as_array d
no_array json.null d e f = ap find.as_array (Some_inj null d e)
no_array (json.boolean b) d e f = ap find.as_array (Some_inj (boolean b) d e)
no_array (json.number s) d e f = (neither (number_of s) d e).0
no_array (json.string s) d e f = ap find.as_array (Some_inj (string s) d e)
no_array (json.array js) d e f = not_found js (sym f)
no_array (json.object ms) d e f = object_no_array (of_members ms no_members) d e

no_object : (j : json.Json) (d : Data) → of_json j ≡ Some d → json_find.as_object j ≡ None → None ≡ find.as_object d
no_object json.null d e f = ap find.as_object (Some_inj null d e)
no_object (json.boolean b) d e f = ap find.as_object (Some_inj (boolean b) d e)
no_object (json.number s) d e f = (neither (number_of s) d e).1
no_object (json.string s) d e f = ap find.as_object (Some_inj (string s) d e)
no_object (json.array js) d e f = array_no_object (of_items js) d e
no_object (json.object ms) d e f = not_found ms (sym f)

pub items_here : (ts : List Token) → IsPart ts → (r : Option (List Token))
    → ((j : json.Json) → BeginsWith ts j
    → MatchOption r (json_find.as_array j ≡ None) (λ rest. (js : json.Items) × (j ≡ json.array js) × InItems rest js))
    → ItemsHere r (data_of ts)
items_here ts h None f = let p = part_json ts h in no_array p.0 (data_of ts) p.2 (f p.0 p.1)
items_here ts h (Some rest) f =
    let p = part_json ts h in
    let g = f p.0 p.1 in
    let s = array_same g.0 (of_items g.0) (data_of ts) refl (subst (λ j. of_json j ≡ Some (data_of ts)) g.1 p.2) in
    (g.0, s.0, g.2, s.1, s.2)

pub members_here : (ts : List Token) → IsPart ts → (r : Option (List Token))
    → ((j : json.Json) → BeginsWith ts j
    → MatchOption r (json_find.as_object j ≡ None) (λ rest. (ms : json.Members) × (j ≡ json.object ms) × InMembers rest ms))
    → MembersHere r (data_of ts)
members_here ts h None f = let p = part_json ts h in no_object p.0 (data_of ts) p.2 (f p.0 p.1)
members_here ts h (Some rest) f =
    let p = part_json ts h in
    let g = f p.0 p.1 in
    let s = object_same g.0 (of_members g.0 no_members) (data_of ts) refl (subst (λ j. of_json j ≡ Some (data_of ts)) g.1 p.2) in
    (g.0, s.0, g.2, s.1, s.2)

-- ---- items, one after the other

-- documents before more items
abbrev pub before : List Data → Items → Items
before [] rest = rest
before (d ∷ ds) rest = item d (before ds rest)

pub before_all : (ds : List Data) → before ds no_items ≡ items_of ds
before_all [] = refl
before_all (d ∷ ds) = ap (item d) (before_all ds)

pub before_push : (ds : List Data) (d : Data) (rest : Items) → before ds (item d rest) ≡ before (ds ++ d ∷ []) rest
before_push [] d rest = refl
before_push (e ∷ ds) d rest = ap (item e) (before_push ds d rest)

-- the state of gathering items: of all items, those of these tokens are left, after those that were found
abbrev pub ItemsLeft : List Token → List Data → Items → Type 0
ItemsLeft ts found all = (js : json.Items) × (rest : Items) × InItems ts js × (of_items js ≡ Some rest) × (all ≡ before found rest)

first_item : (j : json.Json) (js : json.Items) (o : Option Data) (rest : Items) → of_json j ≡ o
    → option_and_then (λ d. option_map (item d) (of_items js)) o ≡ Some rest
    → (d : Data) × (of_json j ≡ Some d) × (option_map (item d) (of_items js) ≡ Some rest)
first_item j js None rest is e = not_found rest e
first_item j js (Some d) rest is e = (d, is, e)

other_items : (d : Data) (js : json.Items) (o : Option Items) (rest : Items) → of_items js ≡ o → option_map (item d) o ≡ Some rest
    → (more : Items) × (of_items js ≡ Some more) × (item d more ≡ rest)
other_items d js None rest is e = not_found rest e
other_items d js (Some more) rest is e = (more, is, Some_inj (item d more) rest e)

pub items_turn : (old ts new : List Token) (found : List Data) (all : Items) → ItemsLeft old found all → NextItem old (Some ts) new
    → IsPart ts × ItemsLeft new (found ++ data_of ts ∷ []) all
items_turn old ts new found all l next =
    let n = next l.0 l.2 in
    let f = first_item n.0 n.1 (of_json n.0) l.1 refl (ap of_items (sym n.2) ∙ l.3) in
    let o = other_items f.0 n.1 (of_items n.1) l.1 refl f.2 in
    let part = json_part ts n.0 f.0 n.3 f.1 in (
      part.0,
      (
        n.1,
        o.0,
        n.4,
        o.1,
        l.4 ∙ ap (before found) (sym o.2) ∙ before_push found f.0 o.0 ∙ ap (λ d. before (found ++ d ∷ []) o.0) (sym part.1),
      ),
    )

pub items_end : (old new : List Token) (found : List Data) (all : Items) → ItemsLeft old found all → NextItem old None new
    → all ≡ items_of found
items_end old new found all l next =
    let none : l.0 ≡ json.no_items = next l.0 l.2 in
    l.4 ∙ ap (before found) (sym (Some_inj no_items l.1 (ap of_items (sym none) ∙ l.3))) ∙ before_all found

-- ---- members, one after the other

-- the state of gathering members
abbrev pub MembersLeft : List Token → Members → Members → Type 0
MembersLeft ts found all = (ms : json.Members) × InMembers ts ms × (of_members ms found ≡ Some all)

first_member : (k : List ℕ) (j : json.Json) (ms : json.Members) (found all : Members) (o : Option Data) → of_json j ≡ o
    → option_and_then (λ d. of_members ms (put k d found)) o ≡ Some all
    → (d : Data) × (of_json j ≡ Some d) × (of_members ms (put k d found) ≡ Some all)
first_member k j ms found all None is e = not_found all e
first_member k j ms found all (Some d) is e = (d, is, e)

pub members_turn : (old ts new : List Token) (k : List ℕ) (found all : Members) → MembersLeft old found all
    → NextMember old (Some (k, ts)) new
    → IsPart ts × MembersLeft new (put k (data_of ts) found) all
members_turn old ts new k found all l next =
    let n = next l.0 l.1 in
    let f = first_member k n.0 n.1 found all (of_json n.0) refl (ap (λ ms. of_members ms found) (sym n.2) ∙ l.2) in
    let part = json_part ts n.0 f.0 n.3 f.1 in
    (part.0, (n.1, n.4, subst (λ d. of_members n.1 (put k d found) ≡ Some all) (sym part.1) f.2))

pub members_end : (old new : List Token) (found all : Members) → MembersLeft old found all → NextMember old None new → found ≡ all
members_end old new found all l next =
    let none : l.0 ≡ json.no_members = next l.0 l.1 in
    Some_inj found all (ap (λ ms. of_members ms found) (sym none) ∙ l.2)

-- ---- what an entry is put into

same_place : (o : Ordering) (a b c : List (Bor (List ℕ) × Data))
    → members_of (match_ordering o a b c) ≡ match_ordering o (members_of a) (members_of b) (members_of c)
same_place Less a b c = refl
same_place Equal a b c = refl
same_place Greater a b c = refl

pub members_put : (cmp : Bor (List ℕ) → Bor (List ℕ) → Ordering) → ((a b : Bor (List ℕ)) → cmp a b ≡ slice_cmp nat_cmp a.now b.now)
    → (es : List (Bor (List ℕ) × Data)) (k : Bor (List ℕ)) (d : Data) → members_of (insert_entry cmp es k d) ≡ put k.now d (members_of es)
members_put cmp is [] k d = refl
members_put cmp is (e ∷ es) k d =
    same_place (cmp k e.0) ((k, d) ∷ e ∷ es) ((e.0, d) ∷ es) (e ∷ insert_entry cmp es k d)
    ∙ ap (λ o. match_ordering o (member k.now d (member e.0.now e.1 (members_of es))) (member e.0.now d (members_of es))
    (member e.0.now e.1 (members_of (insert_entry cmp es k d)))) (is k e.0)
    ∙ ap (λ ms. match_ordering (slice_cmp nat_cmp k.now e.0.now) (member k.now d (member e.0.now e.1 (members_of es)))
    (member e.0.now d (members_of es)) (member e.0.now e.1 ms)) (members_put cmp is es k d)

-- ---- how many there are

pub items_len-items_of : (ds : List Data) → items_len (items_of ds) ≡ length ds
items_len-items_of [] = refl
items_len-items_of (d ∷ ds) = ap suc (items_len-items_of ds)

pub members_len-members_of : (es : List (Bor (List ℕ) × Data)) → members_len (members_of es) ≡ length es
members_len-members_of [] = refl
members_len-members_of (e ∷ es) = ap suc (members_len-members_of es)

-- ---- whether it is an object

pub object_here : (r : Option (List Token)) (d : Data) → MembersHere r d → is_some r ≡ is_some (find.as_object d)
object_here None d h = ap is_some h
object_here (Some ts) d h = ap is_some h.4
