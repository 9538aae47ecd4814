-- A text whose tokens are accepted is read, and no other.
use Rattle.std.proofs.Common.{◌≡◌, ℕ, zero, suc, ◌+◌, ◌-◌, ◌<◌, ◌≤◌, max, ◌&&◌, nat_lt, nat_le, List, [], ◌∷◌, ◌++◌, length, Bool}
use Rattle.std.proofs.Common.{true, false, Option, Some, None, option_map, option_and_then, is_some, refl, sym, ap, ap₂, ◌∙◌}
use Rattle.std.proofs.Common.{subst, arith, append_assoc, append-nil, true≢false, map, drop, get_or, if◌then◌else◌}
use Rattle.std.specs.Prelude.{IsSome, unwrap_or}
use Rattle.std.specs.List.{list_all}
use Rattle.json.specs.Token.{Token}
use Rattle.json.specs.Lex.{tokens}
use Rattle.json.specs.Json as json
use Rattle.json.specs.Json.{value, if_last, document}
use Rattle.json.specs.Tree as tree
use Rattle.json.specs.Tree.{json_tokens, items_tokens, members_tokens}
use Rattle.json.proofs.Found.{not_found, Some_inj, one_reading}
use Rattle.json.proofs.Nesting.{value-depth}
use Rattle.json.proofs.Printed.Trees.{value-json_tokens}
use Rattle.json.proofs.Unique.Spelling.{value-json_tokens_back, tokens-document}
use Rattle.serde_json.specs.Data.{Data, Items, Members, item, put, no_members}
use Rattle.serde_json.specs.Read.{number_of, of_json, of_items, of_members, read}
use Rattle.json.specs.declared.tape.Node.{Node}
use Rattle.json.specs.Tape.{node_token}
use Rattle.std.proofs.lemmas.List.{length-map, drop_all, drop_more, get_or-map}
use Rattle.base_containers.specs.Accepted.{is_read, is_read_node, is_within, room_after}
use Rattle.base_containers.specs.Parts.{IsPart, data_of}
use Rattle.base_containers.specs.Texts.{data_in, Opens}
use Rattle.base_containers.proofs.Lookups.{json_part, there}

-- ---- numbers

mapped : {A B : Type 0} (f : A → B) (o : Option A) → is_some (option_map f o) ≡ is_some o
mapped f None = refl
mapped f (Some a) = refl

and_assoc : (a b c : Bool) → (a && (b && c)) ≡ ((a && b) && c)
and_assoc true b c = refl
and_assoc false b c = refl

and_true : (a : Bool) → (a && true) ≡ a
and_true true = refl
and_true false = refl

and_false : (a : Bool) → (a && false) ≡ false
and_false true = refl
and_false false = refl

all_append : (xs ys : List Token) → list_all is_read (xs ++ ys) ≡ (list_all is_read xs && list_all is_read ys)
all_append [] ys = refl
all_append (x ∷ xs) ys = ap (λ b. is_read x && b) (all_append xs ys) ∙ and_assoc (is_read x) _ _

then_some : {A B : Type 0} (f : A → Option B) (b : Bool) (o : Option A) → ((a : A) → is_some (f a) ≡ b)
    → is_some (option_and_then f o) ≡ (is_some o && b)
then_some f b None h = refl
then_some f b (Some a) h = h a

mutual
  json_read : (j : json.Json) → is_some (of_json j) ≡ list_all is_read (json_tokens j)
  json_read json.null = refl
  json_read (json.boolean b) = refl
  json_read (json.number s) = mapped _ (number_of s) ∙ sym (and_true (is_some (number_of s)))
  json_read (json.string s) = refl
  json_read (json.array js) = mapped _ (of_items js) ∙ items_read js
  json_read (json.object ms) = mapped _ (of_members ms no_members) ∙ members_read ms no_members

  items_read : (js : json.Items) → is_some (of_items js) ≡ list_all is_read (items_tokens js)
  items_read json.no_items = refl
  items_read (json.item j js) =
      then_some _ (list_all is_read (items_tokens js)) (of_json j) (λ d. mapped (item d) (of_items js) ∙ items_read js)
      ∙ ap (λ b. b && list_all is_read (items_tokens js)) (json_read j) ∙ sym (all_append (json_tokens j) (items_tokens js))

  members_read : (ms : json.Members) (found : Members) → is_some (of_members ms found) ≡ list_all is_read (members_tokens ms)
  members_read json.no_members found = refl
  members_read (json.member k j ms) found =
      then_some _ (list_all is_read (members_tokens ms)) (of_json j) (λ d. members_read ms (put k d found))
      ∙ ap (λ b. b && list_all is_read (members_tokens ms)) (json_read j) ∙ sym (all_append (json_tokens j) (members_tokens ms))

-- ---- levels

le_max : (a b n : ℕ) → nat_le (max a b) n ≡ (nat_le a n && nat_le b n)
le_max a b n = grind arith

opens_one : (k n : ℕ) (b : Bool) → (nat_lt 0 n && (nat_le k (n - 1) && b)) ≡ (nat_le (suc k) n && b)
opens_one k n b = grind arith

nothing_left : (k : ℕ) (b : Bool) → false ≡ (nat_le (suc k) 0 && b)
nothing_left k b = grind arith

no_level : (n : ℕ) (b : Bool) → b ≡ (nat_le 0 n && b)
no_level n b = grind arith

one_back : (k n : ℕ) (ts : List Token)
    → (nat_lt 0 n && (nat_le k (n - 1) && is_within (n - 1 + 1) ts)) ≡ (nat_le (suc k) n && is_within n ts)
one_back k zero ts = nothing_left k _
one_back k (suc n) ts =
    let same : suc n - 1 + 1 ≡ suc n = omega arith in
    ap (λ m. nat_lt 0 (suc n) && (nat_le k (suc n - 1) && is_within m ts)) same ∙ opens_one k (suc n) _

both : (a b n : ℕ) (c : Bool) → (nat_le a n && (nat_le b n && c)) ≡ (nat_le (max a b) n && c)
both a b n c = and_assoc (nat_le a n) (nat_le b n) c ∙ ap (λ x. x && c) (sym (le_max a b n))

mutual
  json_within : (j : json.Json) (n : ℕ) (rest : List Token)
      → is_within n (json_tokens j ++ rest) ≡ (nat_le (tree.depth j) n && is_within n rest)
  json_within json.null n rest = no_level n _
  json_within (json.boolean b) n rest = no_level n _
  json_within (json.number s) n rest = no_level n _
  json_within (json.string s) n rest = no_level n _
  json_within (json.array js) n rest = ap (λ b. nat_lt 0 n && b) (items_within js (n - 1) rest) ∙ one_back (tree.items_depth js) n rest
  json_within (json.object ms) n rest = ap (λ b. nat_lt 0 n && b) (members_within ms (n - 1) rest) ∙ one_back (tree.members_depth ms) n rest

  items_within : (js : json.Items) (n : ℕ) (rest : List Token)
      → is_within n (items_tokens js ++ rest) ≡ (nat_le (tree.items_depth js) n && is_within (n + 1) rest)
  items_within json.no_items n rest = no_level n _
  items_within (json.item j js) n rest =
      ap (is_within n) (append_assoc (json_tokens j) (items_tokens js) rest) ∙ json_within j n (items_tokens js ++ rest)
      ∙ ap (λ b. nat_le (tree.depth j) n && b) (items_within js n rest) ∙ both (tree.depth j) (tree.items_depth js) n _

  members_within : (ms : json.Members) (n : ℕ) (rest : List Token)
      → is_within n (members_tokens ms ++ rest) ≡ (nat_le (tree.members_depth ms) n && is_within (n + 1) rest)
  members_within json.no_members n rest = no_level n _
  members_within (json.member k j ms) n rest =
      ap (is_within n) (append_assoc (json_tokens j) (members_tokens ms) rest) ∙ json_within j n (members_tokens ms ++ rest)
      ∙ ap (λ b. nat_le (tree.depth j) n && b) (members_within ms n rest) ∙ both (tree.depth j) (tree.members_depth ms) n _

-- ---- whole texts

abbrev pub last : Option (json.Json × List Token) → Option json.Json
last o = option_and_then (λ p. if_last p.0 p.1) o

-- what is read with fewer levels is read with more
more_levels : (ts : List Token) (o : Option (json.Json × List Token)) → value 127 ts ≡ o → last (value 128 ts) ≡ None → last o ≡ None
more_levels ts None is e = refl
more_levels ts (Some p) is e =
    let spelled = value-json_tokens_back 127 ts p.1 p.0 is in
    let deep : tree.depth p.0 ≤ 128 = omega (arith, value-depth 127 ts p.1 p.0 is) in
    let whole : value 128 ts ≡ Some p = ap (value 128) spelled ∙ value-json_tokens p.0 128 p.1 deep in
    ap last (sym whole) ∙ e

pub not_read : (text : List ℕ) → document text ≡ None → read text ≡ None
not_read text e = ap (option_and_then of_json) (more_levels (tokens text) (value 127 (tokens text)) refl e)

is_last : (o : Option (json.Json × List Token)) (j : json.Json) → last o ≡ Some j → o ≡ Some (j, [])
is_last None j e = not_found j e
is_last (Some (i, [])) j e = ap (λ x. Some (x, [])) (Some_inj i j e)
is_last (Some (i, t ∷ ts)) j e = not_found j e

shallow : (ts : List Token) (j : json.Json) → ts ≡ json_tokens j → tree.depth j ≤ 127 → last (value 127 ts) ≡ Some j
shallow ts j is h = ap last (ap (value 127) (is ∙ sym (append-nil (json_tokens j))) ∙ value-json_tokens j 127 [] h)

deep_none : (ts : List Token) (j : json.Json) (o : Option (json.Json × List Token)) → value 127 ts ≡ o → value 128 ts ≡ Some (j, [])
    → 127 < tree.depth j → last o ≡ None
deep_none ts j None is e h = refl
deep_none ts j (Some p) is e h =
    let same : Some p ≡ Some (j, []) = one_reading 127 128 ts p (j, []) is e in
    let shown : tree.depth j ≤ 127 = value-depth 127 ts [] j (is ∙ same) in
    absurd (omega (arith, shown, h))

by_depth : (text : List ℕ) (j : json.Json) (b : Bool) → nat_le (tree.depth j) 127 ≡ b → document text ≡ Some j
    → is_some (read text) ≡ (is_some (of_json j) && b)
by_depth text j true is e =
    let h : tree.depth j ≤ 127 = grind (arith, is) in
    ap (λ o. is_some (option_and_then of_json o)) (shallow (tokens text) j (tokens-document text j e) h)
    ∙ sym (and_true (is_some (of_json j)))
by_depth text j false is e =
    let h : 127 < tree.depth j = grind (arith, is) in
    ap (λ o. is_some (option_and_then of_json o))
    (deep_none (tokens text) j (value 127 (tokens text)) refl (is_last (value 128 (tokens text)) j e) h)
    ∙ sym (and_false (is_some (of_json j)))

-- whether a text is read is decided by its tokens
pub is_accepted : (text : List ℕ) (j : json.Json) → document text ≡ Some j
    → (list_all is_read (tokens text) && is_within 127 (tokens text)) ≡ is_some (read text)
is_accepted text j e =
    let is = tokens-document text j e in
    let numbers : list_all is_read (tokens text) ≡ is_some (of_json j) = ap (list_all is_read) is ∙ sym (json_read j) in
    let levels : is_within 127 (tokens text) ≡ nat_le (tree.depth j) 127 =
    ap (is_within 127) (is ∙ sym (append-nil (json_tokens j))) ∙ json_within j 127 [] ∙ and_true (nat_le (tree.depth j) 127) in
    ap₂ (λ a b. a && b) numbers levels ∙ sym (by_depth text j (nat_le (tree.depth j) 127) refl e)

read_by : (o : Option (json.Json × List Token)) (d : Data) → option_and_then of_json (last o) ≡ Some d
    → (j : json.Json) × (of_json j ≡ Some d) × (o ≡ Some (j, []))
read_by None d e = not_found d e
read_by (Some (j, [])) d e = (j, e, refl)
read_by (Some (j, t ∷ ts)) d e = not_found d e

-- the data of a text is that at which its tokens begin
pub read_json : (text : List ℕ) (d : Data) → read text ≡ Some d
    → (j : json.Json) × (of_json j ≡ Some d) × (value 127 (tokens text) ≡ Some (j, []))
read_json text d e = read_by (value 127 (tokens text)) d e

-- ---- a node at a time

here : (ns : List Node) (i : ℕ) (d : Node) → i < length ns
    → drop i (map node_token ns) ≡ node_token (get_or ns i d) ∷ drop (i + 1) (map node_token ns)
here ns i d h =
    drop_more (map node_token ns) i (node_token d) (omega (arith, length-map ns node_token))
    ∙ ap (λ t. t ∷ drop (i + 1) (map node_token ns)) (get_or-map node_token ns i d (node_token d) h)

-- the nodes that are left say the rest
pub read_goes : (ns : List Node) (i : ℕ) (d : Node) → i < length ns → is_read_node (get_or ns i d) ≡ true
    → list_all is_read_node (drop i ns) ≡ list_all is_read_node (drop (i + 1) ns)
read_goes ns i d h e = ap (list_all is_read_node) (drop_more ns i d h) ∙ ap (λ b. b && list_all is_read_node (drop (i + 1) ns)) e

pub read_stops : (ns : List Node) (i : ℕ) (d : Node) → i < length ns → is_read_node (get_or ns i d) ≡ false
    → list_all is_read_node (drop i ns) ≡ false
read_stops ns i d h e = ap (list_all is_read_node) (drop_more ns i d h) ∙ ap (λ b. b && list_all is_read_node (drop (i + 1) ns)) e

pub read_over : (ns : List Node) (i : ℕ) → length ns ≤ i → list_all is_read_node (drop i ns) ≡ true
read_over ns i h = ap (list_all is_read_node) (drop_all i ns h)

pub all_nodes : (ns : List Node) → list_all is_read (map node_token ns) ≡ list_all is_read_node ns
all_nodes [] = refl
all_nodes (n ∷ ns) = ap (λ b. is_read (node_token n) && b) (all_nodes ns)

opened : (n : ℕ) (ts : List Token) (b : Bool)
    → (b && is_within (n - 1) ts) ≡ unwrap_or (option_map (λ m. is_within m ts) (if b then Some (n - 1) else None)) false
opened n ts true = refl
opened n ts false = refl

-- a token takes or gives a level
pub one_token : (n : ℕ) (t : Token) (ts : List Token)
    → is_within n (t ∷ ts) ≡ unwrap_or (option_map (λ m. is_within m ts) (room_after n t)) false
one_token n Token.begin_object ts = opened n ts (nat_lt 0 n)
one_token n Token.end_object ts = refl
one_token n Token.begin_array ts = opened n ts (nat_lt 0 n)
one_token n Token.end_array ts = refl
one_token n (Token.key s) ts = refl
one_token n (Token.string s) ts = refl
one_token n (Token.number s) ts = refl
one_token n (Token.boolean b) ts = refl
one_token n Token.null ts = refl
one_token n Token.bad ts = refl

-- the levels that are left after a node
pub node_goes : (ns : List Node) (d : Node) (i room left : ℕ) (n : Node) → i < length ns → n ≡ get_or ns i d
    → room_after room (node_token n) ≡ Some left
    → is_within room (drop i (map node_token ns)) ≡ is_within left (drop (i + 1) (map node_token ns))
node_goes ns d i room left n h is e =
    ap (is_within room) (here ns i d h ∙ ap (λ x. node_token x ∷ drop (i + 1) (map node_token ns)) (sym is))
    ∙ one_token room (node_token n) (drop (i + 1) (map node_token ns))
    ∙ ap (λ o. unwrap_or (option_map (λ m. is_within m (drop (i + 1) (map node_token ns))) o) false) e

pub node_stops : (ns : List Node) (d : Node) (i room : ℕ) (n : Node) → i < length ns → n ≡ get_or ns i d
    → room_after room (node_token n) ≡ None
    → is_within room (drop i (map node_token ns)) ≡ false
node_stops ns d i room n h is e =
    ap (is_within room) (here ns i d h ∙ ap (λ x. node_token x ∷ drop (i + 1) (map node_token ns)) (sym is))
    ∙ one_token room (node_token n) (drop (i + 1) (map node_token ns))
    ∙ ap (λ o. unwrap_or (option_map (λ m. is_within m (drop (i + 1) (map node_token ns))) o) false) e

pub nodes_over : (ns : List Node) (i room : ℕ) → length ns ≤ i → is_within room (drop i (map node_token ns)) ≡ true
nodes_over ns i room h =
    let none : drop i (map node_token ns) ≡ [] = drop_all i (map node_token ns) (omega (arith, length-map ns node_token)) in
    ap (is_within room) none

some_document : (o : Option json.Json) → IsSome o → (j : json.Json) × (o ≡ Some j)
some_document None h = absurd (true≢false (sym h))
some_document (Some j) h = (j, refl)

pub which : (text : List ℕ) → IsSome (document text) → (j : json.Json) × (document text ≡ Some j)
which text h = some_document (document text) h

-- ---- a text as a tape

-- the tokens of a text that is read begin with its data
pub tokens_part : (text : List ℕ) (d : Data) → read text ≡ Some d → IsPart (tokens text) × (data_of (tokens text) ≡ d)
tokens_part text d e = let j = read_json text d e in json_part (tokens text) j.0 d (127, [], j.2) j.1

-- whether a text is read is decided by the nodes of its tape
pub nodes_accepted : (text : List ℕ) (nodes : List Node) → map node_token nodes ≡ tokens text → IsSome (document text)
    → (list_all is_read_node nodes && is_within 127 (map node_token nodes)) ≡ is_some (read text)
nodes_accepted text nodes same h =
    let j = which text h in
    ap (λ b. b && is_within 127 (map node_token nodes)) (sym (all_nodes nodes))
    ∙ ap (λ ts. list_all is_read ts && is_within 127 ts) same ∙ is_accepted text j.0 j.1

pub opens : (text : List ℕ) (ts : List Token) → ts ≡ tokens text → is_some (read text) ≡ true → Opens (read text) (Some ts)
opens text ts is h =
    let e = there (read text) h in
    let p = tokens_part text (data_in text) e in
    subst (λ x. Opens (read text) (Some x)) (sym is) (p.0, e ∙ ap Some (sym p.1))

pub opens_not : (o : Option Data) → is_some o ≡ false → o ≡ None
opens_not None h = refl
opens_not (Some d) h = absurd (true≢false h)
