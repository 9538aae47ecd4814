-- What is read of a text in UTF-8 is in UTF-8, each text and each name.
use Rattle.std.proofs.Common.{nat_eq}
use Rattle.std.proofs.Common.{◌≡◌, ℕ, ◌+◌, ◌-◌, Bool, true, false, cond, ◌&&◌, ◌==◌, List}
use Rattle.std.proofs.Common.{[], ◌∷◌, ◌++◌, length, drop, append_assoc, Option, Some}
use Rattle.std.proofs.Common.{None, option_map, option_and_then, Ordering, Less, Equal, Greater, nat_cmp, true≢false, refl, sym}
use Rattle.std.proofs.Common.{ap, ◌∙◌, subst, arith}
use Rattle.std.proofs.lemmas.Bool.{eqb-true}
use Rattle.std.specs.Cmp.Lexicographic.{slice_cmp}
use Rattle.std.specs.List.{AllByRecursion, starts_with}
use Rattle.std.specs.Ordering.{match_ordering}
use Rattle.std.specs.Str.{IsUtf8}
use Rattle.json.specs.Ascii as ascii
use Rattle.json.specs.Json as json
use Rattle.json.specs.Lex.{Lexeme, Class, Mode, Place, lex, lex_byte, class, operator_lexeme, string_token, punctuate}
use Rattle.json.specs.Lex.{place_token, if_allowed, may_begin, may_close, begins_colon, tokens}
use Rattle.json.specs.Text.{content, Within}
use Rattle.json.specs.Token.{Token}
use Rattle.json.specs.Tree.{json_tokens, items_tokens, members_tokens}
use Rattle.json.specs.Word.{word, literal, head, ends_word, number_before, after_number, is_operator, is_space}
use Rattle.json.proofs.Found.{not_found, Some_inj}
use Rattle.json.proofs.Unique.Spelling.{value-json_tokens_back}
use Rattle.serde_json.specs.Data as spec
use Rattle.serde_json.specs.Data.{Num, Data, Items, Members, put}
use Rattle.serde_json.specs.Read.{number_of, of_json, of_items, of_members, read}
use Rattle.base_containers.proofs.Accepts.{read_json}
use Rattle.base_containers.proofs.Escapes.{after, in_plain}

-- each text is UTF-8, and each name of a member
abbrev mutual
  pub IsSpelled : Data → Type 0
  IsSpelled spec.null = Unit {0}
  IsSpelled (spec.boolean b) = Unit {0}
  IsSpelled (spec.number n) = Unit {0}
  IsSpelled (spec.string s) = IsUtf8 s
  IsSpelled (spec.array ds) = AreSpelled ds
  IsSpelled (spec.object ms) = AreNamed ms

  pub AreSpelled : Items → Type 0
  AreSpelled spec.no_items = Unit {0}
  AreSpelled (spec.item d ds) = IsSpelled d × AreSpelled ds

  pub AreNamed : Members → Type 0
  AreNamed spec.no_members = Unit {0}
  AreNamed (spec.member k d ms) = IsUtf8 k × IsSpelled d × AreNamed ms

-- ---- tokens

abbrev IsSpelledToken : Token → Type 0
IsSpelledToken (Token.key s) = IsUtf8 s
IsSpelledToken (Token.string s) = IsUtf8 s
IsSpelledToken Token.begin_object = Unit {0}
IsSpelledToken Token.end_object = Unit {0}
IsSpelledToken Token.begin_array = Unit {0}
IsSpelledToken Token.end_array = Unit {0}
IsSpelledToken (Token.number s) = Unit {0}
IsSpelledToken (Token.boolean b) = Unit {0}
IsSpelledToken Token.null = Unit {0}
IsSpelledToken Token.bad = Unit {0}

abbrev Spelled : List Token → Type 0
Spelled ts = AllByRecursion IsSpelledToken ts

either_token : (b : Bool) (s t : Token) → IsSpelledToken s → IsSpelledToken t → IsSpelledToken (cond b s t)
either_token true s t h k = h
either_token false s t h k = k

number_spelled : (t : List ℕ) (o : Option (List ℕ)) → IsSpelledToken (number_before t o)
number_spelled t None = tt
number_spelled t (Some rest) = either_token _ (Token.number _) Token.bad tt tt

literal_spelled : (name : List ℕ) (token : Token) (t : List ℕ) → IsSpelledToken token → IsSpelledToken (literal name token t)
literal_spelled name token t h = either_token (starts_with nat_eq t name && ends_word (drop (length name) t)) token Token.bad h tt

word_spelled : (t : List ℕ) → IsSpelledToken (word t)
unfolding word
word_spelled t =
    let number = number_before t (after_number t) in
    let null = literal ascii.null_text Token.null t in
    let no = literal ascii.false_text (Token.boolean false) t in
    let yes = literal ascii.true_text (Token.boolean true) t in
    either_token (head t == ascii.lower_t) yes (cond (head t == ascii.lower_f) no (cond (head t == ascii.lower_n) null number))
    (literal_spelled ascii.true_text (Token.boolean true) t tt)
    (either_token (head t == ascii.lower_f) no (cond (head t == ascii.lower_n) null number)
    (literal_spelled ascii.false_text (Token.boolean false) t tt)
    (either_token (head t == ascii.lower_n) null number (literal_spelled ascii.null_text Token.null t tt)
    (number_spelled t (after_number t))))

abbrev IsSpelledLexeme : Lexeme → Type 0
IsSpelledLexeme (Lexeme.token t) = IsSpelledToken t
IsSpelledLexeme Lexeme.comma = Unit {0}
IsSpelledLexeme Lexeme.colon = Unit {0}

operator_by : (a b c d e : Bool) → IsSpelledLexeme (cond a (Lexeme.token Token.begin_object)
    (cond b (Lexeme.token Token.end_object) (cond c (Lexeme.token Token.begin_array)
    (cond d (Lexeme.token Token.end_array) (cond e Lexeme.comma Lexeme.colon)))))
operator_by true b c d e = tt
operator_by false true c d e = tt
operator_by false false true d e = tt
operator_by false false false true e = tt
operator_by false false false false true = tt
operator_by false false false false false = tt

operator_spelled : (x : ℕ) → IsSpelledLexeme (operator_lexeme x)
operator_spelled x =
    operator_by (x == ascii.open_brace) (x == ascii.close_brace) (x == ascii.open_bracket) (x == ascii.close_bracket) (x == ascii.comma)

-- the rest of a text
abbrev IsTail : List ℕ → Type 0
IsTail xs = (p : List ℕ) × IsUtf8 (p ++ xs)

tail_next : (x : ℕ) (xs : List ℕ) → IsTail (x ∷ xs) → IsTail xs
tail_next x xs t = (t.0 ++ x ∷ [], subst IsUtf8 (sym (append_assoc t.0 (x ∷ []) xs)) t.1)

abbrev is_quote : Class → Bool
is_quote Class.quote = true
is_quote Class.backslash = false
is_quote Class.operator = false
is_quote Class.space = false
is_quote Class.other = false

no_quote : (a b c : Bool) → is_quote (cond a Class.backslash (cond b Class.operator (cond c Class.space Class.other))) ≡ false
no_quote true b c = refl
no_quote false true c = refl
no_quote false false true = refl
no_quote false false false = refl

quote_is : (x : ℕ) → class x ≡ Class.quote → x ≡ 34
quote_is x h = by (x == 34) refl h
  where
    by : (b : Bool) → (x == 34) ≡ b
        → cond b Class.quote (cond (x == 92) Class.backslash
        (cond (is_operator x) Class.operator (cond (is_space x) Class.space Class.other))) ≡ Class.quote
        → x ≡ 34
    by true is e = eqb-true x 34 is
    by false is e = absurd (true≢false (sym (ap is_quote e) ∙ no_quote (x == 92) (is_operator x) (is_space x)))

string_spelled : (xs : List ℕ) (o : Option (List ℕ)) → IsUtf8 xs → content Within.plain xs ≡ o → IsSpelledToken (string_token o)
string_spelled xs None u e = tt
string_spelled xs (Some s) u e = in_plain [] xs s u e

abbrev AreLexed : List Lexeme → Type 0
AreLexed ls = AllByRecursion IsSpelledLexeme ls

byte_spelled : (m : Mode) (c : Class) (x : ℕ) (xs : List ℕ) (k : Mode → List Lexeme) → IsTail (x ∷ xs) → class x ≡ c
    → ((next : Mode) → AreLexed (k next)) → AreLexed (lex_byte m c x xs k)
byte_spelled Mode.between Class.quote x xs k t is h =
    let behind = after t.0 xs x t.1 (omega (arith, quote_is x is)) in
    (string_spelled xs (content Within.plain xs) behind refl, h Mode.in_string)
byte_spelled Mode.between Class.backslash x xs k t is h = (tt, h Mode.in_word)
byte_spelled Mode.between Class.operator x xs k t is h = (operator_spelled x, h Mode.between)
byte_spelled Mode.between Class.space x xs k t is h = h Mode.between
byte_spelled Mode.between Class.other x xs k t is h = (word_spelled (x ∷ xs), h Mode.in_word)
byte_spelled Mode.in_word Class.quote x xs k t is h = h Mode.in_word
byte_spelled Mode.in_word Class.backslash x xs k t is h = h Mode.in_word
byte_spelled Mode.in_word Class.operator x xs k t is h = (operator_spelled x, h Mode.between)
byte_spelled Mode.in_word Class.space x xs k t is h = h Mode.between
byte_spelled Mode.in_word Class.other x xs k t is h = h Mode.in_word
byte_spelled Mode.in_string Class.quote x xs k t is h = h Mode.between
byte_spelled Mode.in_string Class.backslash x xs k t is h = h Mode.in_escape
byte_spelled Mode.in_string Class.operator x xs k t is h = h Mode.in_string
byte_spelled Mode.in_string Class.space x xs k t is h = h Mode.in_string
byte_spelled Mode.in_string Class.other x xs k t is h = h Mode.in_string
byte_spelled Mode.in_escape c x xs k t is h = h Mode.in_string

lex_spelled : (m : Mode) (xs : List ℕ) → IsTail xs → AreLexed (lex m xs)
unfolding lex
lex_spelled m [] t = tt
lex_spelled m (x ∷ xs) t =
    byte_spelled m (class x) x xs (λ next. lex next xs) t refl (λ next. lex_spelled next xs (tail_next x xs t))

allowed_spelled : (b : Bool) (t : Token) (k : Place → List Token) (next : Place) → IsSpelledToken t → Spelled (k next)
    → Spelled (if_allowed b t k next)
allowed_spelled true t k next h rest = (h, rest)
allowed_spelled false t k next h rest = (tt, tt)

place_spelled : (p : Place) (t : Token) (b : Bool) (k : Place → List Token) → IsSpelledToken t → ((next : Place) → Spelled (k next))
    → Spelled (place_token p t b k)
place_spelled p Token.begin_object b k h rest = allowed_spelled (may_begin p) Token.begin_object k Place.fresh tt (rest Place.fresh)
place_spelled p Token.end_object b k h rest = allowed_spelled (may_close p) Token.end_object k Place.after_value tt (rest Place.after_value)
place_spelled p Token.begin_array b k h rest = allowed_spelled (may_begin p) Token.begin_array k Place.fresh tt (rest Place.fresh)
place_spelled p Token.end_array b k h rest = allowed_spelled (may_close p) Token.end_array k Place.after_value tt (rest Place.after_value)
place_spelled p (Token.key s) b k h rest = (tt, tt)
place_spelled p (Token.string s) true k h rest = allowed_spelled (may_begin p) (Token.key s) k Place.after_key h (rest Place.after_key)
place_spelled p (Token.string s) false k h rest =
    allowed_spelled (may_begin p) (Token.string s) k Place.after_value h (rest Place.after_value)
place_spelled p (Token.number s) b k h rest = allowed_spelled (may_begin p) (Token.number s) k Place.after_value tt (rest Place.after_value)
place_spelled p (Token.boolean v) b k h rest =
    allowed_spelled (may_begin p) (Token.boolean v) k Place.after_value tt (rest Place.after_value)
place_spelled p Token.null b k h rest = allowed_spelled (may_begin p) Token.null k Place.after_value tt (rest Place.after_value)
place_spelled p Token.bad b k h rest = (tt, tt)

punctuate_spelled : (p : Place) (ls : List Lexeme) → AreLexed ls → Spelled (punctuate p ls)
unfolding punctuate
punctuate_spelled Place.fresh [] h = tt
punctuate_spelled Place.after_value [] h = tt
punctuate_spelled Place.after_comma [] h = (tt, tt)
punctuate_spelled Place.after_key [] h = (tt, tt)
punctuate_spelled Place.fresh (Lexeme.token t ∷ ls) h =
    place_spelled Place.fresh t (begins_colon ls) (λ next. punctuate next ls) h.0 (λ next. punctuate_spelled next ls h.1)
punctuate_spelled Place.after_value (Lexeme.token t ∷ ls) h =
    place_spelled Place.after_value t (begins_colon ls) (λ next. punctuate next ls) h.0 (λ next. punctuate_spelled next ls h.1)
punctuate_spelled Place.after_comma (Lexeme.token t ∷ ls) h =
    place_spelled Place.after_comma t (begins_colon ls) (λ next. punctuate next ls) h.0 (λ next. punctuate_spelled next ls h.1)
punctuate_spelled Place.after_key (Lexeme.token t ∷ ls) h =
    place_spelled Place.after_key t (begins_colon ls) (λ next. punctuate next ls) h.0 (λ next. punctuate_spelled next ls h.1)
punctuate_spelled Place.fresh (Lexeme.comma ∷ ls) h = (tt, tt)
punctuate_spelled Place.after_value (Lexeme.comma ∷ ls) h = punctuate_spelled Place.after_comma ls h.1
punctuate_spelled Place.after_comma (Lexeme.comma ∷ ls) h = (tt, tt)
punctuate_spelled Place.after_key (Lexeme.comma ∷ ls) h = (tt, tt)
punctuate_spelled Place.fresh (Lexeme.colon ∷ ls) h = (tt, tt)
punctuate_spelled Place.after_value (Lexeme.colon ∷ ls) h = (tt, tt)
punctuate_spelled Place.after_comma (Lexeme.colon ∷ ls) h = (tt, tt)
punctuate_spelled Place.after_key (Lexeme.colon ∷ ls) h = punctuate_spelled Place.fresh ls h.1

tokens_spelled : (text : List ℕ) → IsUtf8 text → Spelled (tokens text)
tokens_spelled text u = punctuate_spelled Place.fresh (lex Mode.between text) (lex_spelled Mode.between text ([], u))

-- ---- data

number_said : (o : Option Num) (d : Data) → option_map spec.number o ≡ Some d → IsSpelled d
number_said None d e = not_found d e
number_said (Some n) d e = subst IsSpelled (Some_inj (spec.number n) d e) tt

module _ (A B : Type 0) where
  array_step : (o : Option Items) (d : Data) → ((ds : Items) → o ≡ Some ds → AreSpelled ds × B) → option_map spec.array o ≡ Some d
      → IsSpelled d × B
  array_step None d f e = not_found d e
  array_step (Some ds) d f e = let g = f ds refl in (subst IsSpelled (Some_inj (spec.array ds) d e) g.0, g.1)

  object_step : (o : Option Members) (d : Data) → ((ms : Members) → o ≡ Some ms → AreNamed ms × B) → option_map spec.object o ≡ Some d
      → IsSpelled d × B
  object_step None d f e = not_found d e
  object_step (Some ms) d f e = let g = f ms refl in (subst IsSpelled (Some_inj (spec.object ms) d e) g.0, g.1)

  item_step : (o : Option Data) (q : Option Items) (ds : Items) → ((d : Data) → o ≡ Some d → IsSpelled d × A)
      → ((more : Items) → A → q ≡ Some more → AreSpelled more × B) → option_and_then (λ d. option_map (spec.item d) q) o ≡ Some ds
      → AreSpelled ds × B
  item_step None q ds f g e = not_found ds e
  item_step (Some d) None ds f g e = not_found ds e
  item_step (Some d) (Some more) ds f g e =
      let first = f d refl in
      let rest = g more first.1 refl in
      (subst AreSpelled (Some_inj (spec.item d more) ds e) (first.0, rest.0), rest.1)

  member_step : (o : Option Data) (put_in : Data → Option Members) (all : Members) → ((d : Data) → o ≡ Some d → IsSpelled d × A)
      → ((d : Data) → IsSpelled d → A → put_in d ≡ Some all → AreNamed all × B) → option_and_then put_in o ≡ Some all → AreNamed all × B
  member_step None put_in all f g e = not_found all e
  member_step (Some d) put_in all f g e = let first = f d refl in g d first.0 first.1 e

put_step : (o : Ordering) (k l : List ℕ) (d e : Data) (ms rest : Members) → IsUtf8 k → IsSpelled d → AreNamed (spec.member l e ms)
    → AreNamed rest
    → AreNamed (match_ordering o (spec.member k d (spec.member l e ms)) (spec.member l d ms) (spec.member l e rest))
put_step Less k l d e ms rest u s n m = (u, s, n)
put_step Equal k l d e ms rest u s n m = (n.0, s, n.2)
put_step Greater k l d e ms rest u s n m = (n.0, n.1, m)

put_named : (k : List ℕ) (d : Data) (ms : Members) → IsUtf8 k → IsSpelled d → AreNamed ms → AreNamed (put k d ms)
put_named k d spec.no_members u s n = (u, s, tt)
put_named k d (spec.member l e ms) u s n = put_step (slice_cmp nat_cmp k l) k l d e ms (put k d ms) u s n (put_named k d ms u s n.2)

mutual
  json_spelled : (j : json.Json) (rest : List Token) (d : Data) → Spelled (json_tokens j ++ rest) → of_json j ≡ Some d
      → IsSpelled d × Spelled rest
  json_spelled json.null rest d h e = (subst IsSpelled (Some_inj spec.null d e) tt, h.1)
  json_spelled (json.boolean b) rest d h e = (subst IsSpelled (Some_inj (spec.boolean b) d e) tt, h.1)
  json_spelled (json.number s) rest d h e = (number_said (number_of s) d e, h.1)
  json_spelled (json.string s) rest d h e = (subst IsSpelled (Some_inj (spec.string s) d e) h.0, h.1)
  json_spelled (json.array js) rest d h e =
      array_step (Unit {0}) (Spelled rest) (of_items js) d (λ ds i. items_spelled js rest ds h.1 i) e
  json_spelled (json.object ms) rest d h e =
      object_step (Unit {0}) (Spelled rest) (of_members ms spec.no_members) d
      (λ all i. members_spelled ms rest spec.no_members all tt h.1 i) e

  items_spelled : (js : json.Items) (rest : List Token) (ds : Items) → Spelled (items_tokens js ++ rest) → of_items js ≡ Some ds
      → AreSpelled ds × Spelled rest
  items_spelled json.no_items rest ds h e = (subst AreSpelled (Some_inj spec.no_items ds e) tt, h.1)
  items_spelled (json.item j js) rest ds h e =
      item_step (Spelled (items_tokens js ++ rest)) (Spelled rest) (of_json j) (of_items js) ds
      (λ d i. json_spelled j (items_tokens js ++ rest) d (subst Spelled (append_assoc (json_tokens j) (items_tokens js) rest) h) i)
      (λ more k i. items_spelled js rest more k i) e

  members_spelled : (ms : json.Members) (rest : List Token) (found all : Members) → AreNamed found → Spelled (members_tokens ms ++ rest)
      → of_members ms found ≡ Some all → AreNamed all × Spelled rest
  members_spelled json.no_members rest found all n h e = (subst AreNamed (Some_inj found all e) n, h.1)
  members_spelled (json.member k j ms) rest found all n h e =
      member_step (Spelled (members_tokens ms ++ rest)) (Spelled rest) (of_json j) (λ d. of_members ms (put k d found)) all
      (λ d i. json_spelled j (members_tokens ms ++ rest) d (subst Spelled (append_assoc (json_tokens j) (members_tokens ms) rest) h.1) i)
      (λ d s a i. members_spelled ms rest (put k d found) all (put_named k d found h.0 s n) a i) e

-- the data of a text in UTF-8
pub read_spelled : (text : List ℕ) (d : Data) → IsUtf8 text → read text ≡ Some d → IsSpelled d
read_spelled text d u e =
    let j = read_json text d e in
    let same = value-json_tokens_back 127 (tokens text) [] j.0 j.2 in
    (json_spelled j.0 [] d (subst Spelled same (tokens_spelled text u)) j.1).0
