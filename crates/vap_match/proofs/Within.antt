-- What is read of a review without a fault is within the limits.
use Rattle.std.proofs.Common.{◌≡◌, ℕ, suc, ◌≤◌, Bool, true, false, not, cond, ◌&&◌, nat_le, List, [], length, Option}
use Rattle.std.proofs.Common.{None, Some, is_some, unwrap_or, option_and_then, codes, refl, ap, sym, subst, arith, true≢false}
use Rattle.std.proofs.lemmas.Bool.{and_parts, leb-true}
use Rattle.std.proofs.lemmas.Str.{chars-nil, IsUtf8-nil}
use Rattle.std.specs.Prelude.{IfSome}
use Rattle.std.specs.List.{AllByRecursion}
use Rattle.std.specs.Str.{chars, IsUtf8}
use Rattle.serde_json.specs.Data as json
use Rattle.serde_json.specs.Data.{Data, Items, Members}
use Rattle.serde_json.specs.Events.{items_len, members_len}
use Rattle.serde_json.specs.Find.{get}
use Rattle.serde_json.specs.Read.{read}
use Rattle.base_containers.proofs.Spelled.{AreNamed, AreSpelled, IsSpelled, read_spelled}
use Rattle.vap_match.specs.Forms.{absent_or, all_items, there_and}
use Rattle.vap_match.specs.TextLimits.{is_short, short_at}
use Rattle.vap_match.specs.Parts.{each_item, items_in, items_of, text_in, text_of}
use Rattle.base_containers.specs.declared.text.Keyed.{Keyed}
use Rattle.vap_match.specs.Faults.{least_fault}
use Rattle.vap_match.specs.ReviewLimits.{all_short, are_short, is_short_map, is_short_request, is_short_review, is_short_user_info}
use Rattle.vap_match.specs.ReviewLimits.{is_short_versioned}
use Rattle.vap_match.specs.RequestReading.{admission_from, asked, lists_in, lists_under}
use Rattle.vap_match.specs.Reviews.{is_request, is_review}
use Rattle.vap_match.specs.Within.{AreTexts, IsEntry, IsText, IsUserInfo, IsWithin}
use Rattle.vap_match.specs.declared.review_fault.ReviewFault.{ReviewFault}
use Rattle.vap_match.specs.declared.review_fault.ReviewFault.TheVariants.{BadReview, OverLimit}
use Rattle.vap_match.proofs.Spelled.{found_spelled, items_spelled_in, items_spelled_of, text_spelled, text_spelled_in}

-- ---- texts

short_text : (most : ℕ) (text : List ℕ) → IsUtf8 text → is_short most text ≡ true → IsText most text
short_text most text u h = record { spelled = u; short = leb-true (length (chars text)) most h }

no_text : (most : ℕ) → IsText most []
no_text most = record { spelled = IsUtf8-nil; short = rw chars-nil (omega arith) }

text_at : (most : ℕ) (name : List ℕ) (d : Data) → IsSpelled d → short_at most name d ≡ true → IsText most (text_in (get name d))
text_at most name d s h = short_text most (text_in (get name d)) (text_spelled_in (get name d) (found_spelled name d s)) h

each_text : (ds : Items) → AreSpelled ds → all_items (λ d. is_short 1024 (text_of d)) ds ≡ true
    → AllByRecursion (IsText 1024) (each_item text_of ds)
each_text json.no_items s h = tt
each_text (json.item d ds) s h =
    let p = and_parts (is_short 1024 (text_of d)) (all_items (λ e. is_short 1024 (text_of e)) ds) h in
    (short_text 1024 (text_of d) (text_spelled d s.0) p.0, each_text ds s.1 p.1)

as_many : (ds : Items) → length (each_item text_of ds) ≡ items_len ds
as_many json.no_items = refl
as_many (json.item d ds) = ap suc (as_many ds)

texts : (ds : Items) → AreSpelled ds → are_short ds ≡ true → AreTexts (each_item text_of ds)
texts ds s h =
    let p = and_parts (nat_le (items_len ds) 1024) (all_items (λ d. is_short 1024 (text_of d)) ds) h in
    record { few = subst (λ n. n ≤ 1024) (sym (as_many ds)) (leb-true (items_len ds) 1024 p.0); short = each_text ds s p.1 }

no_texts : AreTexts []
no_texts = record { few = omega arith; short = tt }

-- ---- texts under names

each_entry : (ms : Members) → AreNamed ms → all_short ms ≡ true → AllByRecursion IsEntry (lists_under ms)
each_entry json.no_members s h = tt
each_entry (json.member k d ms) s h =
    let p = and_parts (is_short 1024 k && are_short (items_of d)) (all_short ms) h in
    let q = and_parts (is_short 1024 k) (are_short (items_of d)) p.0 in (
      record { key = short_text 1024 k s.0 q.0; value = texts (items_of d) (items_spelled_of d s.1) q.1 },
      each_entry ms s.2 p.1,
    )

as_many_under : (ms : Members) → length (lists_under ms) ≡ members_len ms
as_many_under json.no_members = refl
as_many_under (json.member k d ms) = ap suc (as_many_under ms)

abbrev AreEntries : List (Keyed (List (List ℕ))) → Type 0
AreEntries es = (length es ≤ 1024) × AllByRecursion IsEntry es

no_entries : AreEntries []
no_entries = (omega arith, tt)

entries_of : (d : Data) → IsSpelled d → is_short_map d ≡ true → AreEntries (lists_in (Some d))
entries_of json.null s h = no_entries
entries_of (json.boolean b) s h = no_entries
entries_of (json.number n) s h = no_entries
entries_of (json.string t) s h = no_entries
entries_of (json.array ds) s h = no_entries
entries_of (json.object ms) s h =
    let p = and_parts (nat_le (members_len ms) 1024) (all_short ms) h in
    (subst (λ n. n ≤ 1024) (sym (as_many_under ms)) (leb-true (members_len ms) 1024 p.0), each_entry ms s p.1)

entries : (o : Option Data) → IfSome o IsSpelled → absent_or is_short_map o ≡ true → AreEntries (lists_in o)
entries None s h = no_entries
entries (Some d) s h = entries_of d s h

-- ---- the parts of a request

three : (a b c : Bool) → (a && b && c) ≡ true → (a ≡ true) × (b ≡ true) × (c ≡ true)
three a b c h =
    let p = and_parts (a && b) c h in
    let q = and_parts a b p.0 in
    (q.0, q.1, p.1)

four : (a b c d : Bool) → (a && b && c && d) ≡ true → (a ≡ true) × (b ≡ true) × (c ≡ true) × (d ≡ true)
four a b c d h =
    let p = and_parts (a && b && c) d h in
    let q = three a b c p.0 in
    (q.0, q.1, q.2, p.1)

-- the text of a member of a member
abbrev inner : List ℕ → Option Data → List ℕ
inner name o = text_in (option_and_then (get name) o)

versioned : (last : List ℕ) (o : Option Data) → IfSome o IsSpelled → absent_or (is_short_versioned last) o ≡ true
    → IsText 253 (inner (codes "group") o) × IsText 253 (inner (codes "version") o) × IsText 253 (inner last o)
versioned last None s h = (no_text 253, no_text 253, no_text 253)
versioned last (Some d) s h =
    let p = three (short_at 253 (codes "group") d) (short_at 253 (codes "version") d) (short_at 253 last d) h in
    (text_at 253 (codes "group") d s p.0, text_at 253 (codes "version") d s p.1, text_at 253 last d s p.2)

user : (o : Option Data) → IfSome o IsSpelled → absent_or is_short_user_info o ≡ true
    → IsUserInfo (record {
      username = inner (codes "username") o;
      uid = inner (codes "uid") o;
      groups = each_item text_of (items_in (option_and_then (get (codes "groups")) o));
      extra = lists_in (option_and_then (get (codes "extra")) o);
    })
user None s h = record {
  username = no_text 1024;
  uid = no_text 1024;
  groups = no_texts;
  few = no_entries.0;
  extra = no_entries.1;
}
user (Some d) s h =
    let groups = get (codes "groups") d in
    let extra = get (codes "extra") d in
    let p = four (short_at 1024 (codes "username") d) (short_at 1024 (codes "uid") d) (are_short (items_in groups))
    (absent_or is_short_map extra) h in
    let told = entries extra (found_spelled (codes "extra") d s) p.3 in
    record {
      username = text_at 1024 (codes "username") d s p.0;
      uid = text_at 1024 (codes "uid") d s p.1;
      groups = texts (items_in groups) (items_spelled_in groups (found_spelled (codes "groups") d s)) p.2;
      few = told.0;
      extra = told.1;
    }

-- ---- the request

-- the tests of a request, one after the other
record Tests (a b c d e f g h : Bool) : Type 0 where
  uid : a ≡ true
  kind : b ≡ true
  resource : c ≡ true
  operation : d ≡ true
  name : e ≡ true
  namespace : f ≡ true
  sub_resource : g ≡ true
  user_info : h ≡ true

all_tests : (a b c d e f g h : Bool) → (a && b && c && d && e && f && g && h) ≡ true → Tests a b c d e f g h
all_tests a b c d e f g h t =
    let last = and_parts (a && b && c && d && e && f && g) h t in
    let later = three (a && b && c && d && e) f g last.0 in
    let fifth = and_parts (a && b && c && d) e later.0 in
    let first = four a b c d fifth.0 in
    record {
      uid = first.0;
      kind = first.1;
      resource = first.2;
      operation = first.3;
      name = fifth.1;
      namespace = later.1;
      sub_resource = later.2;
      user_info = last.1;
    }

request_within : (review : Data) (d : Data) → IsSpelled d → is_short_request d ≡ true → IsWithin (admission_from review d)
request_within review d s h =
    let kind_at = get (codes "kind") d in
    let resource_at = get (codes "resource") d in
    let user_at = get (codes "userInfo") d in
    let t =
    all_tests (short_at 253 (codes "uid") d) (absent_or (is_short_versioned (codes "kind")) kind_at)
    (absent_or (is_short_versioned (codes "resource")) resource_at) (short_at 7 (codes "operation") d) (short_at 253 (codes "name") d)
    (short_at 253 (codes "namespace") d) (short_at 253 (codes "subResource") d) (absent_or is_short_user_info user_at) h in
    let kind = versioned (codes "kind") kind_at (found_spelled (codes "kind") d s) t.kind in
    let resource = versioned (codes "resource") resource_at (found_spelled (codes "resource") d s) t.resource in
    record {
      uid = text_at 253 (codes "uid") d s t.uid;
      kind = record { group = kind.0; version = kind.1; kind = kind.2 };
      resource = record { group = resource.0; version = resource.1; resource = resource.2 };
      sub_resource = text_at 253 (codes "subResource") d s t.sub_resource;
      name = text_at 253 (codes "name") d s t.name;
      namespace = text_at 253 (codes "namespace") d s t.namespace;
      operation = text_at 7 (codes "operation") d s t.operation;
      user_info = user user_at (found_spelled (codes "userInfo") d s) t.user_info;
    }

asked_within : (review : Data) (d : Data) (o : Option Data) → IfSome o IsSpelled → there_and is_request o ≡ true
    → absent_or is_short_request o ≡ true → IsWithin (admission_from review (unwrap_or o d))
asked_within review d None s form limits = absurd (true≢false (sym form))
asked_within review d (Some q) s form limits = request_within review q s limits

-- if neither of two faults is found, both tests were passed
passed : (x y : ReviewFault) (a b : Bool) → cond (not a) (Some x) (cond (not b) (Some y) None) ≡ None → (a ≡ true) × (b ≡ true)
passed x y true true h = (refl, refl)
passed x y true false h = absurd (true≢false (ap is_some h))
passed x y false b h = absurd (true≢false (ap is_some h))

pub read_within : (text : List ℕ) (review : Data) → IsUtf8 text → read text ≡ Some review → least_fault review ≡ None
    → IsWithin (admission_from review (asked review))
read_within text review u is h =
    let p = passed BadReview OverLimit (is_review review) (is_short_review review) h in
    let named = found_spelled (codes "request") review (read_spelled text review u is) in
    asked_within review review (get (codes "request") review) named p.0 p.1
