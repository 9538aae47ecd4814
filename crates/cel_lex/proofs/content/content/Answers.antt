use Rattle.std.proofs.Common.{◌≡◌, ◌+◌, ◌-◌, ◌++◌, List, ℕ, length, take}
use Rattle.std.proofs.Common.{drop, string_bytes, sym, ap, subst, ◌∙◌, arith}
use Rattle.std.specs.Str.{IsCharBoundary}
use Rattle.std.proofs.lemmas.Str.{IsCharBoundary-start}
use Rattle.cel_lex.specs.Escapes.{meaning_of}
use Rattle.cel_lex.proofs.Meaning.{after, after_nothing}
use Rattle.cel_lex.proofs.ContentTurn.{escape_within, escape_cut, plain_within, plain_cut, bad_turn, escape_turn, plain_turn, all_read}
use Rattle.cel_lex.proofs.content.content.Goals as goal

pub loop-place-init : goal.loop-place-init
loop-place-init c =
    let bytes = c.as_bytes-bytes.result.now in
    record {
      within = omega arith;
      cut = IsCharBoundary-start bytes c.as_bytes-bytes.ensures.utf8;
      means = ap (λ (x : List ℕ). after x 0 (meaning_of 0 bytes)) c.new-out.ensures.bytes ∙ after_nothing (meaning_of 0 bytes);
    }

pub returns-in_default : goal.returns-in_default
returns-in_default c =
    bad_turn c.as_bytes-bytes.result.now c.loop-place.place c.loop-place-test.true (string_bytes c.loop-place.out)
    (meaning_of 0 c.args.body.now)
    (c.loop-place.invariant.means ∙ ap (meaning_of 0) c.as_bytes-bytes.ensures.value) c.if-bytes-place-eq92.true c.in_default.ensures

pub overflow_add-place : goal.overflow_add-place
overflow_add-place c =
    let short = ap length c.as_bytes-bytes.ensures.value in
    let w =
    escape_within c.as_bytes-bytes.result.now c.loop-place.place c.loop-place-test.true c.in-Some.count c.in-Some.character
    (sym c.in-Some.ensures) in
    omega arith

pub overflow_add-place-then-bytes-place-eq92 : goal.overflow_add-place-then-bytes-place-eq92
overflow_add-place-then-bytes-place-eq92 c =
    let short = ap length c.as_bytes-bytes.ensures.value in
    let w =
    escape_within c.as_bytes-bytes.result.now c.loop-place.place c.loop-place-test.true c.in-Some.count c.in-Some.character
    (sym c.in-Some.ensures) in
    omega arith

pub loop-place-preserved-then-bytes-place-eq92 : goal.loop-place-preserved-then-bytes-place-eq92
loop-place-preserved-then-bytes-place-eq92 c =
    let bytes = c.as_bytes-bytes.result.now in
    let place = c.loop-place.place in
    let lt = c.loop-place-test.true in
    let n = c.in-Some.count in
    let v = c.in-Some.character in
    let turn =
    escape_turn bytes place lt (string_bytes c.loop-place.out)
    (meaning_of 0 bytes) c.loop-place.invariant.means n v c.if-bytes-place-eq92.true (sym c.in-Some.ensures) in
    record {
      within = escape_within bytes place lt n v (sym c.in-Some.ensures);
      cut = escape_cut bytes place lt n v (sym c.in-Some.ensures) c.as_bytes-bytes.ensures.utf8;
      means = ap (λ (x : List ℕ). after x (place + (1 + n)) (meaning_of 0 (drop (place + (1 + n)) bytes))) c.in_ok-push.ensures.bytes
          ∙ turn;
    }

pub range-requires-clause-end_boundary : goal.range-requires-clause-end_boundary
range-requires-clause-end_boundary c =
    let bytes = c.as_bytes-bytes.result.now in
    subst (λ (x : List ℕ). IsCharBoundary x (c.loop-place.place + (1 + c.run_len-count.result))) c.as_bytes-bytes.ensures.value
    (plain_cut bytes c.loop-place.place c.loop-place-test.true c.run_len-count.result c.run_len-count.ensures.value
    c.as_bytes-bytes.ensures.utf8)

pub loop-place-preserved : goal.loop-place-preserved
loop-place-preserved c =
    let bytes = c.as_bytes-bytes.result.now in
    let place = c.loop-place.place in
    let lt = c.loop-place-test.true in
    let n = c.run_len-count.result in
    let is = c.run_len-count.ensures.value in
    let turn =
    plain_turn bytes place lt (string_bytes c.loop-place.out)
    (meaning_of 0 bytes) c.loop-place.invariant.means n c.if-bytes-place-eq92.false is in
    let slice : c.range.result.now ≡ take (1 + n) (drop place bytes) =
    c.range.ensures.value
    ∙ ap (λ (x : ℕ). take x (drop place c.args.body.now)) (let e : place + (1 + n) - place ≡ 1 + n = omega arith in e)
    ∙ ap (λ (x : List ℕ). take (1 + n) (drop place x)) (sym c.as_bytes-bytes.ensures.value) in
    record {
      within = plain_within bytes place lt n is;
      cut = plain_cut bytes place lt n is c.as_bytes-bytes.ensures.utf8;
      means = ap (λ (x : List ℕ). after x (place + (1 + n)) (meaning_of 0 (drop (place + (1 + n)) bytes)))
          (c.in_ok-push_str.ensures.bytes ∙ ap (λ (x : List ℕ). string_bytes c.loop-place.out ++ x) slice) ∙ turn;
    }

pub returns : goal.returns
returns c =
    let r =
    all_read c.as_bytes-bytes.result.now (string_bytes c.loop-place.out) c.loop-place.place
    (meaning_of 0 c.args.body.now) c.loop-place-test.false
    (c.loop-place.invariant.means ∙ ap (meaning_of 0) c.as_bytes-bytes.ensures.value) in
    let f = c.from_string.ensures in
    cc
