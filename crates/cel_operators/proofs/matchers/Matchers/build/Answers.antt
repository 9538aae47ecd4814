use Rattle.std.proofs.Common.{arith, ◌≡◌, [], ◌∷◌, length, string_bytes}
use Rattle.std.specs.BTreeMap.{get_by_text}
use Rattle.std.proofs.lemmas.Map.Text.{btree_map_updates_text}
use Rattle.std.proofs.lemmas.List.{map-append, length-map}
use Rattle.cel_operators.specs.BuiltText.{built_text}
use Rattle.cel_operators.specs.KeptPatterns.{texts_of}
use Rattle.cel_operators.proofs.Places.{named_last, get_end}
use Rattle.cel_operators.proofs.matchers.Matchers.build.Goals as goal

pub invariant_of-self-2 : goal.invariant_of-self-2
invariant_of-self-2 c = record {
  named = λ text. let key = string_bytes c.in_ok-key.key in
      let old = c.args.self.now in
      let sets = btree_map_updates_text key old.places c.insert.new.self _ c.in_ok-insert.ensures.updates text in
      let at : c.len-place.result ≡ length (texts_of old) =
      omega (arith, old.kept.ok.0, c.len-place.ensures, length-map old.kept.items built_text) in
      rw (
        c.push_reserved.ensures.items,
        c.reserve.ensures.items,
        map-append built_text old.kept.items (c.in_ok-built.built ∷ []),
        c.in_ok-built.ensures.text,
      )
      (named_last (texts_of old) c.args.pattern.now (get_by_text old.places text) _ c.len-place.result text
      (rw c.in_ok-key.ensures.ok at sets) at (old.named text));
}

pub returns-clause-place : goal.returns-clause-place
returns-clause-place c =
    let old = c.args.self.now in
    let at : c.len-place.result ≡ length (texts_of old) =
    omega (arith, old.kept.ok.0, c.len-place.ensures, length-map old.kept.items built_text) in
    rw (
      c.push_reserved.ensures.items,
      c.reserve.ensures.items,
      map-append built_text old.kept.items (c.in_ok-built.built ∷ []),
      c.in_ok-built.ensures.text,
    )
    (get_end (texts_of old) c.args.pattern.now c.len-place.result at)

-- if memory runs out, what was built is dropped
pub invariant_of-built : goal.invariant_of-built
invariant_of-built c =
    let p = c.in_ok-built.built.program in
    record {
      implements = p.implements;
      suits = p.suits;
      signed = p.signed;
      starts = p.starts;
      ends = p.ends;
      no_shorter =
          p.no_shorter;
      no_longer = p.no_longer;
    }
