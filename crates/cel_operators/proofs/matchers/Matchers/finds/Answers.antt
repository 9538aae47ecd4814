use Rattle.std.proofs.Common.{◌∙◌, ap}
use Rattle.std.proofs.Math.Seq.{map-set_same}
use Rattle.cel_operators.specs.BuiltText.{built_text}
use Rattle.cel_operators.proofs.Places.{its_text}
use Rattle.cel_operators.proofs.matchers.Matchers.finds.Goals as goal

pub invariant_of-self : goal.invariant_of-self
invariant_of-self c = record {
  named = λ text. let m = c.place_of.new.self in
      rw (map-set_same built_text m.kept.items c.in_ok-place.place c.finds.new.self c.index_mut.result.now
      (c.finds.ensures.same ∙ ap built_text c.index_mut.ensures.value)) (m.named text);
}

pub returns-clause-found : goal.returns-clause-found
returns-clause-found c =
    let m = c.place_of.new.self in
    rw (its_text built_text m.kept.items c.in_ok-place.place c.index_mut.result.now c.args.pattern.now c.index_mut.ensures.value
    c.in_ok-place.ensures.place) at c.in_ok-finds.ensures.found

pub returns-clause-is_pattern : goal.returns-clause-is_pattern
returns-clause-is_pattern c =
    let m = c.place_of.new.self in
    rw (its_text built_text m.kept.items c.in_ok-place.place c.index_mut.result.now c.args.pattern.now c.index_mut.ensures.value
    c.in_ok-place.ensures.place) at c.index_mut.result.now.is_pattern
