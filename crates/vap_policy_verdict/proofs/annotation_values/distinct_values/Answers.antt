use Rattle.std.proofs.Common.{◌≡◌, true, false, [], ◌∷◌, ◌++◌, ◌∙◌, bytes_eq, rules, arith}
use Rattle.std.proofs.lemmas.Grind.{common_steps}
use Rattle.std.specs.List.{list_any}
use Rattle.vap_policy_verdict.specs.DecisionAnnotations.{values_at}
use Rattle.vap_policy_verdict.proofs.Once.{noted, noted_at, nothing_noted, one_noted, same_noted, other_noted}
use Rattle.vap_policy_verdict.proofs.annotation_values.distinct_values.Goals as goal
use Rattle.vap_policy_verdict.proofs.annotation_values.distinct_values.Goals.{then-eq+then-not-contains+in_ok-copy+in_ok-push, else-eq}
use Rattle.vap_policy_verdict.proofs.annotation_values.distinct_values.Goals.{else-eq-via-then-eq+else-not-contains, else-eq-via-else-eq}

pub loop-entry-init : goal.loop-entry-init
loop-entry-init c = rw c.new-texts.ensures.items (nothing_noted (values_at c.args.key.now c.args.entries.now))

pub loop-entry-preserved : goal.loop-entry-preserved
loop-entry-preserved c =
    let l = c.loop-entry in
    let key = c.args.key.now in
    let e = c.entry-item.result in
    let ts = l.texts.items in
    let more : c.if-eq.texts.items ≡ noted key ts e =
    elim c.if-eq.branch [
      | then-eq+then-not-contains+in_ok-copy+in_ok-push w ↦
          let own : bytes_eq e.key key ≡ true = first_of (search rules, grind (arith, common_steps)) in
          let new : list_any (bytes_eq e.value) ts ≡ false = first_of (search rules, grind (arith, common_steps)) in
          let same : c.if-eq.texts.items ≡ ts ++ e.value ∷ [] = first_of (search rules, grind (arith, common_steps)) in
          same ∙ one_noted key ts e own new
      | else-eq w ↦
          let same : c.if-eq.texts.items ≡ ts = first_of (search rules, grind (arith, common_steps)) in
          elim w.else-eq.branch [
            | else-eq-via-then-eq+else-not-contains v ↦
                let there : list_any (bytes_eq e.value) ts ≡ true = first_of (search rules, grind (arith, common_steps)) in
                same ∙ same_noted key ts e there
            | else-eq-via-else-eq v ↦
                let other : bytes_eq e.key key ≡ false = first_of (search rules, grind (arith, common_steps)) in
                same ∙ other_noted key ts e other
          ]
    ] in
    noted_at key ts c.if-eq.texts.items c.args.entries.now l.entry-index e c.loop-entry-test.true c.entry-item.is more l.invariant
