use Rattle.std.proofs.Common.{◌≡◌, ◌∙◌, ◌++◌, ◌∷◌, [], ℕ, List, sym, ap, subst}
use Rattle.vap_policy_verdict.specs.declared.verdict.Verdict.{Verdict}
use Rattle.vap_plane.specs.Answers.{AreRight}
use Rattle.vap_plane.proofs.Replies.{one_more}
use Rattle.vap_plane.proofs.messages.Answers.push.Goals as goal

pub invariant_of-self : goal.invariant_of-self
invariant_of-self g c = subst (AreRight g.B.Batch.told g.B.Batch.requests) (sym c.reserve.ensures.items) c.self.invariant

pub invariant_of-self-2 : goal.invariant_of-self-2
invariant_of-self-2 g c =
    let old = c.self.inside.verdicts.items in
    let whole : c.push_reserved.new.self.items ≡ old ++ (c.args.number, c.args.verdict) ∷ [] =
    c.push_reserved.ensures.items
    ∙ ap (λ (l : List (ℕ × Verdict)). l ++ (c.args.number, c.args.verdict) ∷ []) c.reserve.ensures.items in
    one_more g.B.Batch.told g.B.Batch.requests old c.push_reserved.new.self.items c.args.number c.args.verdict c.self.invariant c.requires
    whole
