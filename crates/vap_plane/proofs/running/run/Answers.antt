use Rattle.std.proofs.Common.{◌≡◌, ◌∙◌, ◌<◌, ℕ, length, sym, ap, subst, rules}
use Rattle.std.specs.Prelude.{slice_index_or}
use Rattle.vap_plane.proofs.Replies.{all_answered}
use Rattle.vap_plane.proofs.There.{written}
use Rattle.vap_plane.proofs.running.run.Goals as goal

pub returns-clause-answers : goal.returns-clause-answers
returns-clause-answers g c =
    let len : c.len-count.result ≡ length c.args.round.requests.items = search rules in
    all_answered g.B.Batch.told g.B.Batch.requests c.len-count.result c.in_ok-collected.collected.answers.items
    c.in_ok-verdicts.verdicts.items (len ∙ ap length c.requires.batch.0) c.in_ok-verdicts.ensures c.in_ok-collected.ensures

-- the workers are written back whole
pub returns-clause-same : goal.returns-clause-same
returns-clause-same g c = λ k w lt.
    let old = c.args.workers.now in
    let is = c.as_mut_slice.ensures.value in
    let count : old.len ≡ length old.items = sym c.as_mut_slice.ensures.len ∙ ap length is in
    let many : length c.serve_each.new.workers ≡ length old.items = c.serve_each.ensures.workers ∙ ap length is in
    let inside : k < length c.as_mut_slice.result.now = subst (λ (n : ℕ). k < n) (sym c.as_mut_slice.ensures.len) lt in
    ap (λ ws. (slice_index_or ws k w).reader.board) (written old.len c.serve_each.new.workers old.items many count)
    ∙ (c.serve_each.ensures.same k w inside ∙ ap (λ ws. (slice_index_or ws k w).reader.board) is)
