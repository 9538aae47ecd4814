use Rattle.std.proofs.Common.{◌≡◌, ◌≢◌, ℕ, zero, suc, ◌-◌, List, ◌++◌, Ok}
use Rattle.std.proofs.Common.{length, take, drop, refl, sym, ap, ◌∙◌, append_assoc, take-append-drop}
use Rattle.std.proofs.lemmas.List.{take_rest}
use Rattle.std.specs.contracts.io.Error.{the_row}
use Rattle.std.proofs.KnownBytes.{Appends-trans}
use Rattle.base_containers.specs.Counted.{failures_after_write}
use Rattle.base_containers.proofs.counted.CountedWrite.write_all.Goals as goal

-- a list whose end moves by n places
moves_front : (all done rest : List ℕ) (n : ℕ) → all ≡ done ++ rest
    → all ≡ (done ++ take n rest) ++ take (length rest - n) (drop n rest)
moves_front all done rest n e =
    e ∙ ap (λ l. done ++ l) (sym (take-append-drop n rest)) ∙ sym (append_assoc done (take n rest) (drop n rest))
    ∙ ap (λ l. (done ++ take n rest) ++ l) (sym (take_rest rest n))

-- a write that takes some bytes has not failed
counts_none : (E : Type 0) (old size taken : ℕ) → taken ≢ 0 → failures_after_write {E = E} old size (Ok taken) ≡ old
counts_none E old zero taken h = refl
counts_none E old (suc size) zero h = absurd (h refl)
counts_none E old (suc size) (suc taken) h = refl

pub loop-rest-preserved : goal.loop-rest-preserved
loop-rest-preserved g c =
    let (done, split, appended) = c.loop-rest.invariant.written in
    let rest = c.loop-rest.rest.now in
    let taken = c.in_ok-taken.taken in
    record {
      written = (
        done ++ take taken rest,
        moves_front _ done rest taken split,
        Appends-trans _ _ _ _ _ appended
            c.in_ok-taken.ensures.bytes,
      );
      counts = c.in_ok-taken.ensures.counts ∙ counts_none (the_row.Denot) _ _ _ c.if-taken-eq0.false ∙ c.loop-rest.invariant.counts;
    }
