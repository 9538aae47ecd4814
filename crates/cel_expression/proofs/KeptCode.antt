-- What is kept when an instruction is put or patched, or a constant interned.
use Rattle.std.proofs.Common.{◌≡◌, ℕ, ◌+◌, ◌≤◌, [], ◌∷◌, ◌++◌, length, sym, ap, arith, length-append}
use Rattle.std.specs.Prelude.{slice_get}
use Rattle.std.proofs.Math.ListN.{length-set}
use Rattle.cel_value.specs.declared.value.Value.{Value}
use Rattle.cel_code.specs.declared.instr.Instr.{Instr}
use Rattle.cel_expression.specs.Placed.{Code, with_instr, patched, Interns, Has, Keeps}
use Rattle.cel_expression.proofs.Elements.{get_last, get_kept}
use Rattle.cel_expression.proofs.SameCode.{narrow, same_on, same_put, same_before}

pub length_put : (c : Code) (i : Instr) → length (with_instr c i).instrs ≡ length c.instrs + 1
length_put c i = omega (arith, length-append c.instrs (i ∷ []))

pub keeps_put : (c : Code) (i : Instr) → Keeps c (with_instr c i)
keeps_put c i = record { grows = omega (arith, length_put c i); same = same_put c i }

pub keeps_on : (a b c : Code) → Keeps a b → Keeps b c → Keeps a c
keeps_on a b c k l =
    record { grows = omega (arith, k.grows, l.grows); same = same_on a b c 0 _ k.same (narrow b c 0 _ 0 _ l.same (omega arith) k.grows) }

pub keeps_patched : (a b : Code) (m : ℕ) (i : Instr) → length a.instrs ≤ m → Keeps a b → Keeps a (patched b m i)
keeps_patched a b m i le k =
    record {
      grows = omega (arith, k.grows, length-set b.instrs m i);
      same =
          same_on a b (patched b m i) 0 _ k.same (narrow b _ 0 m 0 _ (same_before b m i) (omega arith) le);
    }

pub has_put : (c : Code) (i : Instr) → Has (with_instr c i) (length c.instrs) i
has_put c i = record { is = get_last c.instrs i }

pub interned : (old new : Code) (v w : Value) (number : ℕ) → w ≡ v → number ≡ length old.constants
    → new.constants ≡ old.constants ++ w ∷ [] → new.instrs ≡ old.instrs → Interns old new v number
interned old new v w number same last added code =
    let added : new.constants ≡ old.constants ++ v ∷ [] = rw (sym same) added in
    rw last
    (record { instrs = code; constant = rw added (get_last old.constants v); kept = λ k x h. rw added (get_kept old.constants v k x h) })

pub keeps_interned : (old new : Code) (v : Value) (k : ℕ) → Interns old new v k → Keeps old new
keeps_interned old new v k n =
    record {
      grows = omega (arith, ap length n.instrs);
      same =
          record { instr = λ i p q. ap (λ is. slice_get is i) n.instrs; constant = n.kept };
    }
