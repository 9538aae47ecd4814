-- Instructions stay where they were put.
use Rattle.std.proofs.Common.{◌≡◌, ℕ, ◌+◌, [], length, sym, subst}
use Rattle.cel_check.specs.declared.tree.TypedTree.{TypedTree}
use Rattle.cel_code.specs.declared.instr.Instr.TheVariants.{End}
use Rattle.cel_expression.specs.Placed.{Code, with_instr, Has, Stands, Emits}
use Rattle.cel_expression.proofs.SameCode.{same_put, moved}
use Rattle.cel_expression.proofs.KeptCode.{length_put, has_put}
pub use Rattle.cel_expression.proofs.Elements.{get_before, get_last, get_kept, contains_at}
pub use Rattle.cel_expression.proofs.KeptCode.{interned}
pub use Rattle.cel_expression.proofs.OperandCode.{emits_literal, emits_slot, emits_unary, emits_binary, emits_none, emits_first}
pub use Rattle.cel_expression.proofs.OperandCode.{emits_items}
pub use Rattle.cel_expression.proofs.OperandCode.{emits_entries, emits_with_text, emits_local}
pub use Rattle.cel_expression.proofs.BranchCode.{emits_both, emits_either, emits_conditional}
pub use Rattle.cel_expression.proofs.LoopCode.{begun, emits_loop, emits_map_where}

-- nothing is before an expression's instructions, and END is after them
pub record Whole (all : Code) (e : TypedTree) (count : ℕ) : Type 0 where
  pub stands : Stands all e 0 count
  pub ends : Has all count End
  pub whole : length all.instrs ≡ count + 1

pub placed : (empty new all : Code) (e : TypedTree) (count : ℕ) → empty.instrs ≡ [] → Emits empty new e
    → all ≡ with_instr new End → length new.instrs ≡ count → Whole all e count
placed empty new all e count e0 em e1 size =
    let s : Stands new e 0 (length new.instrs) = subst (λ is. Stands new e (length is) (length new.instrs)) e0 em.stands in
    rw (e1, sym size)
    (record {
      stands = moved new (with_instr new End) e 0 (length new.instrs) s (same_put new End);
      ends = has_put new End;
      whole =
          length_put new End;
    })
