-- Instructions are in each code that is the same where they are.
use Rattle.std.proofs.Common.{ℕ, ◌+◌, ◌<◌, ◌≤◌, List, length, ◌∙◌, arith}
use Rattle.cel_value.specs.declared.value.Value.{Value}
use Rattle.cel_operators.specs.declared.text_operator.TextOperator.{TextOperator}
use Rattle.cel_value.specs.Turns.{by_turns}
use Rattle.cel_check.specs.declared.tree.TypedTree.{TypedTree}
use Rattle.cel_code.specs.declared.instr.Instr.{Instr}
use Rattle.cel_expression.specs.Placed.{Code, with_instr, patched, Has, Pushes, Stands, literal, slot, unary, binary, both, either}
use Rattle.cel_expression.specs.Placed.{conditional, Same, items, entries, with_text, HasText, StandEach, no_items, first_item, local}
use Rattle.cel_expression.specs.Placed.{looped}
use Rattle.cel_expression.specs.Placed.{mapped, OpensLoop}
use Rattle.cel_value.specs.declared.expr.Loop.{Loop}
use Rattle.cel_value.specs.declared.expr.Loop.TheVariants as loop
use Rattle.cel_expression.proofs.Elements.{get_before, get_beside}

pub narrow : (old new : Code) (from to a b : ℕ) → Same old new from to → from ≤ a → b ≤ to → Same old new a b
narrow old new from to a b s le le' = record { instr = λ i p q. s.instr i (omega arith) (omega arith); constant = s.constant }

pub same_on : (a b c : Code) (from to : ℕ) → Same a b from to → Same b c from to → Same a c from to
same_on a b c from to s t = record { instr = λ i p q. t.instr i p q ∙ s.instr i p q; constant = λ k v h. t.constant k v (s.constant k v h) }

pub same_put : (c : Code) (i : Instr) → Same c (with_instr c i) 0 (length c.instrs)
same_put c i = record { instr = λ k p q. get_before c.instrs i k q; constant = λ k v h. h }

pub same_before : (c : Code) (m : ℕ) (i : Instr) → Same c (patched c m i) 0 m
same_before c m i = record { instr = λ k p q. get_beside c.instrs m i k (λ e. omega arith); constant = λ k v h. h }

pub same_after : (c : Code) (m n : ℕ) (i : Instr) → Same c (patched c m i) (m + 1) n
same_after c m n i = record { instr = λ k p q. get_beside c.instrs m i k (λ e. omega arith); constant = λ k v h. h }

-- an expression has at least one instruction
mutual
  stands_lt : (code : Code) (e : TypedTree) (from to : ℕ) → Stands code e from to → from < to
  stands_lt code e from to (literal v f h) = omega (arith, h.next)
  stands_lt code e from to (slot n f h next) = omega (arith, next)
  stands_lt code e from to (unary op a m f h i n) = omega (arith, stands_lt code a from m h, n)
  stands_lt code e from to (binary op a b m n f h k i l) = omega (arith, stands_lt code a from m h, stands_lt code b m n k, l)
  stands_lt code e from to (both a b m n f h i k j l) = omega (arith, stands_lt code a from m h, stands_lt code b (m + 1) n k, l)
  stands_lt code e from to (either a b m n f h i k j l) = omega (arith, stands_lt code a from m h, stands_lt code b (m + 1) n k, l)
  stands_lt code e from to (conditional c a b m n f h i k j l) =
      omega (arith, stands_lt code c from m h, stands_lt code a (m + 1) n k, stands_lt code b (n + 1) to l)
  stands_lt code e from to (items xs m f hs i after) = omega (arith, stands_le code xs from m hs, after)
  stands_lt code e from to (entries es m f hs i after) = omega (arith, stands_le code (by_turns es) from m hs, after)
  stands_lt code e from to (with_text op a text m f h i after) = omega (arith, stands_lt code a from m h, after)
  stands_lt code e from to (local d f h next) = omega (arith, next)
  stands_lt code e from to (looped l a b m n f h i k j next) = omega (arith, stands_lt code a from m h, stands_lt code b (m + 2) n k, next)
  stands_lt code e from to (mapped a p b m k n f h i hp hw hb hn next) =
      omega (arith, stands_lt code a from m h, stands_lt code p (m + 2) k hp, stands_lt code b (k + 1) n hb, next)

  stands_le : (code : Code) (xs : List TypedTree) (from to : ℕ) → StandEach code xs from to → from ≤ to
  stands_le code xs from to (no_items none same) = omega (arith, same)
  stands_le code xs from to (first_item a rest m is h hs) = omega (arith, stands_lt code a from m h, stands_le code rest m to hs)

module _ (old new : Code) where
  pub has_moved : (i : Instr) (at from to : ℕ) → Has old at i → Same old new from to → from ≤ at → at < to → Has new at i
  has_moved i at from to h s le lt = record { is = s.instr at le lt ∙ h.is }

  push_moved : (v : Value) (from to : ℕ) → Pushes old from to v → Same old new from to → Pushes new from to v
  push_moved v from to p s =
      record {
        number = p.number;
        instr = has_moved _ from from to p.instr s (omega arith) (omega (arith, p.next));
        constant =
            s.constant _ v p.constant;
        next = p.next;
      }

  text_moved : (op : TextOperator) (text : List ℕ) (at from to : ℕ) → HasText old at op text → Same old new from to → from ≤ at → at < to
      → HasText new at op text
  text_moved op text at from to h s le lt =
      record { number = h.number; instr = has_moved _ at from to h.instr s le lt; constant = s.constant _ _ h.constant }

  opens_moved : (l : Loop) (at exit from to : ℕ) → OpensLoop old at l exit → Same old new from to → from ≤ at → at + 1 < to
      → OpensLoop new at l exit
  opens_moved l at exit from to h s le lt =
      record {
        begins = has_moved _ at from to h.begins s le (omega arith);
        item = has_moved _ (at + 1) from to h.item s (omega arith) lt;
      }

  -- an expression's instructions are in each code that has the same ones there
  mutual
    pub moved : (e : TypedTree) (from to : ℕ) → Stands old e from to → Same old new from to → Stands new e from to
    moved e from to (literal v f h) s = literal v f (push_moved v from to h s)
    moved e from to (slot n f h next) s = slot n f (has_moved _ from from to h s (omega arith) (omega (arith, next))) next
    moved e from to (unary op a m f h i l) s =
        let x = stands_lt old a from m h in
        unary op a m f (moved a from m h (narrow old new from to _ _ s (omega arith) (omega (arith, l))))
        (has_moved _ m from to i s (omega arith) (omega (arith, l))) l
    moved e from to (binary op a b m n f h k i l) s =
        let x = stands_lt old a from m h in
        let y = stands_lt old b m n k in
        binary op a b m n f (moved a from m h (narrow old new from to _ _ s (omega arith) (omega (arith, l))))
        (moved b m n k (narrow old new from to _ _ s (omega arith) (omega (arith, l))))
        (has_moved _ n from to i s (omega arith) (omega (arith, l))) l
    moved e from to (both a b m n f h i k j l) s =
        let x = stands_lt old a from m h in
        let y = stands_lt old b (m + 1) n k in
        both a b m n f (moved a from m h (narrow old new from to _ _ s (omega arith) (omega (arith, l))))
        (has_moved _ m from to i s (omega arith) (omega (arith, l)))
        (moved b (m + 1) n k (narrow old new from to _ _ s (omega arith) (omega (arith, l))))
        (has_moved _ n from to j s (omega arith) (omega (arith, l))) l
    moved e from to (either a b m n f h i k j l) s =
        let x = stands_lt old a from m h in
        let y = stands_lt old b (m + 1) n k in
        either a b m n f (moved a from m h (narrow old new from to _ _ s (omega arith) (omega (arith, l))))
        (has_moved _ m from to i s (omega arith) (omega (arith, l)))
        (moved b (m + 1) n k (narrow old new from to _ _ s (omega arith) (omega (arith, l))))
        (has_moved _ n from to j s (omega arith) (omega (arith, l))) l
    moved e from to (conditional c a b m n f h i k j l) s =
        let x = stands_lt old c from m h in
        let y = stands_lt old a (m + 1) n k in
        let z = stands_lt old b (n + 1) to l in
        conditional c a b m n f (moved c from m h (narrow old new from to _ _ s (omega arith) (omega arith)))
        (has_moved _ m from to i s (omega arith) (omega arith))
        (moved a (m + 1) n k (narrow old new from to _ _ s (omega arith) (omega arith)))
        (has_moved _ n from to j s (omega arith) (omega arith))
        (moved b (n + 1) to l (narrow old new from to _ _ s (omega arith) (omega arith)))
    moved e from to (items xs m f hs i after) s =
        let x = stands_le old xs from m hs in
        items xs m f (each_moved xs from m hs (narrow old new from to _ _ s (omega arith) (omega (arith, after))))
        (has_moved _ m from to i s (omega arith) (omega (arith, after))) after
    moved e from to (entries es m f hs i after) s =
        let x = stands_le old (by_turns es) from m hs in
        entries es m f (each_moved (by_turns es) from m hs (narrow old new from to _ _ s (omega arith) (omega (arith, after))))
        (has_moved _ m from to i s (omega arith) (omega (arith, after))) after
    moved e from to (with_text op a text m f h i after) s =
        let x = stands_lt old a from m h in
        with_text op a text m f (moved a from m h (narrow old new from to _ _ s (omega arith) (omega (arith, after))))
        (text_moved op text m from to i s (omega arith) (omega (arith, after))) after
    moved e from to (local d f h next) s = local d f (has_moved _ from from to h s (omega arith) (omega (arith, next))) next
    moved e from to (looped l a b m n f h i k j next) s =
        let x = stands_lt old a from m h in
        let y = stands_lt old b (m + 2) n k in
        looped l a b m n f (moved a from m h (narrow old new from to _ _ s (omega arith) (omega (arith, next))))
        (opens_moved l m to from to i s (omega arith) (omega (arith, next)))
        (moved b (m + 2) n k (narrow old new from to _ _ s (omega arith) (omega (arith, next))))
        (has_moved _ n from to j s (omega arith) (omega (arith, next))) next
    moved e from to (mapped a p b m k n f h i hp hw hb hn next) s =
        let x = stands_lt old a from m h in
        let y = stands_lt old p (m + 2) k hp in
        let z = stands_lt old b (k + 1) n hb in
        mapped a p b m k n f (moved a from m h (narrow old new from to _ _ s (omega arith) (omega (arith, next))))
        (opens_moved loop.Map m to from to i s (omega arith) (omega (arith, next)))
        (moved p (m + 2) k hp (narrow old new from to _ _ s (omega arith) (omega (arith, next))))
        (has_moved _ k from to hw s (omega arith) (omega (arith, next)))
        (moved b (k + 1) n hb (narrow old new from to _ _ s (omega arith) (omega (arith, next))))
        (has_moved _ n from to hn s (omega arith) (omega (arith, next))) next

    pub each_moved : (xs : List TypedTree) (from to : ℕ) → StandEach old xs from to → Same old new from to → StandEach new xs from to
    each_moved xs from to (no_items none same) s = no_items none same
    each_moved xs from to (first_item a rest m is h hs) s =
        let x = stands_lt old a from m h in
        let y = stands_le old rest m to hs in
        first_item a rest m is (moved a from m h (narrow old new from to _ _ s (omega arith) (omega arith)))
        (each_moved rest m to hs (narrow old new from to _ _ s (omega arith) (omega arith)))
