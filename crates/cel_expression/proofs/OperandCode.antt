-- Where the code of literals, slots, operators, lists and maps is.
use Rattle.std.proofs.Common.{◌≡◌, ℕ, ◌+◌, List, [], ◌∷◌, length, refl, sym, ap, ◌∙◌, subst, arith}
use Rattle.cel_value.specs.declared.value.Value.{Value}
use Rattle.cel_value.specs.declared.value.Value as value
use Rattle.cel_value.specs.declared.expr.Entry.{Entry}
use Rattle.cel_operators.specs.declared.text_operator.TextOperator.{TextOperator}
use Rattle.cel_value.specs.Turns.{by_turns}
use Rattle.cel_operators.specs.declared.operator.Operator.{Operator}
use Rattle.cel_check.specs.declared.tree.TypedTree.{TypedTree, out-TypedTree}
use Rattle.cel_check.specs.declared.tree.Form.TheVariants as form
use Rattle.cel_code.specs.declared.instr.Instr.TheVariants.{Const, Slot, Local, Op}
use Rattle.cel_operators.specs.Operators.{code_of}
use Rattle.cel_expression.specs.Placed.{Code, with_instr, Interns, Has, literal, slot, unary, binary, Same, Emits, items, entries}
use Rattle.cel_expression.specs.Placed.{with_text}
use Rattle.cel_expression.specs.Placed.{no_items, first_item, EmitsEach, local}
use Rattle.cel_code.specs.declared.instr.Instr.TheVariants as instr
use Rattle.cel_expression.proofs.SameCode.{narrow, same_on, same_put, moved, each_moved}
use Rattle.cel_expression.proofs.KeptCode.{length_put, keeps_put, keeps_on, has_put, keeps_interned}

pub emits_literal : (old c1 new : Code) (e : TypedTree) (v : Value) (k : ℕ) → (out-TypedTree e).form ≡ form.Literal v
    → Interns old c1 v k → new ≡ with_instr c1 (Const k) → Emits old new e
emits_literal old c1 new e v k is n put =
    let grown : length (with_instr c1 (Const k)).instrs ≡ length old.instrs + 1 =
    length_put c1 (Const k) ∙ ap (λ is. length is + 1) n.instrs in
    let here : Has (with_instr c1 (Const k)) (length old.instrs) (Const k) =
    subst (λ is. Has (with_instr c1 (Const k)) (length is) (Const k)) n.instrs (has_put c1 (Const k)) in
    rw put
    (record {
      stands = literal v (record { is = is }) (record { number = k; instr = here; constant = n.constant; next = grown });
      keeps =
          keeps_on old c1 _ (keeps_interned old c1 v k n) (keeps_put c1 (Const k));
    })

pub emits_slot : (old new : Code) (e : TypedTree) (n : ℕ) → (out-TypedTree e).form ≡ form.Slot n
    → new ≡ with_instr old (Slot n) → Emits old new e
emits_slot old new e n is put =
    rw put
    (record { stands = slot n (record { is = is }) (has_put old (Slot n)) (length_put old (Slot n)); keeps = keeps_put old (Slot n) })

pub emits_unary : (old c1 new : Code) (e : TypedTree) (op : Operator) (a a' : TypedTree) (k : ℕ)
    → (out-TypedTree e).form ≡ form.Unary op a → a' ≡ a → Emits old c1 a' → k ≡ code_of op → new ≡ with_instr c1 (Op k)
    → Emits old new e
emits_unary old c1 new e op a a' k is same ea ek put =
    let i = Op (code_of op) in
    let ea : Emits old c1 a = rw (sym same) ea in
    rw (put, ek)
    (record {
      stands = unary op a (length c1.instrs) (record { is = is })
          (moved c1 (with_instr c1 i) a _ _ ea.stands (narrow c1 _ 0 _ _ _ (same_put c1 i) (omega arith) (omega arith))) (has_put c1 i)
          (length_put c1 i);
      keeps = keeps_on old c1 _ ea.keeps (keeps_put c1 i);
    })

pub emits_binary : (old c1 c2 new : Code) (e : TypedTree) (op : Operator) (a b a' b' : TypedTree) (k : ℕ)
    → (out-TypedTree e).form ≡ form.Binary op a b → a' ≡ a → b' ≡ b → Emits old c1 a' → Emits c1 c2 b' → k ≡ code_of op
    → new ≡ with_instr c2 (Op k) → Emits old new e
emits_binary old c1 c2 new e op a b a' b' k is sa sb ea eb ek put =
    let i = Op (code_of op) in
    let ea : Emits old c1 a = rw (sym sa) ea in
    let eb : Emits c1 c2 b = rw (sym sb) eb in
    let p = same_put c2 i in
    let s1 : Same c1 (with_instr c2 i) 0 (length c1.instrs) =
    same_on c1 c2 _ 0 _ eb.keeps.same (narrow c2 _ 0 _ 0 _ p (omega arith) eb.keeps.grows) in
    rw (put, ek)
    (record {
      stands = binary op a b (length c1.instrs) (length c2.instrs) (record { is = is })
          (moved c1 (with_instr c2 i) a _ _ ea.stands (narrow c1 _ 0 _ _ _ s1 (omega arith) (omega arith)))
          (moved c2 (with_instr c2 i) b _ _ eb.stands (narrow c2 _ 0 _ _ _ p (omega arith) (omega arith))) (has_put c2 i) (length_put c2 i);
      keeps = keeps_on old c1 _ ea.keeps (keeps_on c1 c2 _ eb.keeps (keeps_put c2 i));
    })

pub emits_none : (old new : Code) → new ≡ old → EmitsEach old new []
emits_none old new same =
    rw same
    (record {
      stands = no_items refl refl;
      keeps = record { grows = omega arith; same = record { instr = λ i p q. refl; constant = λ k v h. h } };
    })

-- an expression in front of others
pub emits_first : (old c1 new : Code) (a : TypedTree) (rest : List TypedTree) → Emits old c1 a → EmitsEach c1 new rest
    → EmitsEach old new (a ∷ rest)
emits_first old c1 new a rest ea er =
    let s1 : Same c1 new (length old.instrs) (length c1.instrs) = narrow c1 new 0 _ _ _ er.keeps.same (omega arith) (omega arith) in
    record {
      stands = first_item a rest (length c1.instrs) refl (moved c1 new a _ _ ea.stands s1) er.stands;
      keeps = keeps_on old c1 new ea.keeps er.keeps;
    }

pub emits_items : (old c1 c2 new : Code) (e : TypedTree) (xs ys : List TypedTree) (n : ℕ) → (out-TypedTree e).form ≡ form.ListOf xs
    → ys ≡ xs → EmitsEach old c1 ys → c2 ≡ c1 → n ≡ length xs → new ≡ with_instr c2 (instr.List n) → Emits old new e
emits_items old c1 c2 new e xs ys n is same ex left long put =
    let i = instr.List (length xs) in
    let ex : EmitsEach old c1 xs = rw (sym same) ex in
    rw (put, left, long)
    (record {
      stands =
          items xs (length c1.instrs) (record { is = is })
          (each_moved c1 (with_instr c1 i) xs _ _ ex.stands (narrow c1 _ 0 _ _ _ (same_put c1 i) (omega arith) (omega arith)))
          (has_put c1 i) (length_put c1 i);
      keeps = keeps_on old c1 _ ex.keeps (keeps_put c1 i);
    })

pub emits_entries : (old c1 c2 new : Code) (e : TypedTree) (es fs : List (Entry TypedTree)) (n : ℕ)
    → (out-TypedTree e).form ≡ form.MapOf es → fs ≡ es → EmitsEach old c1 (by_turns fs) → c2 ≡ c1 → n ≡ length es
    → new ≡ with_instr c2 (instr.Map n) → Emits old new e
emits_entries old c1 c2 new e es fs n is same ex left long put =
    let i = instr.Map (length es) in
    let ex : EmitsEach old c1 (by_turns es) = rw (sym same) ex in
    rw (put, left, long)
    (record {
      stands =
          entries es (length c1.instrs) (record { is = is })
          (each_moved c1 (with_instr c1 i) (by_turns es) _ _ ex.stands (narrow c1 _ 0 _ _ _ (same_put c1 i) (omega arith) (omega arith)))
          (has_put c1 i) (length_put c1 i);
      keeps = keeps_on old c1 _ ex.keeps (keeps_put c1 i);
    })

pub emits_with_text : (old c1 c2 new : Code) (e : TypedTree) (op : TextOperator) (a a' : TypedTree) (text : List ℕ) (k : ℕ)
    → (out-TypedTree e).form ≡ form.WithText op a text → a' ≡ a → Emits old c1 a' → Interns c1 c2 (value.Text text) k
    → new ≡ with_instr c2 (instr.WithText op k) → Emits old new e
emits_with_text old c1 c2 new e op a a' text k is same ea n put =
    let i = instr.WithText op k in
    let ea : Emits old c1 a = rw (sym same) ea in
    let kept = keeps_interned c1 c2 _ k n in
    let s1 : Same c1 (with_instr c2 i) 0 (length c1.instrs) =
    same_on c1 c2 _ 0 _ kept.same (narrow c2 _ 0 _ 0 _ (same_put c2 i) (omega arith) kept.grows) in
    let here : Has (with_instr c2 i) (length c1.instrs) i = subst (λ is. Has (with_instr c2 i) (length is) i) n.instrs (has_put c2 i) in
    let grown : length (with_instr c2 i).instrs ≡ length c1.instrs + 1 = length_put c2 i ∙ ap (λ is. length is + 1) n.instrs in
    rw put
    (record {
      stands =
          with_text op a text (length c1.instrs) (record { is = is })
          (moved c1 (with_instr c2 i) a _ _ ea.stands (narrow c1 _ 0 _ _ _ s1 (omega arith) (omega arith)))
          (record { number = k; instr = here; constant = n.constant }) grown;
      keeps = keeps_on old c1 _ ea.keeps (keeps_on c1 c2 _ kept (keeps_put c2 i));
    })

pub emits_local : (old new : Code) (e : TypedTree) (d : ℕ) → (out-TypedTree e).form ≡ form.Local d
    → new ≡ with_instr old (Local d) → Emits old new e
emits_local old new e d is put =
    rw put
    (record { stands = local d (record { is = is }) (has_put old (Local d)) (length_put old (Local d)); keeps = keeps_put old (Local d) })
