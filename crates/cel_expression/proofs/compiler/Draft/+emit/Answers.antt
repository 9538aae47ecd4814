use Rattle.std.proofs.Common.{◌≡◌, ℕ, ◌+◌, true, false, cond, ◌++◌, [], ◌∷◌, length, refl, sym, ap, ◌∙◌, subst, arith, rules, append_assoc}
use Rattle.std.proofs.lemmas.List.{append-nil}
use Rattle.std.proofs.lemmas.Result.{on_ok_weaker}
use Rattle.cel_expression.proofs.Leaving.{split_at, none_left, goes_on, entry_goes_on, all_stand, all_written}
use Rattle.cel_expression.proofs.Place.{emits_items, emits_literal, emits_unary, emits_binary, emits_both, emits_either, emits_conditional}
use Rattle.cel_expression.proofs.Place.{emits_slot, emits_local, emits_entries, emits_with_text, emits_loop, emits_map_where}
use Rattle.cel_expression.proofs.Written.{writes_binary, writes_both, writes_either, writes_conditional, writes_entries, writes_with_text}
use Rattle.cel_expression.proofs.Written.{writes_body, writes_loop, writes_map_where, type_laid}
use Rattle.cel_expression.proofs.Written.{laid, grows_code}
use Rattle.cel_value.specs.declared.cel_type.CelType.{CelType}
use Rattle.cel_value.specs.declared.value.Value.{Value}
use Rattle.cel_operators.specs.declared.operator.Operator.{Operator}
use Rattle.cel_check.specs.declared.tree.TypedTree.{TypedTree, out-TypedTree}
use Rattle.cel_check.specs.declared.tree.TypedTree.TheFolds.{map-TypedTree, fold_out-TypedTree}
use Rattle.cel_check.specs.declared.tree.Form.{Form}
use Rattle.cel_check.specs.declared.tree.Form.TheVariants as form
use Rattle.cel_check.specs.Meaning.{type_of}
use Rattle.cel_value.specs.Turns.{by_turns}
use Rattle.cel_expression.specs.Compiled.{EachOnce, Layout, target, target_at_end, targets_from, layout_step, layout_of, joins_at}
use Rattle.cel_expression.specs.Drafts.{drafted, Grows, WritesWithin, Writes}
use Rattle.cel_expression.specs.Placed.{Emits}
use Rattle.cel_expression.specs.declared.compiler.Draft.{Draft}
use Rattle.cel_expression.proofs.compiler.Draft.+emit.Goals as goal

-- a leaf, and an operand with an instruction after it
literal_written : (old d1 new : Draft) (e : TypedTree) (v : Value) → (out-TypedTree e).form ≡ form.Literal v
    → Grows old d1 0 (v ∷ []) [] → Grows d1 new 1 [] [] → WritesWithin old new e old.below
literal_written old d1 new e v is g h = record { grows = rw (laid e _ is) (grows_code old d1 new _ _ _ _ g h) }

slot_written : (old new : Draft) (e : TypedTree) (n : ℕ) → (out-TypedTree e).form ≡ form.Slot n → Grows old new 1 [] []
    → WritesWithin old new e old.below
slot_written old new e n is g = record { grows = rw (laid e _ is) g }

local_written : (old new : Draft) (e : TypedTree) (n : ℕ) → (out-TypedTree e).form ≡ form.Local n → Grows old new 1 [] []
    → WritesWithin old new e old.below
local_written old new e n is g = record { grows = rw (laid e _ is) g }

unary_written : (old d1 new : Draft) (e : TypedTree) (op : Operator) (a a' : TypedTree) → (out-TypedTree e).form ≡ form.Unary op a
    → a' ≡ a → Writes old d1 a' old.below → Grows d1 new 1 [] [] → WritesWithin old new e old.below
unary_written old d1 new e op a a' is same w g =
    let w : Writes old d1 a old.below = rw (sym same) w in
    record { grows = rw (laid e _ is) (grows_code old d1 new _ _ _ _ w.grows g) }

-- whether jumps go to the end of an expression is decided by its form
form_joins : (t : CelType) (f : Form TypedTree) → (layout_step (map-TypedTree _ _ layout_of (record { cel_type = t; form = f }))).joins
    ≡ joins_at f
form_joins t (form.Literal v) = refl
form_joins t (form.Slot n) = refl
form_joins t (form.Local n) = refl
form_joins t (form.Unary op a) = refl
form_joins t (form.Binary op a b) = refl
form_joins t (form.And a b) = refl
form_joins t (form.Or a b) = refl
form_joins t (form.Conditional c a b) = refl
form_joins t (form.ListOf xs) = refl
form_joins t (form.MapOf es) = refl
form_joins t (form.WithText op a text) = refl
form_joins t (form.Loop l a b) = refl
form_joins t (form.MapWhere a p b) = refl

tree_joins : (e : TypedTree) → (layout_of e).joins ≡ joins_at (out-TypedTree e).form
tree_joins e =
    ap (λ (l : Layout). l.joins) (fold_out-TypedTree Layout layout_step e) ∙ form_joins (out-TypedTree e).cel_type (out-TypedTree e).form

-- no jump goes to the end, and what is within is all
all_within : (old new : Draft) (e : TypedTree) → joins_at (out-TypedTree e).form ≡ false → WritesWithin old new e old.below
    → Writes old new e old.below
all_within old new e never w =
    let inner = (layout_of e).within (length old.code) old.below in
    let end = target ((length old.code) + (layout_of e).size) (old.below ++ (layout_of e).type ∷ []) ∷ [] in
    let whole : targets_from (layout_of e) (length old.code) old.below ≡ inner =
    ap (λ b. inner ++ cond b end []) (tree_joins e ∙ never) ∙ append-nil inner in
    record { grows = subst (λ ts. Grows old new (layout_of e).size (layout_of e).literals ts) (sym whole) w.grows }

-- jumps go to the end, and its target is after those within
with_end : (old mid new : Draft) (e : TypedTree) (t : CelType) → t ≡ type_of e → joins_at (out-TypedTree e).form ≡ true
    → WritesWithin old mid e old.below → Grows mid new 0 [] (target (length mid.code) (mid.below ++ t ∷ []) ∷ [])
    → Writes old new e old.below
with_end old mid new e t same joins w g =
    let l = layout_of e in
    let inner = l.within (length old.code) old.below in
    let there = target (length mid.code) (mid.below ++ t ∷ []) ∷ [] in
    let end = target ((length old.code) + l.size) (old.below ++ l.type ∷ []) ∷ [] in
    let is_end : there ≡ end =
    ap (λ u. target (length mid.code) (mid.below ++ u ∷ []) ∷ []) (same ∙ sym (type_laid e))
    ∙ ap (λ n. target n (mid.below ++ l.type ∷ []) ∷ []) w.grows.size
    ∙ ap (λ b. target ((length old.code) + l.size) (b ++ l.type ∷ []) ∷ []) w.grows.below in
    let whole : inner ++ there ≡ targets_from l (length old.code) old.below =
    ap (λ ts. inner ++ ts) is_end ∙ ap (λ b. inner ++ cond b end []) (sym (tree_joins e ∙ joins)) in
    record {
      grows = record {
        size = omega (arith, w.grows.size, g.size);
        constants = λ before once. subst (λ vs. EachOnce vs new.constants) (append-nil (before ++ l.literals))
            (g.constants (before ++ l.literals) (w.grows.constants before once));
        targets = g.targets ∙ ap (λ ts. ts ++ there) w.grows.targets ∙ append_assoc old.targets inner there
            ∙ ap (λ ts. old.targets ++ ts) whole;
        below = g.below ∙ w.grows.below;
      };
    }

pub emit-returns-clause-stands : goal.emit-returns-clause-stands
emit-returns-clause-stands t c = c.in_ok-emit_within.ensures.stands

pub emit-returns-clause-writes : goal.emit-returns-clause-writes
emit-returns-clause-writes t c =
    all_within c.args.self.now c.emit_within.new.self c.args.tree.now (search rules) c.in_ok-emit_within.ensures.writes

pub emit-returns-then-joins-clause-stands : goal.emit-returns-then-joins-clause-stands
emit-returns-then-joins-clause-stands t c =
    on_ok_weaker c.arrive_with.result
    (λ same. subst (λ d. Emits (drafted c.args.self.now) d c.args.tree.now) (sym same) c.in_ok-emit_within.ensures.stands)
    c.arrive_with.ensures.code

pub emit-returns-then-joins-clause-writes : goal.emit-returns-then-joins-clause-writes
emit-returns-then-joins-clause-writes t c =
    on_ok_weaker c.arrive_with.result
    (λ g.
    with_end c.args.self.now c.emit_within.new.self c.arrive_with.new.self c.args.tree.now _ refl (search rules)
    c.in_ok-emit_within.ensures.writes g)
    c.arrive_with.ensures.grows

pub emit_within-returns-in_ok-number-in-Literal-clause-writes : goal.emit_within-returns-in_ok-number-in-Literal-clause-writes
emit_within-returns-in_ok-number-in-Literal-clause-writes t c =
    on_ok_weaker c.put.result (λ g. literal_written _ _ _ _ _ c.in-Literal.is c.in_ok-number-in-Literal.ensures.grows g)
    c.put.ensures.grows

pub emit_within-returns-in-Slot-clause-writes : goal.emit_within-returns-in-Slot-clause-writes
emit_within-returns-in-Slot-clause-writes t c =
    on_ok_weaker c.put-in-Slot.result (λ g. slot_written _ _ _ _ c.in-Slot.is g) c.put-in-Slot.ensures.grows

pub emit_within-returns-in-Local-clause-writes : goal.emit_within-returns-in-Local-clause-writes
emit_within-returns-in-Local-clause-writes t c =
    on_ok_weaker c.put-in-Local.result (λ g. local_written _ _ _ _ c.in-Local.is g) c.put-in-Local.ensures.grows

pub emit_within-returns-in_ok-emit-in-Unary-clause-writes : goal.emit_within-returns-in_ok-emit-in-Unary-clause-writes
emit_within-returns-in_ok-emit-in-Unary-clause-writes t c =
    on_ok_weaker c.put-in-Unary.result
    (λ g. unary_written _ _ _ _ _ _ _ c.in-Unary.is c.get.ensures c.in_ok-emit-in-Unary.ensures.writes g) c.put-in-Unary.ensures.grows

pub emit_within-returns-in_ok-number-in-Literal-clause-stands : goal.emit_within-returns-in_ok-number-in-Literal-clause-stands
emit_within-returns-in_ok-number-in-Literal-clause-stands t c =
    on_ok_weaker c.put.result
    (λ e. emits_literal _ _ _ _ _ _ c.in-Literal.is c.in_ok-number-in-Literal.ensures.number e) c.put.ensures.code

pub emit_within-returns-in-Slot-clause-stands : goal.emit_within-returns-in-Slot-clause-stands
emit_within-returns-in-Slot-clause-stands t c =
    on_ok_weaker c.put-in-Slot.result (λ e. emits_slot _ _ _ _ c.in-Slot.is e) c.put-in-Slot.ensures.code

pub emit_within-returns-in-Local-clause-stands : goal.emit_within-returns-in-Local-clause-stands
emit_within-returns-in-Local-clause-stands t c =
    on_ok_weaker c.put-in-Local.result (λ e. emits_local _ _ _ _ c.in-Local.is e) c.put-in-Local.ensures.code

pub emit_within-returns-in_ok-emit-in-Unary-clause-stands : goal.emit_within-returns-in_ok-emit-in-Unary-clause-stands
emit_within-returns-in_ok-emit-in-Unary-clause-stands t c =
    on_ok_weaker c.put-in-Unary.result
    (λ e. emits_unary _ _ _ _ _ _ _ _ c.in-Unary.is c.get.ensures c.in_ok-emit-in-Unary.ensures.stands c.code.ensures.number e)
    c.put-in-Unary.ensures.code

pub emit_within-returns-in_ok-emit_over-in-Binary-clause-stands : goal.emit_within-returns-in_ok-emit_over-in-Binary-clause-stands
emit_within-returns-in_ok-emit_over-in-Binary-clause-stands t c =
    on_ok_weaker c.put-in-Binary.result
    (λ e.
    emits_binary _ _ _ _ _ _ _ _ _ _ _ c.in-Binary.is c.get-in-Binary.ensures c.get-in-Binary-2.ensures
    c.in_ok-emit-in-Binary.ensures.stands c.in_ok-emit_over-in-Binary.ensures.stands c.code-in-Binary.ensures.number e)
    c.put-in-Binary.ensures.code

pub emit_within-returns-in_ok-emit_over-in-Binary-clause-writes : goal.emit_within-returns-in_ok-emit_over-in-Binary-clause-writes
emit_within-returns-in_ok-emit_over-in-Binary-clause-writes t c =
    on_ok_weaker c.put-in-Binary.result
    (λ g.
    writes_binary _ _ _ _ _ _ _ _ _ _ _ c.in-Binary.is c.get-in-Binary.ensures c.get-in-Binary-2.ensures c.get-in-Binary-3.ensures
    c.in_ok-emit-in-Binary.ensures.writes c.in_ok-emit_over-in-Binary.ensures.writes g)
    c.put-in-Binary.ensures.grows

pub emit_and-returns-clause-stands : goal.emit_and-returns-clause-stands
emit_and-returns-clause-stands t c =
    emits_both _ _ _ _ _ _ _ _ _ _ _ _ _ c.requires.is refl refl c.in_ok-emit.ensures.stands c.len-test.ensures
    c.in_ok-put.ensures.code c.in_ok-emit_over.ensures.stands c.in_ok-put-2.ensures.code c.len.ensures c.patch.ensures.code

pub emit_and-returns-clause-writes : goal.emit_and-returns-clause-writes
emit_and-returns-clause-writes t c =
    writes_both _ _ _ _ _ _ _ _ _ _ _ _ c.requires.is refl refl refl c.in_ok-emit.ensures.writes c.in_ok-put.ensures.grows
    c.in_ok-emit_over.ensures.writes c.in_ok-put-2.ensures.grows c.patch.ensures.grows

pub emit_or-returns-clause-stands : goal.emit_or-returns-clause-stands
emit_or-returns-clause-stands t c =
    emits_either _ _ _ _ _ _ _ _ _ _ _ _ _ c.requires.is refl refl c.in_ok-emit.ensures.stands c.len-test.ensures
    c.in_ok-put.ensures.code c.in_ok-emit_over.ensures.stands c.in_ok-put-2.ensures.code c.len.ensures c.patch.ensures.code

pub emit_or-returns-clause-writes : goal.emit_or-returns-clause-writes
emit_or-returns-clause-writes t c =
    writes_either _ _ _ _ _ _ _ _ _ _ _ _ c.requires.is refl refl refl c.in_ok-emit.ensures.writes c.in_ok-put.ensures.grows
    c.in_ok-emit_over.ensures.writes c.in_ok-put-2.ensures.grows c.patch.ensures.grows

pub emit_within-returns-in_ok-number-in-WithText-clause-stands : goal.emit_within-returns-in_ok-number-in-WithText-clause-stands
emit_within-returns-in_ok-number-in-WithText-clause-stands t c =
    on_ok_weaker c.put-in-WithText.result
    (λ e.
    emits_with_text _ _ _ _ _ _ _ _ _ _ c.in-WithText.is c.get-in-WithText.ensures c.in_ok-emit-in-WithText.ensures.stands
    c.in_ok-number-in-WithText.ensures.number e)
    c.put-in-WithText.ensures.code

pub emit_within-returns-in_ok-number-in-WithText-clause-writes : goal.emit_within-returns-in_ok-number-in-WithText-clause-writes
emit_within-returns-in_ok-number-in-WithText-clause-writes t c =
    on_ok_weaker c.put-in-WithText.result
    (λ g.
    writes_with_text _ _ _ _ _ _ _ _ _ c.in-WithText.is c.get-in-WithText.ensures c.in_ok-emit-in-WithText.ensures.writes
    c.in_ok-number-in-WithText.ensures.grows g)
    c.put-in-WithText.ensures.grows

pub emit_conditional-returns-clause-stands : goal.emit_conditional-returns-clause-stands
emit_conditional-returns-clause-stands t c =
    emits_conditional _ _ _ _ _ _ _ _ _ _ _ _ _ _ _ _ c.requires.is c.in_ok-emit.ensures.stands c.len-test.ensures c.in_ok-put.ensures.code
    c.in_ok-emit-2.ensures.stands c.len-jump.ensures c.in_ok-put-2.ensures.code c.in_ok-arrive.ensures.code
    c.in_ok-emit_within.ensures.stands c.len-end.ensures c.patch.ensures.code c.patch-2.ensures.code

pub emit_conditional-returns-clause-writes : goal.emit_conditional-returns-clause-writes
emit_conditional-returns-clause-writes t c =
    writes_conditional _ _ _ _ _ _ _ _ _ _ _ _ _ c.requires.is c.in_ok-emit.ensures.writes c.in_ok-put.ensures.grows
    c.in_ok-emit-2.ensures.writes c.in_ok-put-2.ensures.grows c.in_ok-arrive.ensures.grows c.in_ok-emit_within.ensures.writes
    c.patch.ensures.grows c.patch-2.ensures.grows

pub emit_list-returns-clause-stands : goal.emit_list-returns-clause-stands
emit_list-returns-clause-stands t c =
    on_ok_weaker c.put.result
    (λ e.
    emits_items _ _ _ _ _ _ _ _ c.requires.is c.as_slice.ensures c.in_ok-emit_each.ensures.stands c.leave.ensures.code c.len.ensures e)
    c.put.ensures.code

pub emit_map-returns-clause-stands : goal.emit_map-returns-clause-stands
emit_map-returns-clause-stands t c =
    on_ok_weaker c.put.result
    (λ e.
    emits_entries _ _ _ _ _ _ _ _ c.requires.is c.as_slice.ensures c.in_ok-emit_entries.ensures.stands c.leave.ensures.code c.len.ensures e)
    c.put.ensures.code

pub emit_map-returns-clause-writes : goal.emit_map-returns-clause-writes
emit_map-returns-clause-writes t c =
    let under = c.leave.ensures.below _ _ c.in_ok-emit_entries.ensures.writes.below c.len-below.ensures in
    on_ok_weaker c.put.result
    (λ g.
    writes_entries _ _ _ _ _ _ _ c.requires.is c.as_slice.ensures c.in_ok-emit_entries.ensures.writes c.leave.ensures.code
    c.leave.ensures.targets under g)
    c.put.ensures.grows

pub emit_entries-loop-entry-preserved : goal.emit_entries-loop-entry-preserved
emit_entries-loop-entry-preserved t c =
    let l = c.loop-entry in
    let entry = c.entry-item.result in
    let left = split_at c.args.entries.now l.entry-index entry (omega (arith, c.loop-entry-test.true)) c.entry-item.is in
    let under = c.in_ok-push.ensures.ok ∙ ap (λ t. c.emit.new.self.below ++ t ∷ []) c.in_ok-copy.ensures in
    let under_value = c.in_ok-push-2.ensures.ok ∙ ap (λ t. c.emit-in-loop-entry.new.self.below ++ t ∷ []) c.in_ok-copy-2.ensures in
    entry_goes_on _ _ c.emit.new.self _ c.emit-in-loop-entry.new.self _ _ _ _ entry.key entry.value (ap by_turns left) l.invariant
    c.in_ok-emit.ensures.writes c.in_ok-emit.ensures.stands c.in_ok-emit-2.ensures.writes c.in_ok-emit-2.ensures.stands refl refl under
    refl refl under_value

pub emit_entries-returns-clause-stands : goal.emit_entries-returns-clause-stands
emit_entries-returns-clause-stands t c =
    let l = c.loop-entry in
    all_stand _ _ _ _ (ap by_turns (none_left c.args.entries.now l.entry-index (omega (arith, c.loop-entry-test.false)))) l.invariant

pub emit_entries-returns-clause-writes : goal.emit_entries-returns-clause-writes
emit_entries-returns-clause-writes t c =
    let l = c.loop-entry in
    all_written _ _ _ _ (ap by_turns (none_left c.args.entries.now l.entry-index (omega (arith, c.loop-entry-test.false)))) l.invariant

pub emit_each-loop-tree-preserved : goal.emit_each-loop-tree-preserved
emit_each-loop-tree-preserved t c =
    let l = c.loop-tree in
    let under = c.in_ok-push.ensures.ok ∙ ap (λ t. c.emit.new.self.below ++ t ∷ []) c.in_ok-copy.ensures in
    goes_on _ _ c.emit.new.self _ _ _ _ c.tree-item.result
    (split_at c.args.trees.now l.tree-index c.tree-item.result (omega (arith, c.loop-tree-test.true)) c.tree-item.is) l.invariant
    c.in_ok-emit.ensures.stands c.in_ok-emit.ensures.writes refl refl under

pub emit_each-returns-clause-stands : goal.emit_each-returns-clause-stands
emit_each-returns-clause-stands t c =
    let l = c.loop-tree in
    all_stand _ _ _ _ (none_left c.args.trees.now l.tree-index (omega (arith, c.loop-tree-test.false))) l.invariant

pub emit_each-returns-clause-writes : goal.emit_each-returns-clause-writes
emit_each-returns-clause-writes t c =
    let l = c.loop-tree in
    all_written _ _ _ _ (none_left c.args.trees.now l.tree-index (omega (arith, c.loop-tree-test.false))) l.invariant

pub emit_loop-returns-clause-stands : goal.emit_loop-returns-clause-stands
emit_loop-returns-clause-stands t c =
    on_ok_weaker c.close_loop.result
    (λ e.
    emits_loop _ _ _ _ _ _ _ _ _ _ _ c.requires.is c.in_ok-emit.ensures.stands c.in_ok-start.ensures.place c.in_ok-start.ensures.code
    c.in_ok-emit_body.ensures.stands refl e)
    c.close_loop.ensures.code

pub emit_loop-returns-clause-writes : goal.emit_loop-returns-clause-writes
emit_loop-returns-clause-writes t c =
    on_ok_weaker c.close_loop.result
    (λ g.
    writes_loop _ _ _ _ _ _ _ _ _ c.requires.is c.in_ok-emit.ensures.writes c.in_ok-start.ensures.grows c.in_ok-emit_body.ensures.writes g)
    c.close_loop.ensures.grows

pub emit_map_where-returns-clause-stands : goal.emit_map_where-returns-clause-stands
emit_map_where-returns-clause-stands t c =
    on_ok_weaker c.close_loop.result
    (λ e.
    emits_map_where _ _ _ _ _ _ _ _ _ _ _ _ _ c.requires.is c.in_ok-emit.ensures.stands c.in_ok-start.ensures.place
    c.in_ok-start.ensures.code c.in_ok-emit_body.ensures.stands c.in_ok-put.ensures.code c.in_ok-emit_body-2.ensures.stands refl e)
    c.close_loop.ensures.code

pub emit_map_where-returns-clause-writes : goal.emit_map_where-returns-clause-writes
emit_map_where-returns-clause-writes t c =
    on_ok_weaker c.close_loop.result
    (λ g.
    writes_map_where _ _ _ _ _ _ _ _ _ _ _ c.requires.is c.in_ok-emit.ensures.writes c.in_ok-start.ensures.grows
    c.in_ok-emit_body.ensures.writes c.in_ok-put.ensures.grows c.in_ok-emit_body-2.ensures.writes g)
    c.close_loop.ensures.grows

pub emit_body-returns-clause-stands : goal.emit_body-returns-clause-stands
emit_body-returns-clause-stands t c = c.emit-emitted.ensures.stands

pub emit_body-returns-clause-writes : goal.emit_body-returns-clause-writes
emit_body-returns-clause-writes t c =
    let old = c.args.self.now in
    let aside : Draft = record old { below = c.replace-below.new.dest } in
    on_ok_weaker c.emit-emitted.result
    (λ w.
    writes_body old aside c.emit-emitted.new.self _ _ refl refl (c.replace-below.ensures.after ∙ c.new.ensures) w refl refl
    c.replace-below.ensures.value)
    c.emit-emitted.ensures.writes
