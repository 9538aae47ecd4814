-- The machine does what the expression says.
use Rattle.std.proofs.Common.{◌≡◌, ℕ, ◌+◌, List, [], ◌∷◌, length, map, Option, Some, None, refl, sym, ap, ◌∙◌, subst}
use Rattle.std.specs.Prelude.{slice_get}
use Rattle.cel_value.specs.declared.value.Value.{Value}
use Rattle.cel_check.specs.declared.tree.TypedTree.{TypedTree}
use Rattle.cel_code.specs.LoopNumbers.{loop_number}
use Rattle.cel_code.specs.declared.instr.Instr.TheVariants.{Local, AndTest, OrTest, End}
use Rattle.cel_code.specs.declared.image.Image.{Image}
use Rattle.cel_operators.specs.Outcomes.{Outcome, Env, unless_false, unless_true, of_branch, outside}
use Rattle.cel_operators.specs.Wants.{side_of}
use Rattle.cel_value.specs.declared.expr.Loop.TheVariants as loop
use Rattle.cel_operators.specs.Loops.{inside}
use Rattle.cel_operators.specs.Operators.{row, at_one, at_two, outcome_made, charge_made}
use Rattle.cel_check.specs.Meaning.{value_of, priced_of, cost_of, values_at, values_priced, costs_at, loop_turns, where_turns}
use Rattle.cel_value.specs.Turns.{by_turns}
use Rattle.cel_operators.specs.Lists.{each_there, list_where}
use Rattle.cel_operators.specs.Maps.{map_where}
use Rattle.cel_operators.specs.TextOperators.{row_with}
use Rattle.cel_code.specs.Machine.{item_of, Frame, on, Ends, Stays, Run}
use Rattle.cel_expression.specs.Placed.{code_in, Has, Stands, literal, unary, binary, both, either, conditional, items, StandEach, no_items}
use Rattle.cel_expression.specs.Placed.{first_item, slot, entries, with_text, local, looped, mapped}
use Rattle.cel_code.specs.declared.instr.Instr.TheVariants as instr
use Rattle.cel_expression.specs.Correct.{Computes}
use Rattle.cel_check.proofs.Levels.{value_is, value_level, cost_level, turns_parts}
use Rattle.cel_expression.proofs.Stretches.{Gives, at_instr, gives_as}
use Rattle.cel_expression.proofs.OperatorRuns.{local_is, push_runs, slot_by, slot_runs, unary_runs, binary_runs, text_step, op_step}
use Rattle.cel_expression.proofs.BranchRuns.{and_runs, or_runs, conditional_runs}
use Rattle.cel_expression.proofs.ListRuns.{LongOf, there_long, values_long, turns_long, all_asked, GivesEach, front_runs, list_runs}
use Rattle.cel_expression.proofs.ListRuns.{map_runs}
use Rattle.cel_expression.proofs.LoopRuns.{where_charge, loop_cost, map_cost, at_item, next_runs, range_runs, where_runs}

module _ (image : Image) (slots : List Outcome) where
  -- what the slots and the open loops hold
  abbrev env_in : List Frame → Env
  env_in frames = record { slots = slots; locals = map (λ f. f.item) frames }

  -- the value that a cost asks for
  asked : (env : Env) (a : TypedTree) → (priced_of a).value env ≡ value_of a env
  asked env a = ap (λ v. v env) (value_is a)

  mutual
    tree_runs : (e : TypedTree) (from to : ℕ) (frames : List Frame) (stack : List Outcome) → Stands (code_in image) e from to
        → Gives image slots frames from stack to (value_of e (env_in frames)) (cost_of e (env_in frames))
    tree_runs e from to frames stack (literal v f p) =
        let env = env_in frames in
        gives_as image slots frames from to to stack _ _ _ _ refl (value_level e _ env f) (cost_level e _ env f)
        (push_runs image slots frames v from to stack p)
    tree_runs e from to frames stack (slot n f h next) =
        let env = env_in frames in
        gives_as image slots frames from (from + 1) to stack _ _ _ _ next (value_level e _ env f) (cost_level e _ env f)
        (slot_runs image slots frames n from stack h)
    tree_runs e from to frames stack (local d f h next) =
        let env = env_in frames in
        gives_as image slots frames from (from + 1) to stack _ _ _ _ next (value_level e _ env f ∙ local_is frames d) (cost_level e _ env f)
        (slot_by image slots frames d from stack (item_of (slice_get frames d)) (at_instr image slots frames from (Local d) stack h))
    tree_runs e from to frames stack (unary op a m f h i next) =
        let env = env_in frames in
        gives_as image slots frames from (m + 1) to stack _ _ _ _ next (value_level e _ env f)
        (cost_level e _ env f ∙ ap (λ o. cost_of a env + charge_made (at_one (row op) o)) (asked env a))
        (unary_runs image slots frames (row op) (value_of a env) from m stack (cost_of a env) (λ s. op_step image slots frames op m s i)
        (tree_runs a from m frames stack h))
    tree_runs e from to frames stack (binary op a b m n f h k i next) =
        let env = env_in frames in
        gives_as image slots frames from (n + 1) to stack _ _ _ _ next (value_level e _ env f)
        (cost_level e _ env f
        ∙ ap (λ o. (cost_of a env + cost_of b env) + charge_made (at_two (row op) o ((priced_of b).value env))) (asked env a)
        ∙ ap (λ o. (cost_of a env + cost_of b env) + charge_made (at_two (row op) (value_of a env) o)) (asked env b))
        (binary_runs image slots frames (row op) (value_of a env) (value_of b env) from m n stack (cost_of a env) (cost_of b env)
        (λ s. op_step image slots frames op n s i) (tree_runs a from m frames stack h) (λ s. tree_runs b m n frames s k))
    tree_runs e from to frames stack (both a b m n f h i k j next) =
        let env = env_in frames in
        let test : Has (code_in image) m (AndTest (n + 1)) = rw (sym next) i in
        gives_as image slots frames from (n + 1) to stack _ _ _ _ next (value_level e _ env f)
        (cost_level e _ env f ∙ ap (λ o. (cost_of a env + 1) + unless_false (side_of o) (cost_of b env)) (asked env a))
        (and_runs image slots frames (value_of a env) (value_of b env) from m n stack (cost_of a env) (cost_of b env) test j
        (tree_runs a from m frames stack h) (λ s. tree_runs b (m + 1) n frames s k))
    tree_runs e from to frames stack (either a b m n f h i k j next) =
        let env = env_in frames in
        let test : Has (code_in image) m (OrTest (n + 1)) = rw (sym next) i in
        gives_as image slots frames from (n + 1) to stack _ _ _ _ next (value_level e _ env f)
        (cost_level e _ env f ∙ ap (λ o. (cost_of a env + 1) + unless_true (side_of o) (cost_of b env)) (asked env a))
        (or_runs image slots frames (value_of a env) (value_of b env) from m n stack (cost_of a env) (cost_of b env) test j
        (tree_runs a from m frames stack h) (λ s. tree_runs b (m + 1) n frames s k))
    tree_runs e from to frames stack (conditional c a b m n f h i k j l) =
        let env = env_in frames in
        gives_as image slots frames from to to stack _ _ _ _ refl (value_level e _ env f)
        (cost_level e _ env f ∙ ap (λ o. (cost_of c env + 1) + of_branch (side_of o) (cost_of a env) (cost_of b env)) (asked env c))
        (conditional_runs image slots frames (value_of c env) (value_of a env) (value_of b env) from m n to stack
        (cost_of c env) (cost_of a env) (cost_of b env) i j
        (tree_runs c from m frames stack h) (tree_runs a (m + 1) n frames stack k) (tree_runs b (n + 1) to frames stack l))
    tree_runs e from to frames stack (items xs m f hs i after) =
        let env = env_in frames in
        gives_as image slots frames from (m + 1) to stack _ _ _ _ after (value_level e _ env f)
        (cost_level e _ env f
        ∙ ap (λ vs. costs_at (map priced_of xs) env + charge_made (list_where (each_there (values_at vs env)))) (all_asked xs))
        (list_runs image slots frames (length xs) (each_there (values_at (map value_of xs) env)) from m stack
        (costs_at (map priced_of xs) env)
        (subst (λ n. LongOf n (each_there (values_at (map value_of xs) env))) (values_long xs env)
        (there_long (values_at (map value_of xs) env)))
        i (each_runs xs from m frames stack hs))
    tree_runs e from to frames stack (entries es m f hs i after) =
        let env = env_in frames in
        let xs = by_turns es in
        let os = each_there (values_at (map value_of xs) env) in
        gives_as image slots frames from (m + 1) to stack _ _ _ _ after
        (value_level e _ env f ∙ ap (λ vs. outcome_made (map_where (each_there (values_at vs env)))) (turns_parts _ _ value_of es))
        (cost_level e _ env f
        ∙ ap (λ ps. costs_at ps env + charge_made (map_where (each_there (values_at (values_priced ps) env))))
        (turns_parts _ _ priced_of es)
        ∙ ap (λ vs. costs_at (map priced_of xs) env + charge_made (map_where (each_there (values_at vs env)))) (all_asked xs))
        (map_runs image slots frames (length es) os from m stack (costs_at (map priced_of xs) env)
        (subst (λ n. LongOf n os) (values_long xs env ∙ turns_long es) (there_long (values_at (map value_of xs) env)))
        i (each_runs xs from m frames stack hs))
    tree_runs e from to frames stack (with_text op a text m f h i after) =
        let env = env_in frames in
        let r = row_with op text in
        gives_as image slots frames from (m + 1) to stack _ _ _ _ after (value_level e _ env f)
        (cost_level e _ env f ∙ ap (λ o. cost_of a env + charge_made (at_one r o)) (asked env a))
        (unary_runs image slots frames r (value_of a env) from m stack (cost_of a env) (λ s. text_step image slots frames op text m s i)
        (tree_runs a from m frames stack h))
    tree_runs e from to frames stack (looped l a b m n f h i k j next) =
        let env = env_in frames in
        let begins : Has (code_in image) m (instr.Loop (loop_number l) (n + 1)) = rw (sym next) i.begins in
        let charges : Value → ℕ = λ v. cost_of b (inside v env) in
        gives_as image slots frames from (n + 1) to stack _ _ _ _ next (value_level e _ env f)
        (cost_level e _ env f
        ∙ ap (λ o. loop_cost l o (cost_of a env) (priced_of b).value charges env) (asked env a)
        ∙ ap (λ w. loop_cost l (value_of a env) (cost_of a env) w charges env) (value_is b))
        (range_runs image slots frames l m (n + 1) stack (loop_turns l (value_of b) env) charges i.item
        (λ v vs acc.
        next_runs image slots frames l m (n + 1) stack n v vs acc (value_of b (inside v env))
        (on (m + 2) stack (at_item image slots frames l m (n + 1) stack v vs acc ∷ frames)) (charges v) j
        (tree_runs b (m + 2) n (at_item image slots frames l m (n + 1) stack v vs acc ∷ frames) stack k))
        (value_of a env) from (cost_of a env) begins (tree_runs a from m frames stack h))
    tree_runs e from to frames stack (mapped a p b m k n f h i hp hw hb hn next) =
        let env = env_in frames in
        let begins : Has (code_in image) m (instr.Loop (loop_number loop.Map) (n + 1)) = rw (sym next) i.begins in
        let charges : Value → ℕ = λ v. where_charge (value_of p) (cost_of p) (cost_of b) env v in
        gives_as image slots frames from (n + 1) to stack _ _ _ _ next (value_level e _ env f)
        (cost_level e _ env f
        ∙ ap (λ o. map_cost o (cost_of a env) (priced_of p).value (priced_of b).value (cost_of p) (cost_of b) env) (asked env a)
        ∙ ap (λ w. map_cost (value_of a env) (cost_of a env) w (priced_of b).value (cost_of p) (cost_of b) env) (value_is p)
        ∙ ap (λ w. map_cost (value_of a env) (cost_of a env) (value_of p) w (cost_of p) (cost_of b) env) (value_is b))
        (range_runs image slots frames loop.Map m (n + 1) stack (where_turns (value_of p) (value_of b) env) charges i.item
        (λ v vs acc.
        where_runs image slots frames m k n (n + 1) stack hw hn (value_of p (inside v env)) (value_of b (inside v env)) v vs acc
        (on (m + 2) stack (at_item image slots frames loop.Map m (n + 1) stack v vs acc ∷ frames)) (cost_of p (inside v env))
        (cost_of b (inside v env))
        (tree_runs p (m + 2) k (at_item image slots frames loop.Map m (n + 1) stack v vs acc ∷ frames) stack hp)
        (tree_runs b (k + 1) n (at_item image slots frames loop.Map m (n + 1) stack v vs acc ∷ frames) stack hb))
        (value_of a env) from (cost_of a env) begins (tree_runs a from m frames stack h))

    each_runs : (xs : List TypedTree) (from to : ℕ) (frames : List Frame) (stack : List Outcome) → StandEach (code_in image) xs from to
        → GivesEach image slots frames from stack to (each_there (values_at (map value_of xs) (env_in frames)))
        (costs_at (map priced_of xs) (env_in frames))
    each_runs xs from to frames stack (no_items none same) = rw (none, same) (record { steps = 0; gets = Stays refl refl refl })
    each_runs xs from to frames stack (first_item a rest m is h hs) =
        let env = env_in frames in
        rw is
        (front_runs image slots frames (value_of a env) (each_there (values_at (map value_of rest) env)) from m to stack (cost_of a env)
        (costs_at (map priced_of rest) env)
        (tree_runs a from m frames stack h) (λ s. each_runs rest m to frames s hs))

  computes_from : (to : ℕ) (o : Option Outcome) (c : ℕ) → Has (code_in image) to End → Gives image slots [] 0 [] to o c → (x : Outcome)
      → o ≡ Some x → (steps : ℕ) × Run image slots x c steps
  computes_from to None c h l x e = cc
  computes_from to (Some y) c h l x e =
      let same : y ≡ x = cc in (
        l.steps + 1,
        record {
          last = on to (y ∷ []) [];
          before = l.steps;
          gets = l.gets;
          ends = at_instr image slots [] to End (y ∷ []) h
              ∙ ap Ends same;
          count = refl;
        },
      )

  pub runs : (e : TypedTree) (to : ℕ) → Stands (code_in image) e 0 to → Has (code_in image) to End → (x : Outcome)
      → value_of e (outside slots) ≡ Some x → (steps : ℕ) × Run image slots x (cost_of e (outside slots)) steps
  runs e to h end x q = computes_from to (value_of e (outside slots)) (cost_of e (outside slots)) end (tree_runs e 0 to [] [] h) x q

pub computes : (image : Image) (e : TypedTree) (to : ℕ) → Stands (code_in image) e 0 to → Has (code_in image) to End → Computes image e
computes image e to h end = λ slots x q. runs image slots e to h end x q
