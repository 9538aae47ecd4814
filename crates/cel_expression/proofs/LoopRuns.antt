-- What the code of loops does, item by item.
use Rattle.std.proofs.Common.{◌≡◌, ℕ, ◌+◌, true, false, List, [], ◌∷◌, Option, Some, None, refl, sym, ap, ◌∙◌, subst, arith}
use Rattle.std.specs.Prelude.{Result, Ok, Err}
use Rattle.cel_value.specs.declared.value.Value.{Value}
use Rattle.cel_code.specs.LoopNumbers.{loop_number}
use Rattle.cel_code.specs.declared.instr.Instr.TheVariants.{Item, When}
use Rattle.cel_code.specs.declared.image.Image.{Image}
use Rattle.cel_operators.specs.Outcomes.{Outcome, Env, Side, of_branch}
use Rattle.cel_value.specs.declared.cel_error.CelError.{CelError}
use Rattle.cel_operators.specs.Wants.{side_of, taken}
use Rattle.cel_operators.specs.declared.operands.Want.TheVariants.{Ranged}
use Rattle.cel_value.specs.declared.expr.Loop.{Loop}
use Rattle.cel_value.specs.declared.expr.Loop.TheVariants as loop
use Rattle.cel_operators.specs.declared.accumulator.Accumulator.{Accumulator}
use Rattle.cel_operators.specs.Loops.{inside, nothing_yet, Turn, Closes, GoesOn, turn, turn_where, result_of, behind_turn, over_items}
use Rattle.cel_operators.specs.Loops.{charged_behind, cost_of_items, over_range, cost_over}
use Rattle.cel_check.specs.Meaning.{Valuation, loop_turns, where_turns}
use Rattle.cel_code.specs.Machine.{opened, opened_by, gone_on, turned, tested, Frame, State, on, Goes, step}
use Rattle.cel_expression.specs.Placed.{code_in, Has}
use Rattle.cel_code.specs.declared.instr.Instr.TheVariants as instr
use Rattle.cel_code.proofs.LoopNumbers.{loop_kind-loop_number}
use Rattle.cel_expression.proofs.Stretches.{Leads, leads_on, costs, one_step, GivesFrom, gives_on, acts, Gives, at_instr}

-- a body without an outcome has no turn
turn_none : (l : Loop) (v : Value) (a : Accumulator) → turn l v a None ≡ None
turn_none loop.All v a = refl
turn_none loop.Exists v a = refl
turn_none loop.ExistsOne v a = refl
turn_none loop.Filter v a = refl
turn_none loop.Map v a = refl

-- what `map` with a predicate charges at an item, in addition to the visit
abbrev pub where_charge : Valuation → (Env → ℕ) → (Env → ℕ) → Env → Value → ℕ
where_charge p c d env v = c (inside v env) + of_branch (side_of (p (inside v env))) (d (inside v env)) 0

-- what a loop charges, by the value and the cost of its range, the values of its body and what its body charges
abbrev pub loop_cost : Loop → Option Outcome → ℕ → Valuation → (Value → ℕ) → Env → ℕ
loop_cost l o c w charges env =
    c + 1 + cost_over (taken Ranged o) (λ vs. cost_of_items (loop_turns l w env) charges vs nothing_yet)

-- likewise `map` with a predicate
abbrev pub map_cost : Option Outcome → ℕ → Valuation → Valuation → (Env → ℕ) → (Env → ℕ) → Env → ℕ
map_cost o c p w d e env =
    c + 1 + cost_over (taken Ranged o) (λ vs. cost_of_items (where_turns p w env) (where_charge p d e env) vs nothing_yet)

-- the state after an item, and after a turn
abbrev behind_item : Frame → List Value → Accumulator → List Outcome → List Frame → State
behind_item f [] a stack frames = on f.exit (result_of f.mode a ∷ stack) frames
behind_item f (v ∷ vs) a stack frames = on (f.start + 1) stack (record f { gathered = a } ∷ frames)

abbrev turned_to : Frame → Turn → List Outcome → List Frame → State
turned_to f (Closes x) stack frames = on f.exit (x ∷ stack) frames
turned_to f (GoesOn a) stack frames = behind_item f f.left a stack frames

goes_behind : (f : Frame) (vs : List Value) (a : Accumulator) (stack : List Outcome) (frames : List Frame)
    → gone_on f vs a stack frames ≡ Goes 0 (behind_item f vs a stack frames)
goes_behind f [] a stack frames = refl
goes_behind f (v ∷ vs) a stack frames = refl

turns_to : (f : Frame) (t : Turn) (stack : List Outcome) (frames : List Frame)
    → turned f (Some t) stack frames ≡ Goes 0 (turned_to f t stack frames)
turns_to f (Closes x) stack frames = refl
turns_to f (GoesOn a) stack frames = goes_behind f f.left a stack frames

module _ (image : Image) (slots : List Outcome) where
  module _ (frames : List Frame) where
    -- the turns of a loop, whose LOOP is at m and which leads to a place
    module _ (l : Loop) (m to : ℕ) (stack : List Outcome) where
      -- the loop at an item, with these left
      abbrev pub at_item : Value → List Value → Accumulator → Frame
      at_item v vs a = record { start = m; exit = to; mode = l; item = v; left = vs; gathered = a }

      -- what a turn does, from a state
      abbrev TurnsFrom : State → Frame → Option Turn → ℕ → Type 0
      TurnsFrom s f None cost = Unit {0}
      TurnsFrom s f (Some t) cost = Leads image slots s (turned_to f t stack frames) cost

      turns_on : (s r : State) (f : Frame) (t : Option Turn) (c d : ℕ) → Leads image slots s r c → TurnsFrom r f t d
          → TurnsFrom s f t (c + d)
      turns_on s r f None c d x y = tt
      turns_on s r f (Some t) c d x y = leads_on image slots s r _ c d x y

      turned_runs : (t : Option Turn) (f : Frame) (s r : State) (c : ℕ) → Leads image slots s r c
          → step image slots r ≡ turned f t stack frames → TurnsFrom s f t c
      turned_runs None f s r c x e = tt
      turned_runs (Some t) f s r c x e =
          costs image slots s _ (c + 0) c (omega arith)
          (leads_on image slots s r _ c 0 x (one_step image slots r _ 0 (e ∙ turns_to f t stack frames)))

      pub next_runs : (n : ℕ) (v : Value) (vs : List Value) (a : Accumulator) (o : Option Outcome) (s : State) (c : ℕ)
          → Has (code_in image) n instr.Next
          → GivesFrom image slots (at_item v vs a ∷ frames) s stack n o c → TurnsFrom s (at_item v vs a) (turn l v a o) c
      next_runs n v vs a None s c h x = subst (λ t. TurnsFrom s (at_item v vs a) t c) (sym (turn_none l v a)) tt
      next_runs n v vs a (Some y) s c h x =
          turned_runs (turn l v a (Some y)) (at_item v vs a) s (on n (y ∷ stack) (at_item v vs a ∷ frames)) c x
          (acts image slots (at_item v vs a ∷ frames) n instr.Next (y ∷ stack) h)

      -- if the body takes a turn from each item
      module _ (turns : Value → Accumulator → Option Turn) (charges : Value → ℕ) (hi : Has (code_in image) (m + 1) Item)
          (runs : (v : Value) (vs : List Value) (a : Accumulator)
          → TurnsFrom (on (m + 2) stack (at_item v vs a ∷ frames)) (at_item v vs a) (turns v a) (charges v)) where
        -- from ITEM on, with these items left
        abbrev Rest : Value → List Value → Accumulator → Type 0
        Rest v [] a = Unit {0}
        Rest v (w ∷ ws) a =
            GivesFrom image slots frames (on (m + 1) stack (at_item v (w ∷ ws) a ∷ frames)) stack to (over_items l turns (w ∷ ws) a)
            (cost_of_items turns charges (w ∷ ws) a)

        turn_runs : (t : Option Turn) (v : Value) (vs : List Value) (a : Accumulator) (s : State) (c : ℕ) → TurnsFrom s (at_item v vs a) t c
            → ((b : Accumulator) → Rest v vs b)
            → GivesFrom image slots frames s stack to (behind_turn t (over_items l turns vs))
            (c + charged_behind t (cost_of_items turns charges vs))
        turn_runs None v vs a s c x rest = tt
        turn_runs (Some (Closes y)) v vs a s c x rest = costs image slots s _ c (c + 0) (omega arith) x
        turn_runs (Some (GoesOn b)) v [] a s c x rest = costs image slots s _ c (c + 0) (omega arith) x
        turn_runs (Some (GoesOn b)) v (w ∷ ws) a s c x rest =
            gives_on image slots frames s _ stack to (over_items l turns (w ∷ ws) b) c (cost_of_items turns charges (w ∷ ws) b) _ x
            (rest b) refl

        item_runs : (v w : Value) (ws : List Value) (a : Accumulator)
            → Leads image slots (on (m + 1) stack (at_item v (w ∷ ws) a ∷ frames)) (on (m + 2) stack (at_item w ws a ∷ frames)) 1
        item_runs v w ws a =
            let two : m + 1 + 1 ≡ m + 2 = omega arith in
            subst (λ k. Leads image slots (on (m + 1) stack (at_item v (w ∷ ws) a ∷ frames)) (on k stack (at_item w ws a ∷ frames)) 1) two
            (one_step image slots _ _ 1 (acts image slots (at_item v (w ∷ ws) a ∷ frames) (m + 1) Item stack hi))

        turns_from : (v w : Value) (ws : List Value) (a : Accumulator) → ((b : Accumulator) → Rest w ws b) → Rest v (w ∷ ws) a
        turns_from v w ws a rest =
            turn_runs (turns w a) w ws a _ (1 + charges w)
            (turns_on _ _ (at_item w ws a) (turns w a) 1 (charges w) (item_runs v w ws a) (runs w ws a)) rest

        items_run : (vs : List Value) (v w : Value) (a : Accumulator) → Rest v (w ∷ vs) a
        items_run [] v w a = turns_from v w [] a (λ b. tt)
        items_run (x ∷ vs) v w a = turns_from v w (x ∷ vs) a (λ b. items_run vs w x b)

        opened_runs : (o : Option (Result (List Value) CelError)) (s : State) (x : Outcome) (c : ℕ)
            → Leads image slots s (on m (x ∷ stack) frames) c → step image slots (on m (x ∷ stack) frames) ≡ opened l o to m stack frames
            → GivesFrom image slots frames s stack to (over_range o (λ vs. over_items l turns vs nothing_yet))
            (c + 1 + cost_over o (λ vs. cost_of_items turns charges vs nothing_yet))
        opened_runs None s x c h e = tt
        opened_runs (Some (Err f)) s x c h e =
            costs image slots s _ (c + 1) _ (omega arith) (leads_on image slots s _ _ c 1 h (one_step image slots _ _ 1 e))
        opened_runs (Some (Ok [])) s x c h e =
            costs image slots s _ (c + 1) _ (omega arith) (leads_on image slots s _ _ c 1 h (one_step image slots _ _ 1 e))
        opened_runs (Some (Ok (v ∷ vs))) s x c h e =
            gives_on image slots frames s _ stack to (over_items l turns (v ∷ vs) nothing_yet) (c + 1)
            (cost_of_items turns charges (v ∷ vs) nothing_yet) _ (leads_on image slots s _ _ c 1 h (one_step image slots _ _ 1 e))
            (items_run vs v v nothing_yet) refl

        pub range_runs : (o : Option Outcome) (from c : ℕ) → Has (code_in image) m (instr.Loop (loop_number l) to)
            → Gives image slots frames from stack m o c
            → Gives image slots frames from stack to (over_range (taken Ranged o) (λ vs. over_items l turns vs nothing_yet))
            (c + 1 + cost_over (taken Ranged o) (λ vs. cost_of_items turns charges vs nothing_yet))
        range_runs None from c h x = tt
        range_runs (Some y) from c h x =
            opened_runs (taken Ranged (Some y)) (on from stack frames) y c x
            (at_instr image slots frames m (instr.Loop (loop_number l) to) (y ∷ stack) h
            ∙ ap (λ o. opened_by o (taken Ranged (Some y)) to m stack frames) (loop_kind-loop_number l))

    -- the turns of `map` with a predicate
    module _ (m k n to : ℕ) (stack : List Outcome) (hw : Has (code_in image) k When) (hn : Has (code_in image) n instr.Next) where
      abbrev at_map : Value → List Value → Accumulator → Frame
      at_map v vs a = at_item loop.Map m to stack v vs a

      when_step : (x : Outcome) (o : Option Side) (v : Value) (vs : List Value) (a : Accumulator) → side_of (Some x) ≡ o
          → step image slots (on k (x ∷ stack) (at_map v vs a ∷ frames)) ≡ tested (at_map v vs a) o k stack frames
      when_step x o v vs a e =
          acts image slots (at_map v vs a ∷ frames) k When (x ∷ stack) hw ∙ ap (λ q. tested (at_map v vs a) q k stack frames) e

      where_by : (x : Outcome) (o : Option Side) (ob : Option Outcome) (v : Value) (vs : List Value) (a : Accumulator) (s : State) (c d : ℕ)
          → side_of (Some x) ≡ o → Leads image slots s (on k (x ∷ stack) (at_map v vs a ∷ frames)) c
          → GivesFrom image slots (at_map v vs a ∷ frames) (on (k + 1) stack (at_map v vs a ∷ frames)) stack n ob d
          → TurnsFrom loop.Map m to stack s (at_map v vs a) (turn_where a o ob) (c + of_branch o d 0)
      where_by x None ob v vs a s c d e l r = tt
      where_by x (Some (Err f)) ob v vs a s c d e l r =
          leads_on image slots s _ _ c 0 l (one_step image slots _ _ 0 (when_step x (Some (Err f)) v vs a e))
      where_by x (Some (Ok false)) ob v vs a s c d e l r =
          leads_on image slots s _ _ c 0 l (one_step image slots _ _ 0
          (when_step x (Some (Ok false)) v vs a e ∙ goes_behind (at_map v vs a) vs a stack frames))
      where_by x (Some (Ok true)) ob v vs a s c d e l r =
          let after = on (k + 1) stack (at_map v vs a ∷ frames) in
          let holds : Leads image slots s after c =
          costs image slots s _ (c + 0) c (omega arith)
          (leads_on image slots s _ _ c 0 l (one_step image slots _ _ 0 (when_step x (Some (Ok true)) v vs a e))) in
          turns_on loop.Map m to stack s after (at_map v vs a) (turn loop.Map v a ob) c d holds
          (next_runs loop.Map m to stack n v vs a ob after d hn r)

      pub where_runs : (oa ob : Option Outcome) (v : Value) (vs : List Value) (a : Accumulator) (s : State) (c d : ℕ)
          → GivesFrom image slots (at_map v vs a ∷ frames) s stack k oa c
          → GivesFrom image slots (at_map v vs a ∷ frames) (on (k + 1) stack (at_map v vs a ∷ frames)) stack n ob d
          → TurnsFrom loop.Map m to stack s (at_map v vs a) (turn_where a (side_of oa) ob) (c + of_branch (side_of oa) d 0)
      where_runs None ob v vs a s c d l r = tt
      where_runs (Some x) ob v vs a s c d l r = where_by x (side_of (Some x)) ob v vs a s c d refl l r
