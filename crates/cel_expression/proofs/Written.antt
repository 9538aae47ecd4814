-- What is written for an expression is as the expression is laid out.
use Rattle.std.proofs.Common.{◌≡◌, ℕ, ◌+◌, Some, List, [], ◌∷◌, ◌++◌, false}
use Rattle.std.proofs.Common.{length, refl, sym, ap, ◌∙◌, subst, arith, append_assoc, None}
use Rattle.std.specs.Prelude.{slice_get, Contains}
use Rattle.std.proofs.lemmas.List.{append-nil}
use Rattle.std.proofs.Math.Seq.{append_snoc}
use Rattle.cel_value.specs.declared.cel_type.CelType.{CelType}
use Rattle.cel_value.specs.declared.value.Value.{Value}
use Rattle.cel_value.specs.declared.value.Value as value
use Rattle.cel_value.specs.declared.expr.Entry.{Entry}
use Rattle.cel_operators.specs.declared.text_operator.TextOperator.{TextOperator}
use Rattle.cel_check.proofs.Levels.{turns_parts}
use Rattle.cel_operators.specs.declared.operator.Operator.{Operator}
use Rattle.cel_check.specs.declared.tree.TypedTree.{TypedTree, out-TypedTree}
use Rattle.cel_check.specs.declared.tree.TypedTree.TheFolds.{map-TypedTree, fold_out-TypedTree}
use Rattle.cel_check.specs.declared.tree.Form.{Form}
use Rattle.cel_value.specs.declared.expr.Loop.{Loop}
use Rattle.cel_check.specs.declared.tree.Form.TheVariants as form
use Rattle.cel_expression.specs.declared.compiler.Draft.{Draft}
use Rattle.cel_code.specs.declared.image.Target.{Target}
use Rattle.cel_code.specs.declared.image.Image.{Image}
use Rattle.cel_code.specs.declared.instr.Instr.TheVariants.{End}
use Rattle.cel_expression.specs.Compiled.{EachOnce, nothing, first, again, IsCompiled, Layout, target, targets_from, layout_step, layout_of}
use Rattle.cel_expression.specs.Compiled.{sizes_of, literals_of, targets_of}
use Rattle.cel_check.specs.Typing.{root_types}
use Rattle.cel_expression.specs.Drafts.{drafted, Grows, WritesWithin, Writes, WritesEach, layouts_of}
use Rattle.cel_check.specs.Meaning.{type_of}
use Rattle.cel_value.specs.Turns.{by_turns}
use Rattle.cel_expression.specs.Placed.{code_in, with_instr, Emits}
use Rattle.cel_expression.proofs.Place.{contains_at, placed}

-- the layout of one level
pub laid : (e : TypedTree) (f : Form TypedTree) → (out-TypedTree e).form ≡ f
    → layout_of e ≡ layout_step (map-TypedTree _ _ layout_of (record { cel_type = type_of e; form = f }))
laid e f h =
    fold_out-TypedTree Layout layout_step e
    ∙ ap (λ g. layout_step (map-TypedTree _ _ layout_of (record { cel_type = type_of e; form = g }))) h

-- a level of several parts and one instruction
abbrev laid_each : CelType → List Layout → Layout
laid_each t xs = record { type = t; size = sizes_of xs + 1; literals = literals_of xs; joins = false; within = targets_of xs }

-- the layout of keys and values by turns
pub laid_map : (e : TypedTree) (es : List (Entry TypedTree)) → (out-TypedTree e).form ≡ form.MapOf es
    → layout_of e ≡ laid_each (type_of e) (layouts_of (by_turns es))
laid_map e es h = laid e _ h ∙ ap (laid_each (type_of e)) (turns_parts TypedTree Layout layout_of es)

pub type_laid : (e : TypedTree) → (layout_of e).type ≡ type_of e
type_laid e = ap (λ l. l.type) (fold_out-TypedTree Layout layout_step e)

module _ (a b c : Draft) where
  -- one stretch after another
  grows_on : (m n : ℕ) (vs ws : List Value) (ts us : List Target) → Grows a b m vs ts → Grows b c n ws us
      → Grows a c (m + n) (vs ++ ws) (ts ++ us)
  grows_on m n vs ws ts us g h = record {
    size = omega (arith, g.size, h.size);
    constants = λ before once. subst (λ l. EachOnce l c.constants) (append_assoc before vs ws)
        (h.constants (before ++ vs) (g.constants before once));
    targets = h.targets ∙ ap (λ l. l ++ us) g.targets ∙ append_assoc a.targets ts us;
    below = h.below ∙ g.below;
  }

  -- code alone
  pub grows_code : (m n : ℕ) (vs : List Value) (ts : List Target) → Grows a b m vs ts → Grows b c n [] [] → Grows a c (m + n) vs ts
  grows_code m n vs ts g h =
      rw (sym (append-nil vs), sym (append-nil ts)) (grows_on m n vs [] ts [] g h)

  -- an operand after another
  grows_by : (m : ℕ) (vs : List Value) (ts : List Target) (e : TypedTree) (from : ℕ) (below under : List CelType) → Grows a b m vs ts
      → Writes b c e under → length b.code ≡ from → under ≡ below
      → Grows a c (m + (layout_of e).size) (vs ++ (layout_of e).literals) (ts ++ targets_from (layout_of e) from below)
  grows_by m vs ts e from below under g w here same =
      rw (sym here, sym same) (grows_on m _ vs _ ts _ g w.grows)

grows_as : (a b : Draft) (m n : ℕ) (vs ws : List Value) (ts us : List Target) → n ≡ m → ws ≡ vs → us ≡ ts
    → Grows a b m vs ts → Grows a b n ws us
grows_as a b m n vs ws ts us e f g h = rw (e, f, g) h

-- a literal that is there
pub grows_found : (draft : Draft) (v : Value) (k : ℕ) → slice_get draft.constants k ≡ Some v → Grows draft draft 0 (v ∷ []) []
grows_found draft v k h = record {
  size = omega arith;
  constants = λ before once. again before v once (contains_at draft.constants k v h) refl;
  targets = sym (append-nil draft.targets);
  below = refl;
}

-- a literal that is new
pub grows_new : (old new : Draft) (v w : Value) → w ≡ v → ¬ Contains old.constants v → new.constants ≡ old.constants ++ w ∷ []
    → new.code ≡ old.code → new.targets ≡ old.targets → new.below ≡ old.below → Grows old new 0 (v ∷ []) []
grows_new old new v w same fresh added code targets below = record {
  size = omega (arith, ap length code);
  constants = λ before once. first before old.constants v once fresh refl (added ∙ ap (λ x. old.constants ++ x ∷ []) same);
  targets = targets ∙ sym (append-nil old.targets);
  below = below;
}

pub writes_binary : (old d1 d2 new : Draft) (e : TypedTree) (op : Operator) (a b a' b' l : TypedTree)
    → (out-TypedTree e).form ≡ form.Binary op a b → a' ≡ a → b' ≡ b → l ≡ a → Writes old d1 a' old.below
    → Writes d1 d2 b' (d1.below ++ type_of l ∷ []) → Grows d2 new 1 [] [] → WritesWithin old new e old.below
writes_binary old d1 d2 new e op a b a' b' l is sa sb sl wa wb g =
    let wa : Writes old d1 a old.below = rw (sym sa) wa in
    let wb : Writes d1 d2 b (d1.below ++ type_of a ∷ []) = rw (sym sb, sym sl) wb in
    let under : d1.below ++ type_of a ∷ [] ≡ old.below ++ (layout_of a).type ∷ [] = rw (wa.grows.below, type_laid a) refl in
    let both = grows_by old d1 d2 _ _ _ b _ _ _ wa.grows wb wa.grows.size under in
    record { grows = rw (laid e _ is) (grows_code old d2 new _ _ _ _ both g) }

-- both sides of `&&` or `||`
two_sides : (old d1 d2 d3 d4 new : Draft) (a b a' b' l : TypedTree) → a' ≡ a → b' ≡ b → l ≡ a → Writes old d1 a' old.below
    → Grows d1 d2 1 [] [] → Writes d2 d3 b' (d2.below ++ type_of l ∷ []) → Grows d3 d4 1 [] [] → Grows d4 new 0 [] []
    → Grows old new ((layout_of a).size + 1 + (layout_of b).size + 1) ((layout_of a).literals ++ (layout_of b).literals)
    (targets_from (layout_of a) (length old.code) old.below ++ targets_from (layout_of b) (length old.code + (layout_of a).size + 1)
    (old.below ++ (layout_of a).type ∷ []))
two_sides old d1 d2 d3 d4 new a b a' b' l sa sb sl wa ga wb gb gc =
    let wa : Writes old d1 a old.below = rw (sym sa) wa in
    let wb : Writes d2 d3 b (d2.below ++ type_of a ∷ []) = rw (sym sb, sym sl) wb in
    let left = grows_code old d1 d2 _ _ _ _ wa.grows ga in
    let here : length d2.code ≡ length old.code + (layout_of a).size + 1 = omega (arith, left.size) in
    let under : d2.below ++ type_of a ∷ [] ≡ old.below ++ (layout_of a).type ∷ [] = rw (left.below, type_laid a) refl in
    let both = grows_by old d2 d3 _ _ _ b _ _ _ left wb here under in
    grows_as _ _ _ _ _ _ _ _ (omega arith) refl refl (grows_code old d4 new _ _ _ _ (grows_code old d3 d4 _ _ _ _ both gb) gc)

pub writes_both : (old d1 d2 d3 d4 new : Draft) (e a b a' b' l : TypedTree) → (out-TypedTree e).form ≡ form.And a b → a' ≡ a
    → b' ≡ b → l ≡ a → Writes old d1 a' old.below → Grows d1 d2 1 [] [] → Writes d2 d3 b' (d2.below ++ type_of l ∷ [])
    → Grows d3 d4 1 [] [] → Grows d4 new 0 [] [] → WritesWithin old new e old.below
writes_both old d1 d2 d3 d4 new e a b a' b' l is sa sb sl wa ga wb gb gc =
    record { grows = rw (laid e _ is) (two_sides old d1 d2 d3 d4 new a b a' b' l sa sb sl wa ga wb gb gc) }

pub writes_either : (old d1 d2 d3 d4 new : Draft) (e a b a' b' l : TypedTree) → (out-TypedTree e).form ≡ form.Or a b → a' ≡ a
    → b' ≡ b → l ≡ a → Writes old d1 a' old.below → Grows d1 d2 1 [] [] → Writes d2 d3 b' (d2.below ++ type_of l ∷ [])
    → Grows d3 d4 1 [] [] → Grows d4 new 0 [] [] → WritesWithin old new e old.below
writes_either old d1 d2 d3 d4 new e a b a' b' l is sa sb sl wa ga wb gb gc =
    record { grows = rw (laid e _ is) (two_sides old d1 d2 d3 d4 new a b a' b' l sa sb sl wa ga wb gb gc) }

pub writes_conditional : (old d1 d2 d3 d4 d5 d6 d7 new : Draft) (e c a b : TypedTree) → (out-TypedTree e).form ≡ form.Conditional c a b
    → Writes old d1 c old.below → Grows d1 d2 1 [] [] → Writes d2 d3 a d2.below → Grows d3 d4 1 [] []
    → Grows d4 d5 0 [] (target (length d4.code) d4.below ∷ []) → WritesWithin d5 d6 b d5.below → Grows d6 d7 0 [] []
    → Grows d7 new 0 [] [] → WritesWithin old new e old.below
writes_conditional old d1 d2 d3 d4 d5 d6 d7 new e c a b is wc gc wa ga gt wb gp gq =
    let test = grows_code old d1 d2 _ _ _ _ wc.grows gc in
    let here : length d2.code ≡ length old.code + (layout_of c).size + 1 = omega (arith, test.size) in
    let yes = grows_by old d2 d3 _ _ _ a _ _ _ test wa here test.below in
    let jump = grows_code old d3 d4 _ _ _ _ yes ga in
    let there : length d4.code ≡ length old.code + (layout_of c).size + 1 + (layout_of a).size + 1 = omega (arith, jump.size) in
    let begins : Grows d4 d5 0 [] (target (length old.code + (layout_of c).size + 1 + (layout_of a).size + 1) old.below ∷ []) =
    rw (sym there, sym jump.below) gt in
    let no_from : length d5.code ≡ length old.code + (layout_of c).size + 1 + (layout_of a).size + 1 = omega (arith, begins.size) in
    let no_below : d5.below ≡ old.below = begins.below ∙ jump.below in
    let no_branch : Grows d5 d6 (layout_of b).size (layout_of b).literals
    ((layout_of b).within (length old.code + (layout_of c).size + 1 + (layout_of a).size + 1) old.below) =
    rw (sym no_from, sym no_below) wb.grows in
    let all = grows_on old d5 d6 _ _ _ _ _ _ (grows_on old d4 d5 _ _ _ _ _ _ jump begins) no_branch in
    let patched = grows_code old d7 new _ _ _ _ (grows_code old d6 d7 _ _ _ _ all gp) gq in
    record {
      grows = rw (laid e _ is) (grows_as _ _ _ _ _ _ _ _ (omega arith)
          (rw (append-nil ((layout_of c).literals ++ (layout_of a).literals)) refl) (sym (append_snoc _ _ _)) patched);
    }

pub writes_none : (old new : Draft) → new ≡ old → WritesEach old new []
writes_none old new same =
    rw same
    (record {
      size = omega arith;
      constants = λ before once. subst (λ l. EachOnce l old.constants) (sym (append-nil before)) once;
      targets = sym (append-nil old.targets);
      below = sym (append-nil old.below);
    })

-- an expression in front of others, whose type is put on those below
pub writes_first : (old d1 d2 new : Draft) (a : TypedTree) (rest : List TypedTree) → Writes old d1 a old.below
    → drafted d2 ≡ drafted d1 → d2.targets ≡ d1.targets → d2.below ≡ d1.below ++ type_of a ∷ [] → WritesEach d2 new rest
    → WritesEach old new (a ∷ rest)
writes_first old d1 d2 new a rest wa code targets under w =
    let code_is : d2.code ≡ d1.code = ap (λ c. c.instrs) code in
    let constants_are : d2.constants ≡ d1.constants = ap (λ c. c.constants) code in
    let here : length d2.code ≡ length old.code + (layout_of a).size = ap length code_is ∙ wa.grows.size in
    let under_is : d2.below ≡ old.below ++ (layout_of a).type ∷ [] =
    under ∙ ap (λ b. b ++ type_of a ∷ []) wa.grows.below ∙ ap (λ t. old.below ++ t ∷ []) (sym (type_laid a)) in
    let below_is : d2.below ≡ old.below ++ type_of a ∷ [] = under ∙ ap (λ b. b ++ type_of a ∷ []) wa.grows.below in
    let ts = targets_from (layout_of a) (length old.code) old.below in
    record {
      size = omega (arith, here, w.size);
      constants = λ before once.
          subst (λ l. EachOnce l new.constants) (append_assoc before (layout_of a).literals (literals_of (layouts_of rest)))
          (w.constants (before ++ (layout_of a).literals)
          (subst (λ cs. EachOnce (before ++ (layout_of a).literals) cs) (sym constants_are) (wa.grows.constants before once)));
      targets =
          w.targets
          ∙ ap (λ us. us ++ targets_of (layouts_of rest) (length d2.code) d2.below) (targets ∙ wa.grows.targets)
          ∙ ap (λ n. (old.targets ++ ts) ++ targets_of (layouts_of rest) n d2.below) here
          ∙ ap (λ b. (old.targets ++ ts) ++ targets_of (layouts_of rest) (length old.code + (layout_of a).size) b) under_is
          ∙ append_assoc old.targets ts _;
      below = w.below ∙ ap (λ b. b ++ root_types rest) below_is ∙ append_assoc old.below (type_of a ∷ []) (root_types rest);
    }

-- keys and values by turns, and the instruction after them
pub writes_entries : (old d1 d2 new : Draft) (e : TypedTree) (es fs : List (Entry TypedTree)) → (out-TypedTree e).form ≡ form.MapOf es
    → fs ≡ es → WritesEach old d1 (by_turns fs) → drafted d2 ≡ drafted d1 → d2.targets ≡ d1.targets → d2.below ≡ old.below
    → Grows d2 new 1 [] [] → WritesWithin old new e old.below
writes_entries old d1 d2 new e es fs is same w code targets under g =
    let w : WritesEach old d1 (by_turns es) = rw (sym same) w in
    let xs = layouts_of (by_turns es) in
    let all : Grows old d2 (sizes_of xs) (literals_of xs) (targets_of xs (length old.code) old.below) =
    record {
      size = ap (λ c. length c.instrs) code ∙ w.size;
      constants = λ before once. subst (λ cs. EachOnce (before ++ literals_of xs) cs) (sym (ap (λ c. c.constants) code))
          (w.constants before once);
      targets = targets ∙ w.targets;
      below = under;
    } in
    record { grows = rw (laid_map e es is) (grows_code old d2 new _ _ _ _ all g) }

-- an operand, the text among the constants, and the instruction
pub writes_with_text : (old d1 d2 new : Draft) (e : TypedTree) (op : TextOperator) (a a' : TypedTree) (text : List ℕ)
    → (out-TypedTree e).form ≡ form.WithText op a text → a' ≡ a → Writes old d1 a' old.below
    → Grows d1 d2 0 (value.Text text ∷ []) [] → Grows d2 new 1 [] [] → WritesWithin old new e old.below
writes_with_text old d1 d2 new e op a a' text is same wa gi gp =
    let wa : Writes old d1 a old.below = rw (sym same) wa in
    let ts = targets_from (layout_of a) (length old.code) old.below in
    let both = grows_on old d1 d2 _ _ _ _ _ _ wa.grows gi in
    record {
      grows = rw (laid e _ is) (grows_as _ _ _ _ _ _ _ _ (omega arith) refl (sym (append-nil ts))
          (grows_code old d2 new _ _ _ _ both gp));
    }

-- what is written over nothing; the types below are put aside and come back
pub writes_body : (old d1 d2 new : Draft) (e : TypedTree) → drafted d1 ≡ drafted old → d1.targets ≡ old.targets → d1.below ≡ []
    → Writes d1 d2 e d1.below → drafted new ≡ drafted d2 → new.targets ≡ d2.targets → new.below ≡ old.below → Writes old new e []
writes_body old d1 d2 new e aside targets empty w back targets' below =
    let w : Writes d1 d2 e [] = rw (sym empty) w in
    let more = (layout_of e).literals in
    record {
      grows = record {
        size = ap (λ c. length c.instrs) back ∙ w.grows.size ∙ ap (λ c. length c.instrs + (layout_of e).size) aside;
        constants = λ before once.
            subst (λ cs. EachOnce (before ++ more) cs) (sym (ap (λ c. c.constants) back))
            (w.grows.constants before (subst (λ cs. EachOnce before cs) (sym (ap (λ c. c.constants) aside)) once));
        targets =
            targets'
            ∙ w.grows.targets
            ∙ ap (λ ts. ts ++ targets_from (layout_of e) (length d1.code) []) targets
            ∙ ap (λ c. old.targets ++ targets_from (layout_of e) (length c.instrs) []) aside;
        below = below;
      };
    }

-- a range, the beginning of a loop, its body and its end
pub writes_loop : (old d1 d2 d3 new : Draft) (e a b : TypedTree) (l : Loop) → (out-TypedTree e).form ≡ form.Loop l a b
    → Writes old d1 a old.below → Grows d1 d2 2 [] [] → Writes d2 d3 b [] → Grows d3 new 1 [] [] → WritesWithin old new e old.below
writes_loop old d1 d2 d3 new e a b l is wa gl wb gn =
    let begun = grows_code old d1 d2 _ _ _ _ wa.grows gl in
    let here : length d2.code ≡ length old.code + (layout_of a).size + 2 = omega (arith, begun.size) in
    let body = grows_by old d2 d3 _ _ _ b _ [] [] begun wb here refl in
    record { grows = rw (laid e _ is) (grows_code old d3 new _ _ _ _ body gn) }

-- likewise with a predicate and its test in front of the body
pub writes_map_where : (old d1 d2 d3 d4 d5 new : Draft) (e a p b : TypedTree) → (out-TypedTree e).form ≡ form.MapWhere a p b
    → Writes old d1 a old.below → Grows d1 d2 2 [] [] → Writes d2 d3 p [] → Grows d3 d4 1 [] [] → Writes d4 d5 b []
    → Grows d5 new 1 [] [] → WritesWithin old new e old.below
writes_map_where old d1 d2 d3 d4 d5 new e a p b is wa gl wp gw wb gn =
    let begun = grows_code old d1 d2 _ _ _ _ wa.grows gl in
    let here : length d2.code ≡ length old.code + (layout_of a).size + 2 = omega (arith, begun.size) in
    let predicate = grows_by old d2 d3 _ _ _ p _ [] [] begun wp here refl in
    let tested = grows_code old d3 d4 _ _ _ _ predicate gw in
    let there : length d4.code ≡ length old.code + (layout_of a).size + 2 + (layout_of p).size + 1 = omega (arith, tested.size) in
    let body = grows_by old d4 d5 _ _ _ b _ [] [] tested wb there refl in
    record { grows = rw (laid e _ is) (grows_code old d5 new _ _ _ _ body gn) }

-- what was written from nothing on, and END
pub compiled : (start draft all : Draft) (image : Image) (e tree : TypedTree) (types : List CelType) → e ≡ tree
    → drafted start ≡ record { constants = []; instrs = [] } → start.targets ≡ [] → start.below ≡ []
    → Emits (drafted start) (drafted draft) e → Writes start draft e start.below → drafted all ≡ with_instr (drafted draft) End
    → Grows draft all 1 [] [] → code_in image ≡ drafted all → image.targets ≡ all.targets → image.slots ≡ types
    → image.result ≡ type_of tree → image.declared ≡ None → IsCompiled image tree types
compiled start draft all image e tree types same empty no_targets no_below emits writes put end code targets slots result declared =
    let emits : Emits (drafted start) (drafted draft) tree = rw (sym same) emits in
    let writes : Writes start draft tree [] = rw (sym same, sym no_below) writes in
    let none : length start.code ≡ 0 = ap (λ c. length c.instrs) empty in
    let g : Grows start draft (layout_of tree).size (layout_of tree).literals (targets_from (layout_of tree) 0 []) =
    rw (sym none) writes.grows in
    let all_grown = grows_code start draft all _ _ _ _ g end in
    let size : length draft.code ≡ (layout_of tree).size = omega (arith, g.size, none) in
    let placed =
    placed (drafted start) (drafted draft) (drafted all) tree (layout_of tree).size (ap (λ c. c.instrs) empty) emits put size in
    record {
      stands = rw code placed.stands;
      ends = rw code placed.ends;
      whole = ap (λ c. length c.instrs) code ∙ placed.whole;
      constants = rw (ap (λ c. c.constants) code) (all_grown.constants [] (nothing refl (ap (λ c. c.constants) empty)));
      targets = targets ∙ all_grown.targets ∙ ap (λ ts. ts ++ targets_from (layout_of tree) 0 []) no_targets;
      slots = slots;
      result = result;
      declared = declared;
    }
