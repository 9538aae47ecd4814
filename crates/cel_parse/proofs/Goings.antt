-- Each reader of the descent is a stage: it reads the same if the text goes on in another way.
use Rattle.std.proofs.Common.{ℕ, zero, suc, true, List, ◌∷◌, length, Ok, Err, refl}
use Rattle.std.specs.Prelude.{max}
use Rattle.cel_lex.specs.declared.token.Token.{Token}
use Rattle.cel_parse.specs.declared.fault.ParseFault.TheVariants.{Unexpected}
use Rattle.cel_parse.specs.declared.tree.Tree.{Tree, Truth as truth, Binary as binary, Conditional as conditional}
use Rattle.cel_parse.specs.Grammar.{Expression, Derives, whole, chosen, place_at}
use Rattle.cel_parse.specs.Descent.{◌>>=◌, Reader, node, head_if, is_question, is_colon, operator_at, if_at, more, joined, join}
use Rattle.cel_parse.specs.Descent.{picked, operators, conditional_at, expression}
use Rattle.cel_parse.proofs.Steps.{question_is, colon_is, part, one_operand, two_operands}
use Rattle.cel_parse.proofs.Stages.{IsStage, Front, nothing, first, behind_front, Stage, again, gave_up, stage_then, stage_node}
use Rattle.cel_parse.proofs.Stages.{stage_stuck, stage_head, stage_operator}
use Rattle.cel_parse.proofs.Endings.{a_colon, a_truth, operand_of}
use Rattle.cel_parse.proofs.SignStages.{unary_stage}

module _ (source : List ℕ) (inner : Reader) (brackets : ℕ)
    (inner_stage : (us : List Token) → Stage (length source) (Derives Expression) inner us (inner us)) where
  abbrev finish : ℕ
  finish = length source

  -- a loop over the operators of one looseness
  module _ (operand : Reader) (n : ℕ) (operand_stage : (us : List Token) → IsStage finish (Derives (part n)) operand us) where
    more_stage : (turns : ℕ) (F : Front) (left : Tree) (deep : ℕ)
        → ((rest : List Token) → Derives (part (suc n)) (F.onto rest) rest left) → (us : List Token) → IsStage finish
        (λ ws rest e. Derives (part (suc n)) (F.onto ws) rest e)
        (λ ws. more (operator_at (suc n)) (join operand) turns (record { what = left; deep = deep; rest = ws })) us
    unfolding more joined
    more_stage zero F left deep d us = gave_up
    more_stage (suc turns) F left deep d us =
        stage_operator finish (suc n) (λ ws. Ok (record { what = left; deep = deep; rest = ws }))
        (λ o place ws. (operand ws >>= λ right. node (binary place o left right.what) (max deep right.deep) right.rest) >>= more
        (operator_at (suc n)) (join operand) turns)
        (λ vs h. again nothing refl d (λ rest a. refl))
        (λ t o vs j. stage_then finish (more (operator_at (suc n)) (join operand) turns) nothing (λ e. e)
        (stage_then finish (λ right. node (binary t.start o left right.what) (max deep right.deep) right.rest) nothing
        (λ e. binary t.start o left e) (operand_stage vs)
        (λ from rest e x. two_operands n (d (t ∷ from)) j x)
        (λ right E x. stage_node finish (binary t.start o left right.what) (max deep right.deep) right.rest
        (λ rest. two_operands n (d (t ∷ E.onto rest)) j (x rest))))
        (λ from rest e x. x)
        (λ both B b. more_stage turns (behind_front F (first t B)) both.what both.deep b both.rest))
        us

  operators_stage : (n : ℕ) (us : List Token) → IsStage finish (Derives (part n)) (operators inner source brackets n) us
  unfolding operators
  operators_stage zero us = unary_stage source inner brackets inner_stage us
  operators_stage (suc n) us =
      stage_then finish (more (operator_at (suc n)) (join (operators inner source brackets n)) 100) nothing (λ e. e)
      (operators_stage n us) (λ from rest e d. one_operand n d)
      (λ f F d. more_stage (operators inner source brackets n) n (operators_stage n) 100 F f.what f.deep (λ rest. one_operand n (d rest))
      f.rest)

  conditional_stage : (turns : ℕ) (us : List Token) → IsStage finish (Derives Expression) (conditional_at inner source brackets turns) us
  unfolding conditional_at
  conditional_stage zero us = gave_up
  conditional_stage (suc turns) us =
      stage_then finish _ nothing (λ e. e) (operators_stage 5 us) (λ from rest e d. whole d)
      (λ c C dc. stage_head finish (λ ws r. r) (λ ws. Ok (record { what = c.what; deep = c.deep; rest = ws })) is_question
      (λ place ws. operators inner source brackets 5 ws >>= λ a. if_at (head_if is_colon a.rest)
      (Err (Unexpected (place_at finish a.rest))) (λ k. conditional_at inner source brackets turns k.1 >>= picked place c a))
      (λ vs h. again nothing refl (λ rest. whole (dc rest)) (λ rest a. refl))
      (λ q vs h. let hq = question_is q.kind h in
      stage_then finish _ (first a_colon (first a_truth nothing)) (λ e. conditional q.start c.what e (truth 0 true))
      (operators_stage 5 vs)
      (λ from rest e d. chosen (dc (q ∷ from)) hq d refl (whole (operand_of rest)))
      (λ a A da. stage_head finish (λ ws r. r) (λ ws. Err (Unexpected (place_at finish ws))) is_colon
      (λ place ws. conditional_at inner source brackets turns ws >>= picked q.start c a)
      (λ ws i. stage_stuck finish ws (first a_colon (first a_truth nothing)) (conditional q.start c.what a.what (truth 0 true))
      (λ rest. chosen (dc (q ∷ A.onto (a_colon ∷ a_truth ∷ rest))) hq (da (a_colon ∷ a_truth ∷ rest)) refl (whole (operand_of rest))))
      (λ k ws i. let hk = colon_is k.kind i in
      stage_then finish (picked q.start c a) nothing (λ e. conditional q.start c.what a.what e) (conditional_stage turns ws)
      (λ from rest e d. chosen (dc (q ∷ A.onto (k ∷ from))) hq (da (k ∷ from)) hk d)
      (λ b B db. stage_node finish (conditional q.start c.what a.what b.what) (max c.deep (max a.deep b.deep)) b.rest
      (λ rest. chosen (dc (q ∷ A.onto (k ∷ B.onto rest))) hq (da (k ∷ B.onto rest)) hk (db rest))))
      a.rest))
      c.rest)

pub expression_stage : (source : List ℕ) (brackets : ℕ) (us : List Token)
    → Stage (length source) (Derives Expression) (expression source brackets) us (expression source brackets us)
unfolding expression
expression_stage source zero us = gave_up
expression_stage source (suc brackets) us =
    conditional_stage source (expression source brackets) brackets (expression_stage source brackets) 100 us
