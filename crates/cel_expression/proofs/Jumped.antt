-- The targets of the image that an expression compiles to are where its jumps go.
use Rattle.std.proofs.Common.{◌≡◌, ℕ, zero, suc, ◌+◌, ◌<◌, List, [], ◌∷◌, length, Some, refl, inl, inr, arith}
use Rattle.std.specs.Prelude.{slice_get}
use Rattle.std.proofs.lemmas.Bool.{cases_lt}
use Rattle.cel_value.specs.declared.cel_type.CelType.{CelType}
use Rattle.cel_check.specs.declared.tree.TypedTree.{TypedTree}
use Rattle.cel_code.specs.declared.image.Image.{Image}
use Rattle.cel_code.specs.declared.instr.Instr.TheVariants.{End}
use Rattle.cel_expression.specs.Compiled.{IsCompiled, targets_from, layout_of}
use Rattle.cel_expression.specs.Jumps.{IsJumpedTo, IsTarget, TargetsAreJumps}
use Rattle.cel_expression.specs.Placed.{code_in, Has}
use Rattle.cel_expression.proofs.TargetLists.{rises_from, all_rise, all_go}
use Rattle.cel_expression.proofs.TargetOrder.{rise}
use Rattle.cel_expression.proofs.JumpGoals.{here, go}
use Rattle.cel_expression.proofs.TargetSources.{come_end, all_come, come}

within_list : {X : Type 0} (xs : List X) (k : ℕ) (x : X) → slice_get xs k ≡ Some x → k < length xs
within_list [] k x h = cc
within_list (y ∷ xs) zero x h = omega arith
within_list (y ∷ xs) (suc k) x h = let r = within_list xs k x h in omega arith

pub targets_are_jumps : (image : Image) (tree : TypedTree) (types : List CelType) → IsCompiled image tree types → TargetsAreJumps image
targets_are_jumps image tree types is =
    let code = code_in image in
    let layout = layout_of tree in
    let size : 0 + layout.size ≡ layout.size = omega arith in
    let rising = all_rise layout 1 0 layout.size [] size (rise code tree 0 layout.size is.stands 0 refl []) in
    let goes : (x : ℕ) → IsJumpedTo image.code x → IsTarget (targets_from layout 0 []) x = λ x j.
    let within = within_list image.code j.from j.instr j.stands in
    let has : Has code j.from j.instr = record { is = j.stands } in
    elim (cases_lt j.from layout.size) [
      | inl less ↦
          all_go layout 0 layout.size [] x size
          (go code tree 0 layout.size is.stands 0 refl [] j.from (omega arith) less j.instr has x j.jumps)
      | inr last ↦ absurd (here code j.from layout.size j.instr End has is.ends (omega (arith, is.whole)) x j.jumps)
    ] in
    record {
      increasing = rw (is.targets, is.whole) (rises_from _ 0 1 (layout.size + 1) (omega arith) rising);
      jumped = λ x. (
        λ t. all_come code layout 0 layout.size [] x size (come code tree 0 layout.size is.stands 0 refl [] x)
            (come_end code tree 0 layout.size is.stands) (rw is.targets at t),
        λ j. rw is.targets (goes x j),
      );
    }
