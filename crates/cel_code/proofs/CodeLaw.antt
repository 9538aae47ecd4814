-- Instructions and targets: what is read is spelt so, and what is spelt so is read.
use Rattle.std.proofs.Common.{◌≡◌, ℕ, zero, suc, true, false, ◌&&◌, List, [], ◌∷◌, ◌++◌, Option, Some, Ok}
use Rattle.std.proofs.Common.{refl, subst, slice_get}
use Rattle.cel_operators.specs.declared.text_operator.TextOperator.TheVariants.{Select, Has, Matches}
use Rattle.cel_value.specs.declared.cel_type.CelType.{CelType}
use Rattle.cel_code.specs.declared.instr.Instr.{Instr}
use Rattle.cel_code.specs.declared.instr.Instr.TheVariants as instrs
use Rattle.cel_code.specs.declared.image.Target.{Target}
use Rattle.cel_code.specs.declared.fault.ReadFault.TheVariants.{BadOpcode}
use Rattle.cel_code.specs.Spelling.{be32, is_short, type_spelling, is_spellable}
use Rattle.cel_code.specs.Reading.{both, made, tested, nothing, type_at}
use Rattle.cel_code.specs.Code.{instr, is_instr, types, are_types, most_levels, place_after, target, is_target}
use Rattle.cel_code.specs.CodeReading.{number, instr_readers, instr_at, types_at, target_from, target_at}
use Rattle.cel_code.proofs.Laws.{IsBytes, Takes, Law, ok_is, bind_ok, both_law, made_again, made_law, tested_law, short_law, list_law}
use Rattle.cel_code.proofs.Tables.{◌also◌, Entry, Entries, entry, bare, tagged_takes}
use Rattle.cel_code.proofs.TypeLaw.{type_law}

-- ---- instructions

-- two operands
pair_law : Law (both number number) (λ p. be32 p.0 ++ be32 p.1) (λ p. is_short p.0 && is_short p.1)
pair_law = both_law number be32 is_short number be32 is_short short_law short_law

numbered : (make : ℕ → Instr) (opcode : ℕ) → ((n : ℕ) → instr (make n) ≡ opcode ∷ be32 n)
    → ((n : ℕ) → is_instr (make n) ≡ is_short n) → Entry instr is_instr opcode (made make number)
numbered make opcode spelt fits = entry instr is_instr number be32 is_short short_law make opcode spelt fits

alone : (i : Instr) (opcode : ℕ) → instr i ≡ opcode ∷ [] → is_instr i ≡ true → Entry instr is_instr opcode (nothing i)
alone i opcode spelt fits = bare instr is_instr i opcode spelt fits

entries : Entries instr is_instr 0 instr_readers
entries =
    numbered (λ k. instrs.Const k) 0 (λ _. refl) (λ _. refl)
    also numbered (λ s. instrs.Slot s) 1 (λ _. refl) (λ _. refl)
    also numbered (λ d. instrs.Local d) 2 (λ _. refl) (λ _. refl)
    also numbered (λ k. instrs.WithText Select k) 3 (λ _. refl) (λ _. refl)
    also numbered (λ k. instrs.WithText Has k) 4 (λ _. refl) (λ _. refl)
    also numbered (λ o. instrs.Op o) 5 (λ _. refl) (λ _. refl)
    also numbered (λ k. instrs.WithText Matches k) 6 (λ _. refl) (λ _. refl)
    also numbered (λ n. instrs.List n) 7 (λ _. refl) (λ _. refl)
    also numbered (λ n. instrs.Map n) 8 (λ _. refl) (λ _. refl)
    also numbered (λ t. instrs.AndTest t) 9 (λ _. refl) (λ _. refl)
    also alone instrs.And 10 refl refl
    also numbered (λ t. instrs.OrTest t) 11 (λ _. refl) (λ _. refl)
    also alone instrs.Or 12 refl refl
    also entry instr is_instr _ _ _ pair_law (λ p. instrs.Cond p.0 p.1) 13 (λ _. refl) (λ _. refl)
    also numbered (λ t. instrs.Jump t) 14 (λ _. refl) (λ _. refl)
    also entry instr is_instr _ _ _ pair_law (λ p. instrs.Loop p.0 p.1) 15 (λ _. refl) (λ _. refl)
    also alone instrs.Item 16 refl refl
    also alone instrs.When 17 refl refl
    also alone instrs.Next 18 refl refl
    also alone instrs.End 19 refl refl
    also tt

instr_takes : (bytes : List ℕ) (x : Instr × List ℕ) → IsBytes bytes → instr_at bytes ≡ Ok x
    → Takes bytes (instr x.0) x.1 × (is_instr x.0 ≡ true)
unfolding instr_at
instr_takes bytes x h e = tagged_takes instr is_instr BadOpcode instr_readers entries bytes x h e

-- an instruction with one operand
operand_again : (make : ℕ → Instr) (n : ℕ) (rest : List ℕ) → is_short n ≡ true → made make number (be32 n ++ rest) ≡ Ok (make n, rest)
operand_again make n rest h = made_again number be32 is_short make short_law n rest h

instr_again : (i : Instr) (rest : List ℕ) → is_instr i ≡ true → instr_at (instr i ++ rest) ≡ Ok (i, rest)
unfolding instr_at
instr_again (instrs.Const k) rest h = operand_again (λ k. instrs.Const k) k rest h
instr_again (instrs.Slot s) rest h = operand_again (λ s. instrs.Slot s) s rest h
instr_again (instrs.Local d) rest h = operand_again (λ d. instrs.Local d) d rest h
instr_again (instrs.WithText Select k) rest h = operand_again (λ k. instrs.WithText Select k) k rest h
instr_again (instrs.WithText Has k) rest h = operand_again (λ k. instrs.WithText Has k) k rest h
instr_again (instrs.Op o) rest h = operand_again (λ o. instrs.Op o) o rest h
instr_again (instrs.WithText Matches k) rest h = operand_again (λ k. instrs.WithText Matches k) k rest h
instr_again (instrs.List n) rest h = operand_again (λ n. instrs.List n) n rest h
instr_again (instrs.Map n) rest h = operand_again (λ n. instrs.Map n) n rest h
instr_again (instrs.AndTest t) rest h = operand_again (λ t. instrs.AndTest t) t rest h
instr_again instrs.And rest h = refl
instr_again (instrs.OrTest t) rest h = operand_again (λ t. instrs.OrTest t) t rest h
instr_again instrs.Or rest h = refl
instr_again (instrs.Cond f e) rest h = made_again _ _ _ (λ p. instrs.Cond p.0 p.1) pair_law (f, e) rest h
instr_again (instrs.Jump t) rest h = operand_again (λ t. instrs.Jump t) t rest h
instr_again (instrs.Loop m e) rest h = made_again _ _ _ (λ p. instrs.Loop p.0 p.1) pair_law (m, e) rest h
instr_again instrs.Item rest h = refl
instr_again instrs.When rest h = refl
instr_again instrs.Next rest h = refl
instr_again instrs.End rest h = refl

pub instr_law : Law instr_at instr is_instr
instr_law = record { takes = instr_takes; again = instr_again }

-- ---- targets

pub types_law : Law types_at types are_types
types_law =
    list_law (λ _. type_at most_levels false) type_spelling (λ _ t. is_spellable t most_levels false) (λ _. type_law most_levels false)

abbrev target_parts : Target → ℕ × List CelType
target_parts t = (t.at, t.types)

pub target_law : (last : Option Target) → Law (target_at last) target (is_target last)
target_law last =
    let place = tested_law number be32 is_short (place_after last) short_law in
    made_law _ _ _ target_from target_parts
    (both_law (tested (place_after last) number) be32 (λ n. is_short n && place_after last n) types_at types are_types place types_law)
    (λ x. refl) (λ y. refl)
