use Rattle.std.proofs.Common.{◌≡◌, arith, ◌∙◌, ◌+◌, sym, ap, get_or, Bool, true, false, ◌&&◌, take, drop}
use Rattle.std.proofs.lemmas.Bool.{and_from}
use Rattle.base_containers.specs.declared.text.Keyed.{Keyed}
use Rattle.cel_value.specs.declared.cel_type.Field.{Field}
use Rattle.cel_value.specs.declared.cel_type.CelType.{CelType}
use Rattle.cel_code.specs.Spelling.{is_text, name_after, each_after, is_field, is_spellable}
use Rattle.cel_code.specs.Reading.{last_of}
use Rattle.cel_code.proofs.TypeLaw.{spellable-List, spellable-Map, spellable-Object, spellable-Nullable}
use Rattle.cel_code.proofs.Loops.{each_step}
use Rattle.cel_code.proofs.spellable.+spellable.Goals as goal

pub is_spellable-returns-then-is_short : goal.is_spellable-returns-then-is_short
is_spellable-returns-then-is_short t c =
    grind (arith, spellable-List c.in-List.max c.in-List.plain c.in-List.item c.args.depth c.args.in_nullable (omega arith))

pub is_spellable-returns-then-is_short-3 : goal.is_spellable-returns-then-is_short-3
is_spellable-returns-then-is_short-3 t c =
    grind (arith, spellable-Map c.in-Map.max c.in-Map.key_max c.in-Map.item c.args.depth c.args.in_nullable (omega arith))

pub is_spellable-returns-in-Object : goal.is_spellable-returns-in-Object
is_spellable-returns-in-Object t c = grind (arith, spellable-Object c.in-Object.fields c.args.depth c.args.in_nullable (omega arith))

pub is_spellable-returns-then-not-in_nullable : goal.is_spellable-returns-then-not-in_nullable
is_spellable-returns-then-not-in_nullable t c = grind
    (arith, spellable-Nullable c.in-Nullable.item c.args.depth c.args.in_nullable (omega arith))

pub are_spellable-loop-place-preserved : goal.are_spellable-loop-place-preserved
are_spellable-loop-place-preserved t c =
    let inside : CelType → Bool = λ u. is_spellable u c.args.depth false in
    let fs = c.as_slice-fields.result.now in
    let place = c.loop-place.place in
    let x = c.index-fields-place.result in
    let last = last_of (take place fs) in
    let rest = each_after (is_field inside) (last_of (take (place + 1) fs)) (drop (place + 1) fs) in
    let text : is_text x.key ≡ true = grind arith in
    let behind : name_after last x.key ≡ true = grind arith in
    let spelt : inside x.value.cel_type ≡ true = grind arith in
    let one : is_field inside last x ≡ true = and_from (is_text x.key && name_after last x.key) (inside x.value.cel_type)
    (and_from (is_text x.key) (name_after last x.key) text behind) spelt in
    let two : is_field inside last (get_or fs place x) ≡ true =
    ap (λ (f : Keyed (Field CelType)). is_field inside last f) (sym c.index-fields-place.is) ∙ one in
    let three : (is_field inside last (get_or fs place x) && rest) ≡ rest = ap (λ (b : Bool). b && rest) two in
    sym three ∙ sym (each_step (is_field inside) fs place x c.loop-place-test.true) ∙ c.loop-place.invariant
