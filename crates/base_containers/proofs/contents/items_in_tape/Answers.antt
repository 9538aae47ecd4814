use Rattle.std.proofs.Common.{◌≡◌, ◌∷◌, ◌++◌, [], Some, sym, ap, ◌∙◌, subst}
use Rattle.json.specs.Find.{NextItem}
use Rattle.base_containers.specs.Parts.{data_of}
use Rattle.base_containers.proofs.Gathers.{ItemsHere, ItemsLeft, items_here, items_turn, items_end, before}
use Rattle.base_containers.proofs.contents.items_in_tape.Goals as goal

pub returns-in_default : goal.returns-in_default
returns-in_default c =
    let tokens = c.args.element.now in
    subst (λ r. ItemsHere r (data_of tokens)) c.in_default.is (items_here tokens c.requires c.items.result c.items.ensures)

pub loop-item-init : goal.loop-item-init
loop-item-init c =
    let tokens = c.args.element.now in
    let h = subst (λ r. ItemsHere r (data_of tokens)) c.in-Some.is (items_here tokens c.requires c.items.result c.items.ensures) in
    (h.1, (h.0, h.1, h.2, h.3, ap (λ l. before l h.1) (sym c.in_ok-found.ensures.items)), h.4)

pub new-requires : goal.new-requires
new-requires c =
    let l = c.loop-item in
    let next = subst (λ r. NextItem l.items r c.next.new.self) c.in-Some-next.is c.next.ensures.value in
    (items_turn l.items c.in-Some-next.item c.next.new.self l.found.items l.invariant.0 l.invariant.1 next).0

pub loop-item-preserved : goal.loop-item-preserved
loop-item-preserved c =
    let l = c.loop-item in
    let next = subst (λ r. NextItem l.items r c.next.new.self) c.in-Some-next.is c.next.ensures.value in
    let turn = items_turn l.items c.in-Some-next.item c.next.new.self l.found.items l.invariant.0 l.invariant.1 next in
    let pushed : c.push.new.self.items ≡ l.found.items ++ data_of c.in-Some-next.item ∷ [] =
    c.in_ok-push.ensures.items ∙ ap (λ d. l.found.items ++ d ∷ []) c.new.ensures in
    (l.invariant.0, subst (λ es. ItemsLeft c.next.new.self es l.invariant.0) (sym pushed) turn.1, l.invariant.2)

pub returns : goal.returns
returns c =
    let l = c.loop-item in
    let next = subst (λ r. NextItem l.items r c.next.new.self) c.in_default-next.is c.next.ensures.value in
    ap Some (sym (items_end l.items c.next.new.self l.found.items l.invariant.0 l.invariant.1 next)) ∙ l.invariant.2
