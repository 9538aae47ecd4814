use Rattle.std.proofs.Common.{◌+◌, ◌++◌, ℕ, List, length, drop, sym, ap, subst, ◌∙◌, arith}
use Rattle.cel_lex.specs.declared.fault.LexFault.{LexFault}
use Rattle.cel_lex.specs.declared.fault.LexFaultKind.{LexFaultKind}
use Rattle.cel_lex.specs.declared.fault.LexFaultKind.TheVariants as fault
use Rattle.cel_lex.specs.declared.token.Token.{Token}
use Rattle.cel_lex.specs.Lexis.{IsNext, Cuts, too_long, first}
use Rattle.cel_lex.specs.Scan.{Reads, IsNear, HasFaultWithin}
use Rattle.cel_lex.proofs.Together.{together}
use Rattle.cel_lex.proofs.Turn.{refuses_as, bad_at, cut_done, turn_within, faulty_turn}
use Rattle.cel_lex.proofs.Turn.{blank_cuts, blank_fails, token_cuts, token_fails, pushed}
use Rattle.cel_lex.proofs.scan.tokens.Goals as goal
use Rattle.cel_lex.proofs.scan.tokens.Goals.{in-Blank, in-Token+in_ok-push-in-Token}

abbrev at_place : LexFaultKind → ℕ → LexFault
at_place kind place = record { kind = kind; place = place }

pub returns-then-text-gt16384-clause-fault : goal.returns-then-text-gt16384-clause-fault
returns-then-text-gt16384-clause-fault c =
    λ f e. refuses_as c.args.text.now (at_place fault.TooLong 0) f (cc) (too_long c.if-text-gt16384.true)

pub returns-in_default-clause-fault : goal.returns-in_default-clause-fault
returns-in_default-clause-fault c = λ f e.
    let none = subst (λ o. Reads (drop c.loop-place.place c.args.text.now) o) c.in_default.is c.in_ok-length.ensures.reads in
    refuses_as c.args.text.now (at_place fault.BadChar c.loop-place.place) f (cc)
    (first (omega arith) (c.loop-place.invariant.fault _ (bad_at c.args.text.now c.loop-place.place c.loop-place-test.true none)))

pub overflow_add-place : goal.overflow_add-place
overflow_add-place c =
    let near = subst (λ o. IsNear (4 + length c.args.text.now) o) c.in-Some.is c.in_ok-length.ensures.near in
    let place = subst (λ p. HasFaultWithin (4 + length c.args.text.now) p) c.in-Faulty.is near in
    omega (arith, place)

pub returns-in-Faulty-clause-fault : goal.returns-in-Faulty-clause-fault
returns-in-Faulty-clause-fault c = λ f e.
    let next = subst (λ o. Reads (drop c.loop-place.place c.args.text.now) o) c.in-Some.is c.in_ok-length.ensures.reads in
    refuses_as c.args.text.now (at_place c.in-Faulty.found.kind (c.loop-place.place + c.in-Faulty.found.place)) f (cc)
    (first (omega arith)
    (c.loop-place.invariant.fault _ (faulty_turn c.args.text.now c.loop-place.place c.in-Some.length c.in-Some.piece
    c.loop-place.invariant.within next c.in-Faulty.found c.in-Faulty.is)))

pub loop-place-preserved : goal.loop-place-preserved
loop-place-preserved c =
    let text = c.args.text.now in
    let place = c.loop-place.place in
    let n = c.in-Some.length in
    let what = c.in-Some.piece in
    let le = c.loop-place.invariant.within in
    let next : IsNext (drop place text) n what = subst (λ o. Reads (drop place text) o) c.in-Some.is c.in_ok-length.ensures.reads in
    elim c.match-piece.branch [
      | in-Blank w ↦ record {
        within = turn_within text place n what le next;
        cut = λ ts cuts. subst (λ (v : List Token). Cuts 0 text (v ++ ts)) (sym (ap (λ v. v.items) w.out-is))
            (c.loop-place.invariant.cut ts (blank_cuts text place n what le next ts w.in-Blank.is cuts));
        fault = λ f fails. c.loop-place.invariant.fault f (blank_fails text place n what le next f w.in-Blank.is fails);
      }
      | in-Token+in_ok-push-in-Token w ↦ record {
        within = turn_within text place n what le next;
        cut = λ ts cuts. pushed text c.loop-place.out.items c.match-piece.out.items _ ts
            (ap (λ v. v.items) w.out-is ∙ w.in_ok-push-in-Token.ensures.items)
            (c.loop-place.invariant.cut _ (token_cuts text place n what le next w.in-Token.kind ts w.in-Token.is cuts));
        fault = λ f fails. c.loop-place.invariant.fault f (token_fails text place n what le next w.in-Token.kind f w.in-Token.is fails);
      }
    ]

pub returns-clause-cut : goal.returns-clause-cut
returns-clause-cut c = record {
  short = omega arith;
  cut =
      cut_done c.args.text.now c.loop-place.place c.loop-place.out.items c.loop-place-test.false c.loop-place.invariant.cut;
}

pub returns-clause-together : goal.returns-clause-together
returns-clause-together c =
    together (cut_done c.args.text.now c.loop-place.place c.loop-place.out.items c.loop-place-test.false c.loop-place.invariant.cut)
