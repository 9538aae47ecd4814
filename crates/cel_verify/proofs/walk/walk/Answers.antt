use Rattle.std.proofs.Common.{sym}
use Rattle.std.proofs.lemmas.Option.{slice_get_within}
use Rattle.cel_verify.specs.Walked.{labelled}
use Rattle.cel_verify.proofs.Walking.{before_first, before_next, walked, measured}
use Rattle.cel_verify.proofs.Measuring.{one_measured}
use Rattle.cel_verify.proofs.walk.walk.Goals as goal

pub loop-instr-init : goal.loop-instr-init
loop-instr-init c =
    let image = c.args.image.now in (
      before_first image c.new-2.result c.new-opens.result c.new-2.ensures c.new-opens.ensures,
      c.new-measures.ensures image,
    )

pub loop-instr-preserved : goal.loop-instr-preserved
loop-instr-preserved c =
    let l = c.loop-instr in
    let image = c.args.image.now in
    let i = c.in-Some.instr.now in
    let inside = slice_get_within image.code l.at i (sym c.in-Some.ensures.value) in
    let here = labelled l.label l.opens in (
      before_next image l.at here (labelled c.in-Ok.there c.advance.new.opens) l.invariant.0 c.in-Ok.ensures inside,
      one_measured image l.at i here l.measures c.add.new.self (sym c.in-Some.ensures.value) l.invariant.0.label l.invariant.1
          c.in_ok-add.ensures,
    )

pub returns-clause-rules : goal.returns-clause-rules
returns-clause-rules c =
    let l = c.loop-instr in
    walked c.args.image.now l.at (labelled l.label l.opens) (sym c.in_default.ensures.value) l.invariant.0

pub returns-clause-measures : goal.returns-clause-measures
returns-clause-measures c =
    let l = c.loop-instr in
    measured c.args.image.now l.at (labelled l.label l.opens) l.measures (sym c.in_default.ensures.value) l.invariant.0 l.invariant.1
