use Rattle.std.proofs.Common.{◌≡◌, true, ◌&&◌, sym, subst, rules}
use Rattle.std.proofs.lemmas.Result.{err_from_is_err_and}
use Rattle.base_containers.specs.Failures.{Fails}
use Rattle.cel_verify.specs.Sound.{every, jumps_of, is_wanted, is_target}
use Rattle.cel_verify.proofs.Walking.{rule_is, advances}
use Rattle.cel_verify.proofs.walk.advance.Goals as goal

pub returns-in_err-there : goal.returns-in_err-there
returns-in_err-there c =
    let image = c.args.image.now in
    let aims : (is_wanted image c.args.at && every (is_target image c.args.at) (jumps_of c.args.instr)) ≡ true = search rules in
    let r = c.in_err-there.field-0.0 in
    let p = err_from_is_err_and c.from_residual.result c.from_residual.ensures.1 in
    rw (p.1, p.2, c.in-Some.is)
    (subst (Fails r)
    (sym (rule_is image c.args.at c.args.instr c.in-Some.types c.args.opens.now c.requires.there (search rules) aims (search rules)))
    c.in_err-there.ensures)

pub returns : goal.returns
returns c =
    let image = c.args.image.now in
    let aims : (is_wanted image c.args.at && every (is_target image c.args.at) (jumps_of c.args.instr)) ≡ true = search rules in
    rw c.in-Some.is
    (advances image c.args.at c.args.instr c.in-Some.types c.args.opens.now c.requires.there (search rules) aims (search rules)
    c.pass.new.opens c.close_ended.new.opens c.in_ok-there.there c.in_ok-there.ensures c.close_ended.ensures)
