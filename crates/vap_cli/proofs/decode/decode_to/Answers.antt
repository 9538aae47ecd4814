use Rattle.std.proofs.Common.{rules, subst}
use Rattle.vap_cli.specs.Told.{IsDecoded}
use Rattle.vap_cli.proofs.decode.decode_to.Goals as goal

pub returns-clause-told : goal.returns-clause-told
returns-clause-told g c = record {
  bytes = c.in_ok-bytes.bytes.items;
  taken = c.in_ok-bytes.ensures.taken;
  decoded = subst (λ bytes. IsDecoded bytes c.in_ok-told.told.status) c.as_slice.ensures.value c.in_ok-told.ensures;
}

pub returns-clause-all_written : goal.returns-clause-all_written
returns-clause-all_written g c = search rules
