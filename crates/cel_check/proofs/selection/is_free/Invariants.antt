use Rattle.std.proofs.Common.{◌≡◌, drop}
use Rattle.std.specs.Prelude.{is_none}
use Rattle.cel_check.specs.Typing.{slot_from}
use Rattle.cel_check.proofs.selection.is_free.Given as goal

-- the open loops that are left have one of the name exactly if all have
abbrev pub invariant-loop-local : goal.invariant-loop-local
invariant-loop-local l =
    is_none (slot_from l.local-index l.name (drop l.local-index l.locals)) ≡ is_none (slot_from 0 l.name l.locals)
