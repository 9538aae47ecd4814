-- What may go to another thread, step by step: each search ends at what was shown before it.
use denote.Param.Send.{IsSend, IsSync, sendable}
use Rattle.std.proofs.Crossing.{crosses}
use Rattle.std.proofs.MapsCrossing.{crosses as map_crosses}
use Rattle.regex_hir.proofs.hir.Hir.TheLaws.TheKnot.{crosses as hir_crosses}
use Rattle.regex_nfa.specs.contracts.nfa.Nfa as T_nfa
use Rattle.regex_dfa.specs.contracts.dfa.Dfa as T_dfa
use Rattle.regex_meta.specs.contracts.plan.Plans as T_plans
use Rattle.regex_meta.specs.contracts.signs.Signs as T_signs
use Rattle.regex_meta.specs.contracts.program.Program as T_program
use Rattle.regex.specs.contracts.pattern.Pattern as T_inner
use Rattle.regex.specs.contracts.string.regex.Regex as T_regex
use Rattle.regex_dfa.specs.contracts.forward.Forward as T_forward
use Rattle.cel_operators.specs.contracts.built.Built as T_built
use Rattle.cel_operators.specs.contracts.matchers.Matchers as T_matchers
use Rattle.cel_operators.specs.contracts.patterns.Patterns as patterns

pub nfa_send : IsSend T_nfa.the_field.row
nfa_send = search (sendable, crosses) depth 60 fits 200000

pub nfa_sync : IsSync T_nfa.the_field.row
nfa_sync = search (sendable, crosses) depth 60 fits 200000

pub dfa_send : IsSend T_dfa.the_field.row
dfa_send = search (nfa_send, sendable, crosses) depth 60 fits 200000

pub dfa_sync : IsSync T_dfa.the_field.row
dfa_sync = search (nfa_sync, sendable, crosses) depth 60 fits 200000

pub plans_send : IsSend T_plans.the_field.row
plans_send = search (hir_crosses, sendable, crosses) depth 60 fits 200000

pub plans_sync : IsSync T_plans.the_field.row
plans_sync = search (hir_crosses, sendable, crosses) depth 60 fits 200000

pub signs_send : IsSend T_signs.the_field.row
signs_send = search (hir_crosses, sendable, crosses) depth 60 fits 200000

pub signs_sync : IsSync T_signs.the_field.row
signs_sync = search (hir_crosses, sendable, crosses) depth 60 fits 200000

pub program_send : IsSend T_program.the_field.row
program_send = search (dfa_send, plans_send, signs_send, hir_crosses, sendable, crosses) depth 60 fits 200000

pub program_sync : IsSync T_program.the_field.row
program_sync = search (dfa_sync, plans_sync, signs_sync, hir_crosses, sendable, crosses) depth 60 fits 200000

pub inner_send : IsSend T_inner.the_field.row
inner_send = search (program_send, sendable, crosses) depth 60 fits 200000

pub inner_sync : IsSync T_inner.the_field.row
inner_sync = search (program_sync, sendable, crosses) depth 60 fits 200000

pub regex_send : IsSend T_regex.the_field.row
regex_send = search (inner_send, sendable, crosses) depth 60 fits 200000

pub regex_sync : IsSync T_regex.the_field.row
regex_sync = search (inner_sync, sendable, crosses) depth 60 fits 200000

pub forward_send : IsSend T_forward.the_field.row
forward_send = search (sendable, crosses) depth 60 fits 200000

pub forward_sync : IsSync T_forward.the_field.row
forward_sync = search (sendable, crosses) depth 60 fits 200000

pub built_send : IsSend T_built.the_field.row
built_send = search (regex_send, program_send, forward_send, sendable, crosses) depth 60 fits 200000

pub matchers_send : IsSend T_matchers.the_field.row
matchers_send = search (built_send, map_crosses, sendable, crosses) depth 60 fits 200000

pub patterns_send : IsSend patterns.the_field.row
patterns_send = search (map_crosses, sendable, crosses) depth 60 fits 200000

pub patterns_sync : IsSync patterns.the_field.row
patterns_sync = search (map_crosses, sendable, crosses) depth 60 fits 200000
