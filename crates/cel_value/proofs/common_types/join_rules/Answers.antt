use Rattle.cel_value.proofs.Joins.{join-Never-left, join-Null-Nullable, join-Null-bare, join-Nullable-Nullable, join-Nullable-bare}
use Rattle.cel_value.proofs.Taken.{join-self}
use Rattle.cel_value.proofs.ByRules.{joins, agree}
use Rattle.cel_value.proofs.JoinRules.{join_comm, join-Text, join-List, join-Map, join-Object, names_of_both, join-other_names, join-apart}
use Rattle.cel_value.proofs.common_types.join_rules.Goals as goal

pub returns-clause-rules : goal.returns-clause-rules
returns-clause-rules c = joins

pub returns-clause-agree : goal.returns-clause-agree
returns-clause-agree c = agree

pub returns-clause-either_order : goal.returns-clause-either_order
returns-clause-either_order c = join_comm

pub returns-clause-never : goal.returns-clause-never
returns-clause-never c = join-Never-left

pub returns-clause-itself : goal.returns-clause-itself
returns-clause-itself c = join-self

pub returns-clause-null_and_nullable : goal.returns-clause-null_and_nullable
returns-clause-null_and_nullable c = join-Null-Nullable

pub returns-clause-null_and_other : goal.returns-clause-null_and_other
returns-clause-null_and_other c = join-Null-bare

pub returns-clause-both_nullable : goal.returns-clause-both_nullable
returns-clause-both_nullable c = join-Nullable-Nullable

pub returns-clause-one_nullable : goal.returns-clause-one_nullable
returns-clause-one_nullable c = join-Nullable-bare

pub returns-clause-texts : goal.returns-clause-texts
returns-clause-texts c = join-Text

pub returns-clause-lists : goal.returns-clause-lists
returns-clause-lists c = join-List

pub returns-clause-maps : goal.returns-clause-maps
returns-clause-maps c = join-Map

pub returns-clause-objects : goal.returns-clause-objects
returns-clause-objects c = join-Object

pub returns-clause-same_names : goal.returns-clause-same_names
returns-clause-same_names c = names_of_both

pub returns-clause-other_names : goal.returns-clause-other_names
returns-clause-other_names c = join-other_names

pub returns-clause-other_kinds : goal.returns-clause-other_kinds
returns-clause-other_kinds c = join-apart
