use Rattle.std.proofs.Common.{ap, ◌∙◌}
use Rattle.std.specs.Prelude.{filter}
use Rattle.vap_read.specs.Keys.{is_of}
use Rattle.vap_read.proofs.KindRange.{found_sorted, made_entries, made_forward}
use Rattle.vap_read.proofs.object_map.ObjectMap.of_kind.Goals as goal

pub range-requires : goal.range-requires
range-requires c =
    made_forward c.in_ok-first.first c.in_ok-behind.behind c.args.api_version.now c.args.kind.now c.in_ok-from_str.field-0
    c.in_ok-next_text.field-0 c.in_ok-first.ensures c.in_ok-from_str.ensures c.in_ok-behind.ensures c.in_ok-next_text.ensures

pub returns-clause-entries : goal.returns-clause-entries
returns-clause-entries c =
    made_entries c.in_ok-first.first c.in_ok-behind.behind c.args.api_version.now c.args.kind.now c.in_ok-from_str.field-0
    c.in_ok-next_text.field-0 c.in_ok-first.ensures c.in_ok-from_str.ensures c.in_ok-behind.ensures c.in_ok-next_text.ensures
    c.self.inside.entries.entries c.range.result (c.range.ensures.between tt)
    ∙ ap (filter (λ e. is_of c.args.api_version.now c.args.kind.now e.0)) c.self.view_is

pub returns-clause-ordered : goal.returns-clause-ordered
returns-clause-ordered c =
    found_sorted (is_of c.args.api_version.now c.args.kind.now) c.self.inside.entries.entries c.range.result
    (made_entries c.in_ok-first.first c.in_ok-behind.behind c.args.api_version.now c.args.kind.now c.in_ok-from_str.field-0
    c.in_ok-next_text.field-0 c.in_ok-first.ensures c.in_ok-from_str.ensures c.in_ok-behind.ensures c.in_ok-next_text.ensures
    c.self.inside.entries.entries c.range.result (c.range.ensures.between tt)) c.range.ensures.ordered
