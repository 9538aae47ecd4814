use Rattle.std.proofs.Common.{◌≡◌, ◌∙◌, ap, sym, refl, rules}
use Rattle.std.proofs.lemmas.Option.{get_or_from_slice_get}
use Rattle.std.specs.Prelude.{slice_set}
use Rattle.vap_plane_gathering.specs.Numbered.{once_more}
use Rattle.vap_plane_gathering.specs.declared.gathering.Came.{Came}
use Rattle.vap_plane_gathering.proofs.Numbered.{set_again}
use Rattle.vap_plane_gathering.proofs.gathering.put.Goals as goal

pub returns : goal.returns
returns c found at =
    let same : c.replace-found.result ≡ found =
    c.replace-found.ensures.value ∙ (c.index_mut.ensures.value ∙ get_or_from_slice_get _ c.args.number found c.index_mut.result.now at) in
    set_again c.args.slots.now.items c.args.number c.replace-found.new.dest c.once_more.result
    ∙ ap (λ (s : Came). slice_set c.args.slots.now.items c.args.number s) (c.once_more.ensures ∙ ap (once_more c.args.verdict) same)
