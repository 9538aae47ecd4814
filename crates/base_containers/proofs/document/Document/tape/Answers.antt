use Rattle.std.proofs.Common.{◌≡◌, sym, ap, ◌∙◌, subst, string_bytes}
use Rattle.json.specs.Lex.{tokens}
use Rattle.serde_json.specs.Read.{read}
use Rattle.base_containers.specs.Texts.{data_in}
use Rattle.base_containers.specs.Parts.{IsPart, data_of}
use Rattle.base_containers.proofs.Lookups.{there}
use Rattle.base_containers.proofs.Accepts.{tokens_part}
use Rattle.base_containers.proofs.document.Document.tape.Goals as goal

pub returns-in-Ok : goal.returns-in-Ok
returns-in-Ok c =
    let text = string_bytes c.self.inside.text in
    let same : tokens text ≡ c.in-Ok.tape = ap tokens (sym c.as_str.ensures.value) ∙ sym c.in-Ok.ensures.ok.0 in
    let part = tokens_part text (data_in text) (there (read text) c.self.invariant) in
    let here = subst (λ ts. IsPart ts × (data_of ts ≡ data_in text)) same part in
    (here.0, here.1 ∙ c.self.view_is)
