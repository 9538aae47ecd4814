use Rattle.std.proofs.Common.{◌≡◌, ◌++◌, ◌∙◌, List, ℕ, [], true, sym, ap, append-nil}
use Rattle.std.specs.Str.{bytes_eq}
use Rattle.base_containers.specs.declared.text.Keyed.{Keyed}
use Rattle.vap_policy_verdict.specs.DecisionAnnotations.{entry_in}
use Rattle.vap_policy_verdict.specs.declared.finding.Note.{Note}
use Rattle.vap_policy_verdict.proofs.annotation_entries.push_entry.Goals as goal

-- an empty value adds nothing
nothing : (es : List (Keyed (List ℕ))) (n : Note) → bytes_eq n.value [] ≡ true → es ≡ es ++ entry_in n
unfolding entry_in
nothing es n e = rw e (sym (append-nil es))

pub returns-then-eq : goal.returns-then-eq
returns-then-eq c =
    nothing c.args.entries.now.items c.args.note.now
    (ap (λ v. bytes_eq v []) (sym c.as_str.ensures) ∙ (sym c.eq.ensures ∙ c.if-eq.true))
