use Rattle.std.proofs.Common.{◌≡◌, ◌∙◌, ℕ, List, length, sym, ap, subst, rules}
use Rattle.std.specs.Prelude.{true}
use Rattle.std.specs.List.{All}
use Rattle.vap_watch.specs.Shown.{Shown}
use Rattle.vap_policy_verdict.specs.declared.verdict.Verdict.{Verdict}
use Rattle.vap_watch.specs.declared.log.Logged.{Logged}
use Rattle.vap_plane.specs.Answers.{verdicts_at}
use Rattle.vap_plane.proofs.There.{all_there}
use Rattle.vap_cli_replay.proofs.crew.Crew.run.Goals as goal

pub returns-then-branch-clause-verdicts : goal.returns-then-branch-clause-verdicts
returns-then-branch-clause-verdicts g c =
    let shown = c.args.told.now in
    let log : shown.list ≡ c.args.snapshot.now = ap (λ (s : Shown Logged). s.list) c.requires.told in
    let found : c.are_at.result ≡ true = search rules in
    let revision : c.revision_of-revision.result ≡ length shown.list = c.revision_of-revision.ensures ∙ ap length (sym log) in
    let each =
    subst (λ (n : ℕ). All (λ (v : Verdict). v.revision ≡ n) c.as_slice.result.now) revision (c.are_at.ensures found) in
    let named =
    subst (λ (vs : List Verdict). All (λ (v : Verdict). v.revision ≡ length shown.list) vs) c.as_slice.ensures.value each in
    all_there c.in_ok-told.told.items c.len.result shown c.args.requests.items c.in_ok-verdicts.verdicts.items c.in_ok-told.ensures
    c.in_ok-verdicts.ensures.answers named
    ∙ ap (λ (l : List Logged). verdicts_at l c.args.requests.items) log
