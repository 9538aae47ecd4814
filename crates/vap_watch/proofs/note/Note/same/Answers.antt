use Rattle.std.proofs.Common.{◌≡◌, ℕ, sym, ◌∙◌, ap, subst, arith, List}
use Rattle.std.proofs.lemmas.Bool.Decides.{nat_tests}
use mathlib.Core.List.{IsPrefix}
use Rattle.vap_watch.specs.declared.entry.Entry.{Entry}
use Rattle.vap_watch.specs.Entries.{nth}
use Rattle.vap_watch.specs.Shown.{shows}
use Rattle.vap_watch.proofs.Chains.{nth_prefix}
use Rattle.vap_watch.proofs.note.Note.same.Goals as goal

-- both are beginnings of what the board has, which has one entry of this number
pub returns : goal.returns
returns g c = λ e.
    let both = c.learn.new.self.log in
    let mine : IsPrefix c.self.inside.seen.log both =
    subst (λ (l : List (Entry g.row.X.Denot)). IsPrefix l both) (ap (λ s. s.log) c.again-both.ensures) c.learn.ensures.2 in
    let at : c.self.inside.at ≡ c.other.inside.at = grind (arith, nat_tests) in
    let left = nth_prefix c.self.inside.seen.log both c.self.inside.at mine c.self.invariant in
    let right = nth_prefix c.other.inside.seen.log both c.other.inside.at c.learn.ensures.3 c.other.invariant in
    let list = ap (λ x. x.list) (sym right ∙ (ap (λ (k : ℕ). nth both k) (sym at) ∙ left)) in
    let book : c.other.inside.seen.book ≡ c.self.inside.seen.book =
    ap (λ s. s.board) c.other.view_is ∙ c.requires ∙ sym (ap (λ s. s.board) c.self.view_is) in
    sym c.other.view_is ∙ (ap (λ b. shows b (nth c.other.inside.seen.log c.other.inside.at).list) book
    ∙ ap (λ l. shows c.self.inside.seen.book l) list) ∙ c.self.view_is
