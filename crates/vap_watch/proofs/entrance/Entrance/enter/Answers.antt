use Rattle.std.proofs.Common.{◌≡◌, List, [], ◌∷◌, ap, sym, subst, ◌∙◌, arith}
use Rattle.vap_watch.specs.Shown.{Shown}
use Rattle.vap_watch.specs.Seen.{Follows, FollowsAll, first_of}
use Rattle.vap_watch.specs.declared.log.Logged.{Logged}
use Rattle.vap_watch.proofs.Grows.{grows, follows_here}
use Rattle.vap_watch.proofs.entrance.Entrance.enter.Goals as goal

pub enter_as-requires : goal.enter_as-requires
enter_as-requires c x = grows _ _ x x (follows_here x)

-- what follows all that was seen follows the one that was
follows_one : (after first : Shown Logged) (seen : List (Shown Logged)) → FollowsAll after seen → seen ≡ first ∷ [] → Follows after first
follows_one after first seen all one = subst (FollowsAll after) one all 0 first (omega arith)

pub newer-newer-requires : goal.newer-newer-requires
newer-newer-requires c =
    let follows = follows_one c.in-Ok.reading.part.value _ _ c.in-Ok.ensures.1.0 c.self.invariant in
    let same : c.get.result.now.board ≡ c.args.self.board =
    ap (λ (s : Shown Logged). s.board) c.get.ensures ∙ (follows.board ∙ ap (λ (s : Shown Logged). s.board) c.self.view_is) in
    c.requires ∙ sym same

pub returns-in-Ok-clause-later : goal.returns-in-Ok-clause-later
returns-in-Ok-clause-later c =
    let value = c.in-Ok.reading.part.value in
    let follows = follows_one value _ _ c.in-Ok.ensures.1.0 c.self.invariant in
    let same : c.over.result ≡ value = c.over.ensures ∙ ap first_of (c.leave.ensures.1 ∙ c.in-Ok.ensures.1.1) in
    subst (λ (s : Shown Logged). Follows s c.args.self) (sym same) (subst (λ (s : Shown Logged). Follows value s) c.self.view_is follows)
