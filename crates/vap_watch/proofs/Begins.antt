-- Lists that begin with one another.
use Rattle.std.proofs.Common.{◌≡◌, List, [], ◌++◌, refl, sym, subst, ap, ◌∙◌, append_assoc, append-nil}
use Rattle.vap_watch.specs.Begins.{StartsWith}

pub starts_here : {X : Type 0} (list : List X) → StartsWith list list
starts_here list = record { rest = []; split = sym (append-nil list) }

pub starts_further : {X : Type 0} (c b a : List X) → StartsWith c b → StartsWith b a → StartsWith c a
starts_further c b a p q = record {
  rest = q.rest ++ p.rest;
  split = p.split ∙ (ap (λ l. l ++ p.rest) q.split ∙ append_assoc a q.rest p.rest);
}

pub starts_empty : {X : Type 0} (list : List X) → StartsWith list []
starts_empty list = record { rest = list; split = refl }
