-- The kinds of definitions are the own kinds of each, one definition after the other.
use Rattle.std.proofs.Common.{◌≡◌, Bool, true, false, List, [], ◌∷◌, ◌++◌, Option, Some, None, refl, ap, ◌∙◌}
use Rattle.std.specs.Prelude.{codes, if◌then◌else◌}
use Rattle.serde_json.specs.Data as json
use Rattle.serde_json.specs.Data.{Data, Items}
use Rattle.serde_json.specs.Find.{get}
use Rattle.vap_match.specs.Parts.{items_in}
use Rattle.vap_read_objects.specs.Definitions.{is_formed, named_schema}
use Rattle.vap_read_objects.specs.Kinds.{kind_by, kinds_by, own_kinds, with_kind, with_kinds, with_schema, with_spec, with_versions}
use Rattle.vap_read_objects.specs.declared.kind.Kind.{Kind}

with_both : (xs ys kinds : List Kind) → with_kinds (xs ++ ys) kinds ≡ with_kinds ys (with_kinds xs kinds)
with_both [] ys kinds = refl
with_both (x ∷ xs) ys kinds = with_both xs ys (with_kind x kinds)

by_schema : (spec version : Data) (schema : Option Data) (kinds : List Kind)
    → with_kinds (kind_by spec version schema) kinds ≡ with_schema spec version schema kinds
by_schema spec version None kinds = refl
by_schema spec version (Some schema) kinds = refl

by_versions : (spec : Data) (versions : Items) (kinds : List Kind)
    → with_kinds (kinds_by spec versions) kinds ≡ with_versions spec versions kinds
by_versions spec json.no_items kinds = refl
by_versions spec (json.item v vs) kinds =
    with_both (kind_by spec v (named_schema v)) (kinds_by spec vs) kinds
    ∙ ap (with_kinds (kinds_by spec vs)) (by_schema spec v (named_schema v) kinds)
    ∙ by_versions spec vs (with_schema spec v (named_schema v) kinds)

-- the own kinds of a definition are those that it adds
pub by_spec : (spec : Option Data) (kinds : List Kind) → with_kinds (own_kinds spec) kinds ≡ with_spec spec kinds
by_spec None kinds = refl
by_spec (Some spec) kinds = at (is_formed spec)
  where
    at : (b : Bool)
        → with_kinds (if b then kinds_by spec (items_in (get (codes "versions") spec)) else []) kinds
        ≡ (if b then with_versions spec (items_in (get (codes "versions") spec)) kinds else kinds)
    at true = by_versions spec (items_in (get (codes "versions") spec)) kinds
    at false = refl
