-- Rows of definitions and kinds, worked by computing.
use Rattle.std.proofs.Common.{◌≡◌, true, false, [], None, refl}
use Rattle.std.specs.Prelude.{codes}
use Rattle.serde_json.specs.Data as json
use Rattle.vap_read_objects.specs.Definitions.{is_scope, is_formed, named_schema, version_count}
use Rattle.vap_read_objects.specs.FixedKinds.{fixed_kinds}
use Rattle.vap_read_objects.specs.Kinds.{kinds_of, with_spec}

-- the words of scope are two
namespaced : is_scope (codes "Namespaced") ≡ true
namespaced = refl

any_scope : is_scope (codes "*") ≡ false
any_scope = refl

-- what says nothing is no definition, and has no versions
nothing : is_formed json.null ≡ false
nothing = refl

no_versions : version_count json.null ≡ 0
no_versions = refl

-- a version without a name has no schema
no_name : named_schema json.null ≡ None
no_name = refl

-- without definitions there are the kinds that need none
none : kinds_of [] ≡ fixed_kinds
none = refl

unsaid : with_spec None [] ≡ []
unsaid = refl
