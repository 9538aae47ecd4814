-- Which kind an apiVersion and a kind name.
use Rattle.std.specs.Prelude.{ℕ, nat_eq, Bool, if◌then◌else◌, List, [], ◌∷◌, Option, None}
use Rattle.std.specs.List.{list_any}
use Rattle.vap_read_objects.specs.Kinds.{kind_named}
use Rattle.vap_read_objects.specs.declared.kind.Kind.{Kind}
use Rattle.vap_match.specs.Cover.{before_slash, behind_slash}
use Rattle.vap_read.specs.declared.policy.ParamKind.{ParamKind}

-- whether a text has a slash
abbrev pub has_slash : List ℕ → Bool
has_slash text = list_any (λ b. nat_eq b 47) text

-- the group of `group/version`; the core group's name is empty, and is not written, and its slash need not be written
abbrev pub group_of : List ℕ → List ℕ
group_of api_version = if has_slash api_version then before_slash api_version else []

-- the version of `group/version`
abbrev pub version_of : List ℕ → List ℕ
version_of api_version = if has_slash api_version then behind_slash api_version else api_version

-- the kind of params that a policy names, if it is known or refused; two slashes name none
abbrev pub kind_of_params : List Kind → ParamKind → Option Kind
kind_of_params kinds p =
    if has_slash (version_of p.api_version) then None
    else kind_named (group_of p.api_version) (version_of p.api_version) p.kind kinds

-- an apiVersion as objects of its group and version spell it: there is no slash before the version if the group is empty
abbrev pub spelled : List ℕ → List ℕ
spelled [] = []
spelled (b ∷ bs) = if nat_eq b 47 then bs else b ∷ bs
