-- The kind of params by the two parts of its version.
use Rattle.std.proofs.Common.{◌≡◌, ℕ, Bool, true, false, cond, List, [], Option, None, refl, sym, ap, ◌∙◌}
use Rattle.std.specs.List.{list_any}
use Rattle.vap_read_objects.specs.Kinds.{kind_named}
use Rattle.vap_read_objects.specs.declared.kind.Kind.{Kind}
use Rattle.vap_match.specs.Cover.{before_slash, behind_slash}
use Rattle.vap_read.specs.declared.policy.ParamKind.{ParamKind}
use Rattle.vap_read_objects.specs.Naming.{group_of, has_slash, kind_of_params, version_of}
use Rattle.vap_read_objects.proofs.Names.{names_alike}
use Rattle.vap_read_objects.proofs.Slashes.{is_slash}

pub where_true : {X : Type 0} (b : Bool) (x y : X) → b ≡ true → cond b x y ≡ x
where_true true x y e = refl
where_true false x y e = absurd cc

pub where_false : {X : Type 0} (b : Bool) (x y : X) → b ≡ false → cond b x y ≡ y
where_false true x y e = absurd cc
where_false false x y e = refl

-- the kind of a group and a version, which has no slash
abbrev kind_grouped : List ℕ → List ℕ → List ℕ → List Kind → Option Kind
kind_grouped g v n ks = cond (has_slash v) None (kind_named g v n ks)

grouped_alike : (g h v w n m : List ℕ) (ks : List Kind) → g ≡ h → v ≡ w → n ≡ m → kind_grouped g v n ks ≡ kind_grouped h w m ks
grouped_alike g h v w n m ks one two three =
    ap (λ o. cond (has_slash v) None o) (names_alike g h v v n m ks one refl three) ∙ ap (λ x. kind_grouped h x m ks) two

-- with a group
pub grouped : (ks : List Kind) (g v n t : List ℕ) (p : ParamKind) → t ≡ p.api_version → list_any is_slash t ≡ true
    → g ≡ before_slash t → v ≡ behind_slash t → n ≡ p.kind → kind_grouped g v n ks ≡ kind_of_params ks p
grouped ks g v n t p same some before behind name =
    let there : list_any is_slash p.api_version ≡ true = ap (list_any is_slash) (sym same) ∙ some in
    let group : group_of p.api_version ≡ before_slash p.api_version = where_true _ _ _ there in
    let version : version_of p.api_version ≡ behind_slash p.api_version = where_true _ _ _ there in
    grouped_alike g (group_of p.api_version) v (version_of p.api_version) n p.kind ks
    (before ∙ ap before_slash same ∙ sym group) (behind ∙ ap behind_slash same ∙ sym version) name

-- of the core group, whose name is not written
pub ungrouped : (ks : List Kind) (n t : List ℕ) (p : ParamKind) → t ≡ p.api_version → list_any is_slash t ≡ false → n ≡ p.kind
    → kind_named [] t n ks ≡ kind_of_params ks p
ungrouped ks n t p same none name =
    let there : list_any is_slash p.api_version ≡ false = ap (list_any is_slash) (sym same) ∙ none in
    let group : group_of p.api_version ≡ [] = where_false _ _ _ there in
    let version : version_of p.api_version ≡ p.api_version = where_false _ _ _ there in
    sym (where_false (has_slash t) None (kind_named [] t n ks) none)
    ∙ grouped_alike [] (group_of p.api_version) t (version_of p.api_version) n p.kind ks (sym group) (same ∙ sym version) name
