-- What policies may cover, and which places they name.
use Rattle.std.proofs.Common.{◌≡◌, ℕ, Bool, true, false, ◌&&◌, ◌||◌, List, [], ◌∷◌, refl, sym, ap, ◌∙◌}
use Rattle.std.specs.Prelude.{codes}
use Rattle.std.specs.List.{flat_map, list_any}
use Rattle.std.specs.Str.{bytes_eq}
use Rattle.std.proofs.lemmas.Bool.{and_parts}
use Rattle.std.proofs.lemmas.List.Folds.{list_any-append}
use Rattle.vap_match.specs.Cover.{before_slash, covers, covers_resource, is_covered, is_named, is_within, is_word_or_any}
use Rattle.vap_match.specs.Cover.{operation_name, rule_covers}
use Rattle.vap_match.specs.Namespaces.{is_cluster}
use Rattle.vap_match.specs.declared.rules.Rule.{Rule}
use Rattle.vap_match.specs.declared.rules.Rules.{Rules}
use Rattle.vap_match.specs.declared.request.Admission.{Admission}
use Rattle.vap_policy_set.specs.Covering.{rule_is_wide, rule_may_cover, rules_are_wide, rules_may_cover}
use Rattle.vap_policy_set.specs.Places.{group_places, is_place, rule_places}
use Rattle.vap_policy_set.specs.PolicyCovering.{is_wide, may_cover, places_of, rules_in}
use Rattle.vap_policy_set.specs.declared.bound.BoundPolicy.{BoundPolicy}

-- ---- what covers may cover

any_weaker : {X : Type 0} (p q : X → Bool) (xs : List X) → ((x : X) → p x ≡ true → q x ≡ true) → list_any p xs ≡ true
    → list_any q xs ≡ true
any_weaker p q [] weaker h = absurd cc
any_weaker p q (x ∷ xs) weaker h = at (p x) (q x) (weaker x) (any_weaker p q xs weaker) h
  where
    at : (b c : Bool) → (b ≡ true → c ≡ true) → (list_any p xs ≡ true → list_any q xs ≡ true) → (b || list_any p xs) ≡ true
        → (c || list_any q xs) ≡ true
    at true true weaker rest h = refl
    at true false weaker rest h = absurd (let e = weaker refl in cc)
    at false true weaker rest h = refl
    at false false weaker rest h = rest h

both : (a b : Bool) → a ≡ true → b ≡ true → (a && b) ≡ true
both true true h k = refl
both true false h k = absurd cc
both false b h k = absurd cc

rule_may : (r : Admission) (rule : Rule) → rule_covers r rule ≡ true → rule_may_cover r.resource.group r.resource.resource rule ≡ true
unfolding rule_may_cover
rule_may r rule h =
    let operations : Bool = list_any (λ o. is_word_or_any r.operation (operation_name o)) rule.operations in
    let groups : Bool = list_any (is_word_or_any r.resource.group) rule.api_groups in
    let versions : Bool = list_any (is_word_or_any r.resource.version) rule.api_versions in
    let resources : Bool = list_any (covers_resource r.resource.resource r.sub_resource) rule.resources in
    let within : Bool = is_within rule.scope (is_cluster r) in
    let five = and_parts (operations && groups && versions && resources && within) (is_named rule.resource_names r.name) h in
    let four = and_parts (operations && groups && versions && resources) within five.0 in
    let three = and_parts (operations && groups && versions) resources four.0 in
    let two = and_parts (operations && groups) versions three.0 in
    both groups (list_any (λ pattern. is_word_or_any r.resource.resource (before_slash pattern)) rule.resources)
    (and_parts operations groups two.0).1
    (
    any_weaker (covers_resource r.resource.resource r.sub_resource)
    (λ pattern. is_word_or_any r.resource.resource (before_slash pattern)) rule.resources
    (λ pattern one. (and_parts _ _ one).0) three.1
    )

rules_may : (rules : List Rule) (r : Admission) → is_covered rules r ≡ true
    → rules_may_cover r.resource.group r.resource.resource rules ≡ true
rules_may [] r h = refl
rules_may (rule ∷ rules) r h =
    any_weaker (rule_covers r) (rule_may_cover r.resource.group r.resource.resource) (rule ∷ rules) (rule_may r) h

-- what rules cover they may cover
pub covered_may : (rules : Rules) (r : Admission) → covers rules r ≡ true
    → rules_may_cover r.resource.group r.resource.resource rules.resource_rules ≡ true
covered_may rules r h = rules_may rules.resource_rules r (and_parts (is_covered rules.resource_rules r) _ h).0

-- ---- what narrow rules name

pub left_of : (a b : Bool) → (a || b) ≡ false → a ≡ false
left_of true b h = h
left_of false b h = refl

pub right_of : (a b : Bool) → (a || b) ≡ false → b ≡ false
right_of true b h = absurd cc
right_of false b h = h

-- without the word for all, a word is among these by itself
narrow_any : {X : Type 0} (text : X → List ℕ) (word : List ℕ) (xs : List X)
    → list_any (λ x. is_word_or_any (codes "*") (text x)) xs ≡ false
    → list_any (λ x. is_word_or_any word (text x)) xs ≡ list_any (λ x. bytes_eq (text x) word) xs
narrow_any text word [] narrow = refl
narrow_any text word (x ∷ xs) narrow =
    at (bytes_eq (text x) word) (bytes_eq (text x) (codes "*"))
    (left_of (is_word_or_any (codes "*") (text x)) (list_any (λ x. is_word_or_any (codes "*") (text x)) xs) narrow)
    (narrow_any text word xs
    (right_of (is_word_or_any (codes "*") (text x)) (list_any (λ x. is_word_or_any (codes "*") (text x)) xs) narrow))
  where
    at : (a b : Bool) → (b || b) ≡ false
        → list_any (λ x. is_word_or_any word (text x)) xs ≡ list_any (λ x. bytes_eq (text x) word) xs
        → ((a || b) || list_any (λ x. is_word_or_any word (text x)) xs) ≡ (a || list_any (λ x. bytes_eq (text x) word) xs)
    at a true none rest = absurd cc
    at true false none rest = refl
    at false false none rest = rest

-- the places of patterns in a group
group_named : (g s word : List ℕ) (ps : List (List ℕ))
    → list_any (is_place g s) (group_places ps word) ≡ (bytes_eq word g && list_any (λ p. bytes_eq (before_slash p) s) ps)
group_named g s word [] = at (bytes_eq word g)
  where
    at : (b : Bool) → false ≡ (b && false)
    at true = refl
    at false = refl
group_named g s word (p ∷ ps) = at (bytes_eq word g) (group_named g s word ps)
  where
    at : (b : Bool)
        → list_any (is_place g s) (group_places ps word) ≡ (b && list_any (λ p. bytes_eq (before_slash p) s) ps)
        → ((b && bytes_eq (before_slash p) s) || list_any (is_place g s) (group_places ps word))
        ≡ (b && (bytes_eq (before_slash p) s || list_any (λ p. bytes_eq (before_slash p) s) ps))
    at true rest = ap (λ x. bytes_eq (before_slash p) s || x) rest
    at false rest = rest

-- the places of patterns in groups
groups_named : (g s : List ℕ) (ws ps : List (List ℕ))
    → list_any (is_place g s) (flat_map (group_places ps) ws)
    ≡ (list_any (λ w. bytes_eq w g) ws && list_any (λ p. bytes_eq (before_slash p) s) ps)
groups_named g s [] ps = refl
groups_named g s (w ∷ ws) ps =
    list_any-append (is_place g s) (group_places ps w) (flat_map (group_places ps) ws)
    ∙ ap (λ x. x || list_any (is_place g s) (flat_map (group_places ps) ws)) (group_named g s w ps)
    ∙ ap (λ x. (bytes_eq w g && list_any (λ p. bytes_eq (before_slash p) s) ps) || x) (groups_named g s ws ps)
    ∙ at (bytes_eq w g) (list_any (λ w. bytes_eq w g) ws) (list_any (λ p. bytes_eq (before_slash p) s) ps)
  where
    at : (a b c : Bool) → ((a && c) || (b && c)) ≡ ((a || b) && c)
    at true true true = refl
    at true true false = refl
    at true false true = refl
    at true false false = refl
    at false b c = refl

rule_named : (g s : List ℕ) (rule : Rule) → rule_is_wide rule ≡ false
    → list_any (is_place g s) (rule_places rule) ≡ rule_may_cover g s rule
unfolding rule_is_wide rule_may_cover
rule_named g s rule narrow =
    groups_named g s rule.api_groups rule.resources
    ∙ ap (λ x. x && list_any (λ p. bytes_eq (before_slash p) s) rule.resources) (sym (narrow_any (λ w. w) g rule.api_groups
    (left_of (list_any (is_word_or_any (codes "*")) rule.api_groups)
    (list_any (λ p. is_word_or_any (codes "*") (before_slash p)) rule.resources) narrow)))
    ∙ ap (λ x. list_any (is_word_or_any g) rule.api_groups && x) (sym (narrow_any before_slash s rule.resources
    (right_of (list_any (is_word_or_any (codes "*")) rule.api_groups)
    (list_any (λ p. is_word_or_any (codes "*") (before_slash p)) rule.resources) narrow)))

rules_named : (g s : List ℕ) (rules : List Rule) → list_any rule_is_wide rules ≡ false
    → list_any (is_place g s) (flat_map rule_places rules) ≡ list_any (rule_may_cover g s) rules
rules_named g s [] narrow = refl
rules_named g s (r ∷ rs) narrow =
    list_any-append (is_place g s) (rule_places r) (flat_map rule_places rs)
    ∙ ap (λ x. x || list_any (is_place g s) (flat_map rule_places rs))
    (rule_named g s r (left_of (rule_is_wide r) (list_any rule_is_wide rs) narrow))
    ∙ ap (λ x. rule_may_cover g s r || x) (rules_named g s rs (right_of (rule_is_wide r) (list_any rule_is_wide rs) narrow))

all_named : (g s : List ℕ) (rules : List Rule) → rules_are_wide rules ≡ false
    → list_any (is_place g s) (flat_map rule_places rules) ≡ rules_may_cover g s rules
all_named g s [] narrow = absurd cc
all_named g s (r ∷ rs) narrow = rules_named g s (r ∷ rs) narrow

-- a narrow policy may cover just the places that its rules name
pub narrow_named : (g s : List ℕ) (p : BoundPolicy) → is_wide p ≡ false
    → list_any (is_place g s) (flat_map rule_places (rules_in p)) ≡ may_cover g s p
narrow_named g s p narrow = all_named g s (rules_in p) narrow

-- a policy that does not name a place, but may cover it, is wide
pub unnamed_wide : (g s : List ℕ) (p : BoundPolicy) → list_any (is_place g s) (places_of p) ≡ false → may_cover g s p ≡ true
    → is_wide p ≡ true
unnamed_wide g s p none may = at (is_wide p) refl
  where
    at : (b : Bool) → is_wide p ≡ b → b ≡ true
    at true is = refl
    at false is = sym none ∙ narrow_named g s p is ∙ may
