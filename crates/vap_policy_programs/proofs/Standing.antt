-- What is compiled at some names is at them, and what runs is within its price.
use Rattle.std.proofs.Common.{◌≡◌, ◌≤◌, ℕ, Bool, true, false, List, [], ◌∷◌, ◌++◌, Option, Some, None, Result, Ok, Err}
use Rattle.std.proofs.Common.{refl, sym, ap, ◌∙◌, subst, nat_lt, if◌then◌else◌, append_assoc}
use Rattle.std.proofs.lemmas.List.{map-append, append-nil}
use Rattle.std.proofs.lemmas.Bool.{ltb-false}
use Rattle.cel_value.specs.declared.cel_type.CelType.{CelType}
use Rattle.cel_check.specs.Typing.{types_in}
use Rattle.cel_expression.specs.declared.refusal.Refusal.{Refusal}
use Rattle.cel_expression.specs.Source.{Source}
use Rattle.cel_expression.specs.Expressions.{Typed, type_at, allowed, accepted_of, compiled_of, root_type, typed_of}
use Rattle.vap_read.specs.declared.policy.NamedExpression.{NamedExpression}
use Rattle.vap_read.specs.declared.policy.Validation.{Validation}
use Rattle.vap_read.specs.declared.policy.AuditAnnotation.{AuditAnnotation}
use Rattle.vap_read.specs.declared.policy.PolicySpec.{PolicySpec}
use Rattle.vap_policy_programs.specs.declared.names.KindTypes.{KindTypes}
use Rattle.vap_policy_programs.specs.declared.names.ParamsType.{ParamsType}
use Rattle.vap_policy_programs.specs.declared.pair_fault.PairFault.{PairFault}
use Rattle.vap_policy_programs.specs.declared.pair_fault.PairFault.TheVariants as fault
use Rattle.vap_policy_programs.specs.declared.programs.Condition.{Condition}
use Rattle.vap_policy_programs.specs.declared.programs.Check.{Check}
use Rattle.vap_policy_programs.specs.declared.programs.Annotation.{Annotation}
use Rattle.vap_policy_programs.specs.declared.programs.Programs.{Programs}
use Rattle.vap_policy_programs.specs.declared.wanted.Wanted.{Wanted}
use Rattle.vap_policy_programs.specs.declared.wanted.Wanted.TheVariants.{Whatever, Truth, Message, Note}
use Rattle.vap_policy_programs.specs.Scopes.{NoPatterns, Scope, source, is_unknown, first_names, with_variable}
use Rattle.vap_policy_programs.specs.Wanted.{is_wanted, wrong_type, compiled, as_wanted, compiled_as}
use Rattle.vap_policy_programs.specs.Pairs.{after, behind, each, condition_of, Scoped, scoped_from, message_of, check_of, annotation_of}
use Rattle.vap_policy_programs.specs.Pairs.{price_of, most, programs_of, within_price, decisions_behind}
use Rattle.vap_policy_programs.specs.Pairs.{programs_behind, programs_at, programs_with, pair_by, pair_of}
use Rattle.vap_policy_programs.specs.Ready.{IsAt, AreConditionsAt, Follow, IsMessageAt, IsCheckAt, AreChecksAt, AreAnnotationsAt, all_types}
use Rattle.vap_policy_programs.specs.Ready.{IsReady, IsPairReady, IsPairWithin}

-- a step that has an answer had one before
pub stepped : {A B : Type 0} (r : Result A PairFault) (f : A → Result B PairFault) (y : B) → after r f ≡ Ok y
    → (x : A) × (r ≡ Ok x) × (f x ≡ Ok y)
stepped (Ok x) f y e = (x, refl, e)
stepped (Err g) f y e = absurd cc

pub behind_is : {A : Type 0} (xs : List A) (r : Result (List A) PairFault) (ys : List A) → behind xs r ≡ Ok ys
    → (zs : List A) × (r ≡ Ok zs) × (ys ≡ xs ++ zs)
behind_is xs (Ok zs) ys e = (zs, refl, cc)
behind_is xs (Err g) ys e = absurd cc

-- ---- an expression is where it was compiled

allowed_is : (b : Source) (r : Typed) (s : Source) → allowed b r ≡ Ok s → s ≡ b
allowed_is b (Ok t) s e = cc
allowed_is b (Err why) s e = absurd cc

pub compiled_is : (b s : Source) → compiled_of b ≡ Ok s → s ≡ b
unfolding compiled_of
compiled_is b s e = allowed_is b (accepted_of b) s e

compiled_same : (b : Source) (r : Result Source Refusal) (s : Source) → ((t : Source) → r ≡ Ok t → t ≡ b)
    → compiled r ≡ Ok s → s ≡ b
compiled_same b (Ok t) s is e = let h : t ≡ s = cc in sym h ∙ is t refl
compiled_same b (Err why) s is e = absurd cc

chosen_when : (b : Bool) (x : Result Source PairFault) (s : Source) (why : PairFault) → (if b then x else Err why) ≡ Ok s → x ≡ Ok s
chosen_when true x s why e = e
chosen_when false x s why e = absurd cc

wanted_is : (w : Wanted) (b : Source) (t : Option CelType) (s : Source) → as_wanted w t (compiled_of b) ≡ Ok s → s ≡ b
wanted_is w b (Some t) s e = compiled_same b (compiled_of b) s (compiled_is b)
    (chosen_when (is_wanted w t) (compiled (compiled_of b)) s (fault.Expression wrong_type) e)
wanted_is w b None s e = compiled_same b (compiled_of b) s (compiled_is b) e

-- what is compiled is the expression itself
pub compiled_source : (choice : NoPatterns) (names : Scope) (text : List ℕ) (w : Wanted) (s : Source)
    → compiled_as w (source choice names text) ≡ Ok s → s ≡ source choice names text
unfolding compiled_as
compiled_source choice names text w s e = wanted_is w (source choice names text) (root_type (typed_of (source choice names text))) s e

pub compiled_at : (choice : NoPatterns) (names : Scope) (text : List ℕ) (w : Wanted) (s : Source)
    → compiled_as w (source choice names text) ≡ Ok s
    → IsAt (types_in names) s
compiled_at choice names text w s e = ap (λ x. types_in x.names) (compiled_source choice names text w s e)

-- ---- conditions

abbrev ok_condition : Condition → Result Condition PairFault
ok_condition y = Ok y

condition_is : (k : List ℕ) (x : Source) (y : Condition) → ok_condition (record { name = k; expression = x }) ≡ Ok y → x ≡ y.expression
condition_is k x y e = let h : record { name = k; expression = x } ≡ y = cc in ap (λ z. z.expression) h

condition_at : (choice : NoPatterns) (names : Scope) (c : NamedExpression) (y : Condition) → condition_of choice names c ≡ Ok y
    → IsAt (types_in names) y.expression
unfolding condition_of
condition_at choice names c y e =
    let r = stepped (compiled_as Truth (source choice names c.expression)) (λ s. Ok (record { name = c.name; expression = s })) y e in
    subst (IsAt (types_in names)) (condition_is c.name r.0 y r.2) (compiled_at choice names c.expression Truth r.0 r.1)

pub conditions_at : (choice : NoPatterns) (names : Scope) (cs : List NamedExpression) (ss : List Condition)
    → each (condition_of choice names) cs ≡ Ok ss
    → AreConditionsAt (types_in names) ss
conditions_at choice names [] ss e = let h : ss ≡ [] = cc in rw h tt
conditions_at choice names (c ∷ cs) ss e =
    let p = stepped (condition_of choice names c) (λ y. behind (y ∷ []) (each (condition_of choice names) cs)) ss e in
    let q = behind_is (p.0 ∷ []) (each (condition_of choice names) cs) ss p.2 in
    let h = q.2 in
    rw h (condition_at choice names c p.0 p.1, conditions_at choice names cs q.0 q.1)

-- ---- variables

more_types : (names : Scope) (x : List ℕ) (s : Source) → types_in (with_variable names x s) ≡ types_in names ++ type_at s ∷ []
unfolding with_variable
more_types names x s = map-append (λ n. n.value) names _

-- what comes after the variables made before follows them
pub scoped_follow : (choice : NoPatterns) (names : Scope) (made : List Source) (vs : List NamedExpression) (d : Scoped)
    → scoped_from choice names made vs ≡ Ok d
    → (ss : List Source) × (d.variables ≡ made ++ ss) × Follow (types_in names) ss (types_in d.names)
scoped_follow choice names made [] d e =
    let h : record { variables = made; names = names } ≡ d = cc in
    ([], ap (λ x. x.variables) (sym h) ∙ sym (append-nil made), ap (λ x. types_in x.names) h)
scoped_follow choice names made (v ∷ vs) d e =
    let p = stepped (compiled_as Whatever (source choice names v.expression))
    (λ s. scoped_from choice (with_variable names v.name s) (made ++ s ∷ []) vs) d e in
    let q = scoped_follow choice (with_variable names v.name p.0) (made ++ p.0 ∷ []) vs d p.2 in (
      p.0 ∷ q.0,
      q.1 ∙ append_assoc made (p.0 ∷ []) q.0,
      (
        compiled_at choice names v.expression Whatever p.0 p.1,
        subst (λ x. Follow x q.0 (types_in d.names)) (more_types names v.name p.0) q.2,
      ),
    )

follow_last : (types : List CelType) (ss : List Source) (last : List CelType) → Follow types ss last → last ≡ all_types types ss
follow_last types [] last f = sym f
follow_last types (s ∷ ss) last f = follow_last (types ++ type_at s ∷ []) ss last f.1

-- ---- validations

message_at : (choice : NoPatterns) (names : Scope) (m : Option (List ℕ)) (y : Option Source) → message_of choice names m ≡ Ok y
    → IsMessageAt (types_in names) y
message_at choice names None y e = let h : y ≡ None = cc in rw h tt
message_at choice names (Some text) y e =
    let p = stepped (compiled_as Message (source choice names text)) (λ s. Ok (Some s)) y e in
    let k = p.2 in
    let h : y ≡ Some p.0 = cc in
    rw h (compiled_at choice names text Message p.0 p.1)

check_at : (choice : NoPatterns) (names : Scope) (v : Validation) (y : Check)
    → check_of choice names v ≡ Ok y → IsCheckAt (types_in names) y
unfolding check_of
check_at choice names v y e =
    let p = stepped (compiled_as Truth (source choice names v.expression)) (λ s. after (message_of choice names v.message_expression)
    (λ m. Ok (record { expression = s; message = v.message; message_expression = m; reason = v.reason }))) y e in
    let q = stepped (message_of choice names v.message_expression)
    (λ m. Ok (record { expression = p.0; message = v.message; message_expression = m; reason = v.reason })) y p.2 in
    let k = q.2 in
    let h : record { expression = p.0; message = v.message; message_expression = q.0; reason = v.reason } ≡ y = cc in
    subst (IsCheckAt (types_in names)) h
    (compiled_at choice names v.expression Truth p.0 p.1, message_at choice names v.message_expression q.0 q.1)

pub checks_at : (choice : NoPatterns) (names : Scope) (vs : List Validation) (ys : List Check) → each (check_of choice names) vs ≡ Ok ys
    → AreChecksAt (types_in names) ys
checks_at choice names [] ys e = let h : ys ≡ [] = cc in rw h tt
checks_at choice names (v ∷ vs) ys e =
    let p = stepped (check_of choice names v) (λ y. behind (y ∷ []) (each (check_of choice names) vs)) ys e in
    let q = behind_is (p.0 ∷ []) (each (check_of choice names) vs) ys p.2 in
    let h = q.2 in
    rw h (check_at choice names v p.0 p.1, checks_at choice names vs q.0 q.1)

-- ---- annotations

abbrev ok_annotation : Annotation → Result Annotation PairFault
ok_annotation y = Ok y

annotation_is : (k : List ℕ) (x : Source) (y : Annotation) → ok_annotation (record { key = k; value = x }) ≡ Ok y → x ≡ y.value
annotation_is k x y e = let h : record { key = k; value = x } ≡ y = cc in ap (λ z. z.value) h

annotation_at : (choice : NoPatterns) (names : Scope) (a : AuditAnnotation) (y : Annotation) → annotation_of choice names a ≡ Ok y
    → IsAt (types_in names) y.value
unfolding annotation_of
annotation_at choice names a y e =
    let r = stepped (compiled_as Note (source choice names a.value_expression)) (λ s. Ok (record { key = a.key; value = s })) y e in
    subst (IsAt (types_in names)) (annotation_is a.key r.0 y r.2) (compiled_at choice names a.value_expression Note r.0 r.1)

pub annotations_at : (choice : NoPatterns) (names : Scope) (ns : List AuditAnnotation) (ys : List Annotation)
    → each (annotation_of choice names) ns ≡ Ok ys
    → AreAnnotationsAt (types_in names) ys
annotations_at choice names [] ys e = let h : ys ≡ [] = cc in rw h tt
annotations_at choice names (n ∷ ns) ys e =
    let p = stepped (annotation_of choice names n) (λ y. behind (y ∷ []) (each (annotation_of choice names) ns)) ys e in
    let q = behind_is (p.0 ∷ []) (each (annotation_of choice names) ns) ys p.2 in
    let h = q.2 in
    rw h (annotation_at choice names n p.0 p.1, annotations_at choice names ns q.0 q.1)

-- ---- the price

priced : (b : Bool) (x y : Programs) → (if b then Err fault.OverBudget else Ok x) ≡ Ok y → x ≡ y
priced true x y e = absurd cc
priced false x y e = cc

not_over : (over : Bool) (x y : Programs) → (if over then Err fault.OverBudget else Ok x) ≡ Ok y → over ≡ false
not_over true x y e = absurd cc
not_over false x y e = refl

pub bought : (x y : Programs) → within_price x ≡ Ok y → (x ≡ y) × (price_of y ≤ most)
bought x y e =
    let same = priced (nat_lt most (price_of x)) x y e in
    (same, subst (λ z. price_of z ≤ most) same (ltb-false most (price_of x) (not_over (nat_lt most (price_of x)) x y e)))

-- ---- a policy at a kind

-- what a policy's programs are made of, if it has them
pub record Parts (choice : NoPatterns) (names : Scope) (p : PolicySpec) (ps : Programs) : Type 0 where
  pub scope : Scope
  pub conditions : each (condition_of choice names) p.match_conditions ≡ Ok ps.conditions
  pub variables : scoped_from choice names [] p.variables ≡ Ok (record { variables = ps.variables; names = scope })
  pub validations : each (check_of choice scope) p.validations ≡ Ok ps.validations
  pub annotations : each (annotation_of choice scope) p.audit_annotations ≡ Ok ps.annotations
  pub within : price_of ps ≤ most
  pub priced : ps.price ≡ price_of ps

pub parts : (choice : NoPatterns) (names : Scope) (p : PolicySpec) (ps : Programs) → programs_at choice names p ≡ Ok ps
    → Parts choice names p ps
parts choice names p ps e =
    let a = stepped (each (condition_of choice names) p.match_conditions) (programs_behind choice names p) ps e in
    let b = stepped (scoped_from choice names [] p.variables) (decisions_behind choice a.0 p) ps a.2 in
    let c = stepped (each (check_of choice b.0.names) p.validations)
    (λ ks. after (each (annotation_of choice b.0.names) p.audit_annotations)
    (λ ns. within_price (programs_of a.0 b.0.variables ks ns))) ps b.2 in
    let d = stepped (each (annotation_of choice b.0.names) p.audit_annotations)
    (λ ns. within_price (programs_of a.0 b.0.variables c.0 ns)) ps c.2 in
    let h = bought (programs_of a.0 b.0.variables c.0 d.0) ps d.2 in
    subst (Parts choice names p) h.0 (record {
      scope = b.0.names;
      conditions = a.1;
      variables = b.1;
      validations = c.1;
      annotations = d.1;
      within = subst (λ z. price_of z ≤ most) (sym h.0) h.1;
      priced = refl;
    })

pub programs_ready : (choice : NoPatterns) (names : Scope) (p : PolicySpec) (ps : Programs) → programs_at choice names p ≡ Ok ps
    → IsReady (types_in names) ps
programs_ready choice names p ps e =
    let t = parts choice names p ps e in
    let f = scoped_follow choice names [] p.variables (record { variables = ps.variables; names = t.scope }) t.variables in
    let v = sym f.1 in
    let g : Follow (types_in names) ps.variables (types_in t.scope) = subst (λ x. Follow (types_in names) x (types_in t.scope)) v f.2 in
    let l = follow_last (types_in names) ps.variables (types_in t.scope) g in
    record {
      conditions = conditions_at choice names p.match_conditions ps.conditions t.conditions;
      variables = subst (Follow (types_in names) ps.variables) l g;
      validations = subst (λ x. AreChecksAt x ps.validations) l (checks_at choice t.scope p.validations ps.validations t.validations);
      annotations = subst (λ x. AreAnnotationsAt x ps.annotations) l
          (annotations_at choice t.scope p.audit_annotations ps.annotations t.annotations);
      priced = t.priced;
    }

by_ready : (types : KindTypes) (params : ParamsType) (r : Result Programs PairFault)
    → ((ps : Programs) → r ≡ Ok ps → IsReady (types_in (first_names types params)) ps) → IsPairReady types params (pair_by r)
by_ready types params (Ok ps) h = h ps refl
by_ready types params (Err why) h = tt

by_within : (r : Result Programs PairFault) → ((ps : Programs) → r ≡ Ok ps → price_of ps ≤ most) → IsPairWithin (pair_by r)
by_within (Ok ps) h = h ps refl
by_within (Err why) h = tt

known : (b : Bool) (r : Result Programs PairFault) (ps : Programs) → (if b then Err fault.UnknownParamKind else r) ≡ Ok ps → r ≡ Ok ps
known true r ps e = absurd cc
known false r ps e = e

ready_with : (choice : NoPatterns) (types : KindTypes) (params : ParamsType) (p : PolicySpec) (ps : Programs)
    → programs_with choice types params p ≡ Ok ps → IsReady (types_in (first_names types params)) ps
ready_with choice types params p ps e =
    programs_ready choice (first_names types params) p ps (known (is_unknown params) (programs_at choice (first_names types params) p) ps e)

within_with : (choice : NoPatterns) (types : KindTypes) (params : ParamsType) (p : PolicySpec) (ps : Programs)
    → programs_with choice types params p ≡ Ok ps → price_of ps ≤ most
within_with choice types params p ps e =
    (parts choice (first_names types params) p ps (known (is_unknown params) (programs_at choice (first_names types params) p) ps e)).within

pub pair_ready : (choice : NoPatterns) (types : KindTypes) (params : ParamsType) (p : PolicySpec)
    → IsPairReady types params (pair_of choice types params p)
unfolding pair_of
pair_ready choice types params p = by_ready types params (programs_with choice types params p) (ready_with choice types params p)

pub pair_within : (choice : NoPatterns) (types : KindTypes) (params : ParamsType) (p : PolicySpec)
    → IsPairWithin (pair_of choice types params p)
unfolding pair_of
pair_within choice types params p = by_within (programs_with choice types params p) (within_with choice types params p)
