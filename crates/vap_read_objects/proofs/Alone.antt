-- What is made of objects of a class alone, and of all objects.
use Rattle.std.proofs.Common.{◌≡◌, Bool, true, false, cond, List, [], ◌∷◌, ◌++◌, refl, ap, ap₂, ◌∙◌}
use Rattle.std.specs.Prelude.{if◌then◌else◌}
use Rattle.std.specs.List.{flat_map}
use Rattle.vap_read.specs.declared.key.Key.{Key}
use Rattle.vap_read.specs.declared.object.Object.{Object}
use Rattle.vap_read_objects.specs.Classes.{is_binding, is_policy, of_class}
use Rattle.vap_read_objects.specs.Definitions.{is_definition}
use Rattle.vap_read_objects.specs.Listed.{binding_by, binding_in, binding_read, binding_under, bindings_among}
use Rattle.vap_read_objects.specs.Listed.{definition_in, definition_under, definitions_among, object_named}
use Rattle.vap_read_objects.specs.Listed.{policies_among, policy_by, policy_in, policy_read, policy_under}

-- what is made of all by `all` is made of those of the class by `each`
module _ {X : Type 0} (class : Key → Bool) (all each : Key × Object → List X)
    (none : (e : Key × Object) → class e.0 ≡ false → all e ≡ []) (same : (e : Key × Object) → class e.0 ≡ true → all e ≡ each e) where
  pub made_of : (os : List (Key × Object)) → flat_map all os ≡ flat_map each (of_class class os)
  made_of [] = refl
  made_of (e ∷ os) = at (class e.0) refl (made_of os)
    where
      at : (b : Bool) → class e.0 ≡ b → flat_map all os ≡ flat_map each (of_class class os)
          → flat_map all (e ∷ os) ≡ flat_map each (cond b (e ∷ of_class class os) (of_class class os))
      at true is rest = ap₂ (λ xs ys. xs ++ ys) (same e is) rest
      at false is rest = ap (λ xs. xs ++ flat_map all os) (none e is) ∙ rest

-- ---- policies

pub policy_if : (e : Key × Object) (b : Bool) → is_policy e.0 ≡ b → policy_in e ≡ (if b then policy_read e else [])
unfolding policy_under
policy_if e b is = ap (λ b. if b then policy_by e.0.name e.1.content else []) is

pub no_policy : (e : Key × Object) → is_policy e.0 ≡ false → policy_in e ≡ []
no_policy e none = policy_if e false none

pub policies_alone : (os : List (Key × Object)) → policies_among os ≡ flat_map policy_read (of_class is_policy os)
policies_alone = made_of is_policy policy_in policy_read no_policy (λ e is. policy_if e true is)

-- ---- bindings

binding_if : (e : Key × Object) (b : Bool) → is_binding e.0 ≡ b → binding_in e ≡ (if b then binding_read e else [])
unfolding binding_under
binding_if e b is = ap (λ b. if b then binding_by e.0.name e.1.content else []) is

pub no_binding : (e : Key × Object) → is_binding e.0 ≡ false → binding_in e ≡ []
no_binding e none = binding_if e false none

pub bindings_alone : (os : List (Key × Object)) → bindings_among os ≡ flat_map binding_read (of_class is_binding os)
bindings_alone = made_of is_binding binding_in binding_read no_binding (λ e is. binding_if e true is)

-- ---- definitions

definition_if : (e : Key × Object) (b : Bool) → is_definition e.0 ≡ b → definition_in e ≡ (if b then object_named e else [])
unfolding definition_under
definition_if e b is = ap (λ b. if b then record { key = e.0.name; value = e.1 } ∷ [] else []) is

pub no_definition : (e : Key × Object) → is_definition e.0 ≡ false → definition_in e ≡ []
no_definition e none = definition_if e false none

pub definitions_alone : (os : List (Key × Object)) → definitions_among os ≡ flat_map object_named (of_class is_definition os)
definitions_alone = made_of is_definition definition_in object_named no_definition (λ e is. definition_if e true is)
