-- An object is read as a policy or a binding exactly if its key is that of one: looking at keys leaves out none.
use Rattle.std.proofs.Common.{◌≡◌, ℕ, Bool, true, false, List, [], Result, Ok, Err, refl, sym, ap, ◌∙◌, subst, true≢false, is_ok}
use Rattle.std.specs.Prelude.{if◌then◌else◌}
use Rattle.serde_json.specs.Data.{Data}
use Rattle.base_containers.specs.Failures.{made}
use Rattle.vap_read.specs.BindingReading.{read_binding}
use Rattle.vap_read.specs.declared.binding.Binding.{Binding}
use Rattle.vap_read.specs.PolicyReading.{read_policy}
use Rattle.vap_read.specs.declared.policy.Policy.{Policy}
use Rattle.vap_read.specs.declared.policy_fault.PolicyFault.{PolicyFault}
use Rattle.vap_read.specs.Objects.{is_binding, is_object, is_policy, key_of}
use Rattle.vap_read.specs.Reading.{read_content, read_object, with_content}
use Rattle.vap_read.specs.declared.event_fault.EventFault.{EventFault}
use Rattle.vap_read.specs.declared.event_fault.EventFault.TheVariants.{BadObject}
use Rattle.vap_read.specs.declared.object.Content.{Content}
use Rattle.vap_read.specs.declared.object.Content.TheVariants as content
use Rattle.vap_read.specs.declared.object.Object.{Object}
use Rattle.vap_read_objects.specs.Listed.{policy_by, policy_under, binding_by, binding_under}

abbrev content_in : Result Content PolicyFault → Content
content_in (Ok c) = c
content_in (Err f) = content.Other

abbrev object_or : Object → Result Object EventFault → Object
object_or o (Ok p) = p
object_or o (Err f) = o

-- ---- what is read if a key is of something else

binding_alone : (name : List ℕ) (r : Result Binding PolicyFault) (c : Content) → made content.Binding r ≡ Ok c → policy_by name c ≡ []
binding_alone name (Ok b) c e = ap (λ s. policy_by name (content_in s)) (sym e)
binding_alone name (Err f) c e = absurd (true≢false (sym (ap is_ok e)))

policy_alone : (name : List ℕ) (r : Result Policy PolicyFault) (c : Content) → made content.Policy r ≡ Ok c → binding_by name c ≡ []
policy_alone name (Ok p) c e = ap (λ s. binding_by name (content_in s)) (sym e)
policy_alone name (Err f) c e = absurd (true≢false (sym (ap is_ok e)))

abbrev behind_policies : Data → Result Content PolicyFault
behind_policies d = if is_binding d then made content.Binding (read_binding d) else Ok content.Other

no_policy_read : (name : List ℕ) (d : Data) (c : Content) → is_policy d ≡ false → read_content d ≡ Ok c → policy_by name c ≡ []
no_policy_read name d c none is =
    at (is_binding d) (sym (ap (λ b. if b then made content.Policy (read_policy d) else behind_policies d) none) ∙ is)
  where
    at : (b : Bool) → (if b then made content.Binding (read_binding d) else Ok content.Other) ≡ Ok c → policy_by name c ≡ []
    at true e = binding_alone name (read_binding d) c e
    at false e = ap (λ s. policy_by name (content_in s)) (sym e)

abbrev as_read : Data → Bool → Result Content PolicyFault
as_read d b =
    if is_policy d then made content.Policy (read_policy d)
    else (if b then made content.Binding (read_binding d) else Ok content.Other)

no_binding_read : (name : List ℕ) (d : Data) (c : Content) → is_binding d ≡ false → read_content d ≡ Ok c → binding_by name c ≡ []
no_binding_read name d c none is = at (is_policy d) (sym (ap (as_read d) none) ∙ is)
  where
    at : (b : Bool) → (if b then made content.Policy (read_policy d) else Ok content.Other) ≡ Ok c → binding_by name c ≡ []
    at true e = policy_alone name (read_policy d) c e
    at false e = ap (λ s. binding_by name (content_in s)) (sym e)

-- ---- an object under its key

abbrev object_of : Data → Content → Object
object_of d c = record { key = key_of d; content = c; document = d }

policy_of_key : (d : Data) (c : Content) → read_content d ≡ Ok c
    → policy_under (key_of d) (object_of d c) ≡ policy_by (key_of d).name c
unfolding policy_under
policy_of_key d c is = at (is_policy d) refl
  where
    at : (b : Bool) → is_policy d ≡ b → (if b then policy_by (key_of d).name c else []) ≡ policy_by (key_of d).name c
    at true h = refl
    at false h = sym (no_policy_read (key_of d).name d c h is)

binding_of_key : (d : Data) (c : Content) → read_content d ≡ Ok c
    → binding_under (key_of d) (object_of d c) ≡ binding_by (key_of d).name c
unfolding binding_under
binding_of_key d c is = at (is_binding d) refl
  where
    at : (b : Bool) → is_binding d ≡ b → (if b then binding_by (key_of d).name c else []) ≡ binding_by (key_of d).name c
    at true h = refl
    at false h = sym (no_binding_read (key_of d).name d c h is)

-- what holds of each object that has a document's key and what is read of it holds of each that is read
each_read : (P : Object → Type 0) (d : Data) (o : Object) → ((c : Content) → read_content d ≡ Ok c → P (object_of d c))
    → read_object d ≡ Ok o → P o
each_read P d o holds e = at (is_object d) (read_content d) refl e
  where
    at : (b : Bool) (r : Result Content PolicyFault) → read_content d ≡ r → (if b then with_content d r else Err BadObject) ≡ Ok o → P o
    at true (Ok c) is e = subst P (ap (object_or o) e) (holds c is)
    at true (Err f) is e = absurd (true≢false (sym (ap is_ok e)))
    at false r is e = absurd (true≢false (sym (ap is_ok e)))

-- a policy that is read is one under its key, and no other object is
pub policy_is_read : (d : Data) (o : Object) → read_object d ≡ Ok o → policy_under o.key o ≡ policy_by o.key.name o.content
policy_is_read d o e = each_read (λ p. policy_under p.key p ≡ policy_by p.key.name p.content) d o (policy_of_key d) e

-- the same for a binding
pub binding_is_read : (d : Data) (o : Object) → read_object d ≡ Ok o → binding_under o.key o ≡ binding_by o.key.name o.content
binding_is_read d o e = each_read (λ p. binding_under p.key p ≡ binding_by p.key.name p.content) d o (binding_of_key d) e
