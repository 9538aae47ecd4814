-- The fault that is reported is the least, and for a List that of the first item that has one.
use Rattle.std.proofs.Common.{◌≡◌, ◌<◌, ◌+◌, ◌⊎◌, inl, inr, ℕ, Bool, true, false, not, List, [], Option, Some, None}
use Rattle.std.proofs.Common.{Result, Ok, Err, refl, ap, sym, ◌∙◌, subst, true≢false, rules, arith}
use Rattle.std.specs.Prelude.{is_ok, codes, IfErr, if◌then◌else◌}
use Rattle.serde_json.specs.Data as json
use Rattle.serde_json.specs.Data.{Data, Items}
use Rattle.base_containers.specs.Failures.{Answers, IfFault, made}
use Rattle.base_containers.specs.declared.failed.Failed.{Failed}
use Rattle.base_containers.specs.declared.failed.Failed.TheVariants.{Fault, OutOfMemory}
use Rattle.vap_match.specs.ReaderAnswers.{unless}
use Rattle.vap_read.specs.PolicyFaults as policies
use Rattle.vap_read.specs.PolicyForm as policy
use Rattle.vap_read.specs.PolicyReading.{read_policy}
use Rattle.vap_read.specs.declared.policy_fault.PolicyFault.{PolicyFault}
use Rattle.vap_read.proofs.LeastPolicyFault.{least_found}
use Rattle.vap_read.specs.BindingForm as binding
use Rattle.vap_read.specs.BindingReading.{read_binding}
use Rattle.vap_read.specs.EventFaults.{number_of, has_fault, watch_fault, IsLeast}
use Rattle.vap_read.specs.Lines.{line_kind, action_in}
use Rattle.vap_read.specs.Objects.{is_object, is_policy, is_binding, key_of, member_in}
use Rattle.vap_read.specs.Reading.{before, put_all, read_content, with_content, read_object, read_key, read_items, read_all}
use Rattle.vap_read.specs.Reading.{read_watched, read_list, read_line, read_event}
use Rattle.vap_read.specs.Told.{IsFirst, IsOfList, IsOfLine, IsFaultOf}
use Rattle.vap_read.specs.declared.line.LineKind.{LineKind}
use Rattle.vap_read.specs.declared.line.LineKind.TheVariants as line
use Rattle.vap_read.specs.declared.line.Action.{Action}
use Rattle.vap_read.specs.declared.line.Action.TheVariants as action
use Rattle.vap_read.specs.declared.object.Content.{Content}
use Rattle.vap_read.specs.declared.object.Content.TheVariants as content
use Rattle.vap_read.specs.declared.object.Object.{Object}
use Rattle.vap_read.specs.declared.event.Event.{Event}
use Rattle.vap_read.specs.declared.event.Event.TheVariants.{Put, Removed, Replaced}
use Rattle.vap_read.specs.declared.event_fault.EventFault.{EventFault}
use Rattle.vap_read.specs.declared.event_fault.EventFault.TheVariants.{BadType, BadObject, OfPolicy}

abbrev fault_or : {A : Type 0} → EventFault → Result A EventFault → EventFault
fault_or f (Ok a) = f
fault_or f (Err g) = g

abbrev policy_fault_or : {A : Type 0} → PolicyFault → Result A PolicyFault → PolicyFault
policy_fault_or f (Ok a) = f
policy_fault_or f (Err g) = g

-- what is made has the fault of what it is made of
made_err : {A B : Type 0} (g : A → B) (r : Result A EventFault) (f : EventFault) → made g r ≡ Err f → r ≡ Err f
made_err g (Ok a) f e = absurd (true≢false (ap is_ok e))
made_err g (Err h) f e = ap (λ x. Err x) (ap (fault_or f) e)

made_policy_err : {A B : Type 0} (g : A → B) (r : Result A PolicyFault) (f : PolicyFault) → made g r ≡ Err f → r ≡ Err f
made_policy_err g (Ok a) f e = absurd (true≢false (ap is_ok e))
made_policy_err g (Err h) f e = ap (λ x. Err x) (ap (policy_fault_or f) e)

unless_err : {A : Type 0} (a : A) (o : Option PolicyFault) (f : PolicyFault) → unless a o ≡ Err f → o ≡ Some f
unless_err a None f e = absurd (true≢false (ap is_ok e))
unless_err a (Some g) f e = ap (λ x. Some x) (ap (policy_fault_or f) e)

-- which faults of a policy or a binding an object has
abbrev content_has : Data → PolicyFault → Bool
content_has d p = has_fault d (OfPolicy p)

carried : (has other : PolicyFault → Bool) (p : PolicyFault) → ((q : PolicyFault) → has q ≡ other q)
    → policies.IsLeast other p → policies.IsLeast has p
carried has other p same least = (same p ∙ least.0, (λ q lt. same q ∙ least.1 q lt))

-- what an object that is no policy is read as
abbrev read_behind : Data → Result Content PolicyFault
read_behind d = if is_binding d then made content.Binding (read_binding d) else Ok content.Other

-- ---- a policy

policy_has : (d : Data) → is_policy d ≡ true → (q : PolicyFault) → content_has d q ≡ policy.has_fault d q
policy_has d is q =
    ap (λ b. if b then policy.has_fault d q else (if is_binding d then binding.has_fault d q else false)) is

policy_read : (d : Data) → is_policy d ≡ true → read_content d ≡ made content.Policy (read_policy d)
policy_read d is =
    ap (λ b. if b then made content.Policy (read_policy d) else read_behind d) is

policy_least : (d : Data) (p : PolicyFault) → read_policy d ≡ Err p → policies.IsLeast (policy.has_fault d) p
policy_least d p e = least_found (policy.has_fault d) p (unless_err _ _ p e)

-- ---- a binding

behind_policies : (d : Data) → is_policy d ≡ false → read_content d ≡ read_behind d
behind_policies d is =
    ap (λ b. if b then made content.Policy (read_policy d) else read_behind d) is

binding_has : (d : Data) → is_policy d ≡ false → is_binding d ≡ true → (q : PolicyFault)
    → content_has d q ≡ binding.has_fault d q
binding_has d is is_b q =
    ap (λ b. if b then policy.has_fault d q else (if is_binding d then binding.has_fault d q else false)) is
    ∙ ap (λ b. if b then binding.has_fault d q else false) is_b

binding_read : (d : Data) → is_policy d ≡ false → is_binding d ≡ true → read_content d ≡ made content.Binding (read_binding d)
binding_read d is is_b =
    behind_policies d is ∙ ap (λ b. if b then made content.Binding (read_binding d) else Ok content.Other) is_b

binding_least : (d : Data) (p : PolicyFault) → read_binding d ≡ Err p → policies.IsLeast (binding.has_fault d) p
binding_least d p e = least_found (binding.has_fault d) p (unless_err _ _ p e)

-- ---- any object

other_read : (d : Data) → is_policy d ≡ false → is_binding d ≡ false → read_content d ≡ Ok content.Other
other_read d is is_b =
    behind_policies d is ∙ ap (λ b. if b then made content.Binding (read_binding d) else Ok content.Other) is_b

none_is_told : (c : Content) (p : PolicyFault) → Ok c ≡ Err p → ⊥
none_is_told c p e = true≢false (ap is_ok e)

content_least : (d : Data) (p : PolicyFault) → read_content d ≡ Err p → policies.IsLeast (content_has d) p
content_least d p e = at (is_policy d) refl (is_binding d) refl
  where
    at : (b : Bool) → is_policy d ≡ b → (c : Bool) → is_binding d ≡ c → policies.IsLeast (content_has d) p
    at true is c _ =
        carried (content_has d) (policy.has_fault d) p (policy_has d is)
        (policy_least d p (made_policy_err content.Policy (read_policy d) p (sym (policy_read d is) ∙ e)))
    at false is true is_b =
        carried (content_has d) (binding.has_fault d) p (binding_has d is is_b)
        (binding_least d p (made_policy_err content.Binding (read_binding d) p (sym (binding_read d is is_b) ∙ e)))
    at false is false is_b = absurd (none_is_told content.Other p (sym (other_read d is is_b) ∙ e))

no_less_than_object : (d : Data) → is_object d ≡ false → (g : EventFault) → number_of g < 2 → has_fault d g ≡ false
no_less_than_object d is BadType lt = refl
no_less_than_object d is BadObject lt = absurd (omega (arith, lt))
no_less_than_object d is (OfPolicy p) lt = absurd (omega (arith, lt))

no_less_than_policy : (d : Data) → is_object d ≡ true → (p : PolicyFault) → policies.IsLeast (content_has d) p
    → (g : EventFault) → number_of g < 2 + policies.number_of p → has_fault d g ≡ false
no_less_than_policy d is p least BadType lt = refl
no_less_than_policy d is p least BadObject lt = ap not is
no_less_than_policy d is p least (OfPolicy q) lt = least.1 q (omega (arith, lt))

-- the fault of an object is its least
pub object_least : (d : Data) (f : EventFault) → read_object d ≡ Err f → IsLeast (has_fault d) f
object_least d f e = at (is_object d) refl e
  where
    by_content : (r : Result Content PolicyFault) → read_content d ≡ r → is_object d ≡ true → with_content d r ≡ Err f
        → IsLeast (has_fault d) f
    by_content (Ok c) read is told = absurd (true≢false (ap is_ok told))
    by_content (Err p) read is told =
        let least = content_least d p read in
        subst (λ g. IsLeast (has_fault d) g) (ap (fault_or f) told) (least.0, no_less_than_policy d is p least)

    at : (b : Bool) → is_object d ≡ b → (if b then with_content d (read_content d) else Err BadObject) ≡ Err f
        → IsLeast (has_fault d) f
    at false is told = subst (λ g. IsLeast (has_fault d) g) (ap (fault_or f) told) (ap not is, no_less_than_object d is)
    at true is told = by_content (read_content d) refl is told

-- the fault of a removal: there is no key
removal_least : (d : Data) (f : EventFault) → read_key d ≡ Err f → IsLeast (watch_fault (Some action.Remove) d) f
removal_least d f e = at (is_object d) refl e
  where
    below : (g : EventFault) → number_of g < 2 → watch_fault (Some action.Remove) d g ≡ false
    below BadType lt = refl
    below BadObject lt = absurd (omega (arith, lt))
    below (OfPolicy p) lt = refl

    at : (b : Bool) → is_object d ≡ b → (if b then Ok (key_of d) else Err BadObject) ≡ Err f
        → IsLeast (watch_fault (Some action.Remove) d) f
    at false is told = subst (λ g. IsLeast (watch_fault (Some action.Remove) d) g) (ap (fault_or f) told) (ap not is, below)
    at true is told = absurd (true≢false (ap is_ok told))

no_word_below : (d : Data) (g : EventFault) → number_of g < 1 → watch_fault None d g ≡ false
no_word_below d BadType lt = absurd (omega (arith, lt))
no_word_below d BadObject lt = refl
no_word_below d (OfPolicy p) lt = refl

watched_least : (a : Option Action) (d : Data) (f : EventFault) → read_watched a d ≡ Err f → IsLeast (watch_fault a d) f
watched_least (Some action.Put) d f e = object_least d f (made_err Put (read_object d) f e)
watched_least (Some action.Remove) d f e = removal_least d f (made_err Removed (read_key d) f e)
watched_least (Some action.Pass) d f e = absurd (true≢false (ap is_ok e))
watched_least None d f e = subst (λ g. IsLeast (watch_fault None d) g) (ap (fault_or f) e) (refl, no_word_below d)

-- the fault of items is the least of the first that has one
items_first : (ds : Items) (f : EventFault) → read_items ds ≡ Err f → IsFirst ds f
items_first json.no_items f e = absurd (true≢false (ap is_ok e))
items_first (json.item d ds) f e = at (read_object d) refl (read_items ds) refl e (λ are. items_first ds f are)
  where
    at : (r : Result Object EventFault) → read_object d ≡ r → (rs : Result (List Object) EventFault) → read_items ds ≡ rs
        → before r rs ≡ Err f → (read_items ds ≡ Err f → IsFirst ds f) → IsFirst (json.item d ds) f
    at (Ok o) is (Ok os) are told behind = absurd (true≢false (ap is_ok told))
    at (Ok o) is (Err g) are told behind = inr (ap is_ok is, behind (are ∙ ap (λ x. Err x) (ap (fault_or f) told)))
    at (Err g) is rs are told behind = inl (object_least d f (is ∙ ap (λ x. Err x) (ap (fault_or f) told)))

list_first : (d : Data) (f : EventFault) → read_list d ≡ Err f → IsOfList d f
list_first (json.array ds) f e =
    items_first ds f (made_err (put_all []) (read_items ds) f (made_err Replaced (read_all ds) f e))
list_first json.null f e = sym (ap (fault_or f) e)
list_first (json.boolean b) f e = sym (ap (fault_or f) e)
list_first (json.number n) f e = sym (ap (fault_or f) e)
list_first (json.string s) f e = sym (ap (fault_or f) e)
list_first (json.object ms) f e = sym (ap (fault_or f) e)

line_least : (k : LineKind) (d : Data) (f : EventFault) → read_line k d ≡ Err f → IsOfLine k d f
line_least line.WatchEvent d f e = watched_least (action_in d) (member_in (codes "object") d) f e
line_least line.ObjectList d f e = list_first (member_in (codes "items") d) f e
line_least line.Review d f e = sym (ap (fault_or f) e)
line_least line.Unknown d f e = sym (ap (fault_or f) e)

-- what answers a line of this kind reports the fault of the line
pub told_of_kind : (k : LineKind) (d : Data) (r : Result Event (Failed EventFault)) → Answers (read_line k d) r
    → IfErr r (IfFault (IsOfLine k d))
told_of_kind k d (Ok e) answers = tt
told_of_kind k d (Err (Fault f)) answers = line_least k d f answers
told_of_kind k d (Err OutOfMemory) answers = tt

-- what answers a line reports its fault
pub told_of : (d : Data) (r : Result Event (Failed EventFault)) → Answers (read_event d) r → IfErr r (IfFault (IsFaultOf d))
told_of d (Ok e) answers = tt
told_of d (Err (Fault f)) answers = line_least (line_kind d) d f answers
told_of d (Err OutOfMemory) answers = tt
