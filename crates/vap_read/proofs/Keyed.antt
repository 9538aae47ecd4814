-- An object that has a key, and a failure to read its content.
use Rattle.std.proofs.Common.{◌≡◌, Bool, true, false, Result, Ok, Err, refl, ap, sym, subst, ◌∙◌, true≢false, is_ok}
use Rattle.std.specs.Prelude.{if◌then◌else◌}
use Rattle.serde_json.specs.Data.{Data}
use Rattle.base_containers.specs.Failures.{Answers, Widens}
use Rattle.base_containers.specs.declared.failed.Failed.{Failed}
use Rattle.base_containers.specs.declared.failed.Failed.TheVariants.{Fault, OutOfMemory}
use Rattle.vap_read.specs.declared.policy_fault.PolicyFault.{PolicyFault}
use Rattle.vap_read.specs.Objects.{is_object, key_of}
use Rattle.vap_read.specs.Reading.{read_content, with_content, read_object, read_key}
use Rattle.vap_read.specs.declared.key.Key.{Key}
use Rattle.vap_read.specs.declared.object.Content.{Content}
use Rattle.vap_read.specs.declared.object.Object.{Object}
use Rattle.vap_read.specs.declared.event_fault.EventFault.{EventFault}
use Rattle.vap_read.specs.declared.event_fault.EventFault.TheVariants.{BadObject, OfPolicy}

abbrev key_or : Key → Result Key EventFault → Key
key_or k (Ok l) = l
key_or k (Err f) = k

-- a key is read only from an object, and it is the object's
pub key_read : (d : Data) (k : Key) → read_key d ≡ Ok k → (is_object d ≡ true) × (k ≡ key_of d)
key_read d k e = at (is_object d) refl e
  where
    at : (b : Bool) → is_object d ≡ b → (if b then Ok (key_of d) else Err BadObject) ≡ Ok k
        → (is_object d ≡ true) × (k ≡ key_of d)
    at true is read = (is, sym (ap (key_or k) read))
    at false is read = absurd (true≢false (sym (ap is_ok read)))

-- what has a key is read as an object with its content
pub object_read : (d : Data) (r : Result Object (Failed EventFault)) → is_object d ≡ true → Answers (with_content d (read_content d)) r
    → Answers (read_object d) r
object_read d r is h = subst (λ b. Answers (if b then with_content d (read_content d) else Err BadObject) r) (sym is) h

-- the reason why a content is not read is the reason why the object is not
pub content_fails : (d : Data) (want : Result Content PolicyFault) (error : Failed PolicyFault) (told : Failed EventFault)
    → Widens (λ fault told. told ≡ OfPolicy fault) error told → Answers {A = Content} want (Err error)
    → Answers {A = Object} (with_content d want) (Err told)
content_fails d want OutOfMemory OutOfMemory widens answers = tt
content_fails d want OutOfMemory (Fault told) widens answers = absurd widens
content_fails d want (Fault fault) OutOfMemory widens answers = absurd widens
content_fails d want (Fault fault) (Fault told) widens answers = ap (with_content d) answers ∙ ap Err (sym widens)
