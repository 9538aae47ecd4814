-- Texts and kinds by their names.
use Rattle.std.proofs.Common.{◌≡◌, ℕ, true, List, refl, ap, ◌∙◌}
use Rattle.std.specs.Str.{bytes_eq}
use Rattle.std.proofs.lemmas.Slice.Eq.{bytes_eq-Decides}
use Rattle.vap_read_objects.specs.Kinds.{kind_named}
use Rattle.vap_read_objects.specs.declared.kind.Kind.{Kind}

-- of texts that are the same
pub same_text : (s t : List ℕ) → bytes_eq s t ≡ true → s ≡ t
same_text s t h = (bytes_eq-Decides s t).0 h

pub itself : (t : List ℕ) → bytes_eq t t ≡ true
itself t = (bytes_eq-Decides t t).1 refl

-- kinds are found by names that are the same
pub names_alike : (g h v w n m : List ℕ) (ks : List Kind) → g ≡ h → v ≡ w → n ≡ m → kind_named g v n ks ≡ kind_named h w m ks
names_alike g h v w n m ks one two three =
    ap (λ x. kind_named x v n ks) one ∙ ap (λ x. kind_named h x n ks) two ∙ ap (λ x. kind_named h w x ks) three
