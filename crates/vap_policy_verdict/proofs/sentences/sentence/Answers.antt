use Rattle.std.proofs.Common.{◌≡◌, ℕ, List, [], ◌++◌, ap, ◌∙◌, append_assoc}
use Rattle.vap_policy_verdict.proofs.sentences.sentence.Goals as goal

-- texts put behind each other, one by one
in_a_row : (a p q w b d v m n o s t u x y z : List ℕ) → o ≡ [] → s ≡ o ++ a → t ≡ s ++ q → q ≡ p → u ≡ t ++ w → x ≡ u ++ d → d ≡ b
    → y ≡ x ++ v → z ≡ y ++ n → n ≡ m → z ≡ a ++ (p ++ (w ++ (b ++ (v ++ m))))
in_a_row a p q w b d v m n o s t u x y z empty first second policy third fourth binding fifth sixth message =
    sixth
    ∙ ap (λ k. y ++ k) message
    ∙ ap (λ k. k ++ m) fifth ∙ append_assoc x v m
    ∙ ap (λ k. k ++ (v ++ m)) fourth ∙ append_assoc u d (v ++ m) ∙ ap (λ k. u ++ (k ++ (v ++ m))) binding
    ∙ ap (λ k. k ++ (b ++ (v ++ m))) third ∙ append_assoc t w (b ++ (v ++ m))
    ∙ ap (λ k. k ++ (w ++ (b ++ (v ++ m)))) second ∙ append_assoc s q (w ++ (b ++ (v ++ m)))
    ∙ ap (λ k. s ++ (k ++ (w ++ (b ++ (v ++ m))))) policy
    ∙ ap (λ k. k ++ (p ++ (w ++ (b ++ (v ++ m))))) first
    ∙ ap (λ k. (k ++ a) ++ (p ++ (w ++ (b ++ (v ++ m))))) empty

pub returns : goal.returns
returns c =
    c.from_string.ensures
    ∙ in_a_row c.args.before.now c.args.finding.now.policy _ _ c.args.finding.now.binding _ c.args.behind.now
    c.args.finding.now.message _ _ _ _ _ _ _ _ c.in_ok-text.ensures.bytes c.in_ok-push_str.ensures.bytes
    c.in_ok-push_str-2.ensures.bytes c.as_str.ensures c.in_ok-push_str-3.ensures.bytes c.in_ok-push_str-4.ensures.bytes
    c.as_str-2.ensures c.in_ok-push_str-5.ensures.bytes c.in_ok-push_str-6.ensures.bytes c.as_str-3.ensures
