-- For the crates above: what holds of answers, as more come.
use Rattle.std.proofs.Common.{◌≡◌, ℕ, List, Bool, Option, None, Some, IfSome, not, refl}
use Rattle.cel_operators.specs.PatternChoice.{refuses}
use Rattle.cel_operators.specs.PatternAnswers.{Asked, answer_in, Grows, Honours}

before : (old new : Option Bool) (r : Bool) → IfSome old (λ b. new ≡ Some b) → IfSome new (λ b. r ≡ not b) → IfSome old (λ b. r ≡ not b)
before None new r grows honours = tt
before (Some b) new r grows honours = rw grows at honours

after : (old mid new : Option Bool) → IfSome old (λ b. mid ≡ Some b) → IfSome mid (λ b. new ≡ Some b) → IfSome old (λ b. new ≡ Some b)
after None mid new first last = tt
after (Some b) mid new first last = rw first at last

known : (o : Option Bool) (built r : Bool) → o ≡ Some built → IfSome o (λ b. r ≡ not b) → r ≡ not built
known o built r e honours = rw e at honours

kept : (o : Option Bool) → IfSome o (λ b. o ≡ Some b)
kept None = tt
kept (Some b) = refl

-- a choice that honours later answers honours earlier ones
pub honours_before : (old new : Asked) → Grows old new → (choice : List (List ℕ)) → Honours new choice → Honours old choice
honours_before old new grows choice honours = λ text.
    before (answer_in old text) (answer_in new text) (refuses choice text) (grows text) (honours text)

pub grows_twice : (old mid new : Asked) → Grows old mid → Grows mid new → Grows old new
grows_twice old mid new first last = λ text. after (answer_in old text) (answer_in mid text) (answer_in new text) (first text) (last text)

pub grows_same : (p : Asked) → Grows p p
grows_same p = λ text. kept (answer_in p text)

-- at a text that was answered, such a choice says the same
pub at_answer : (p : Asked) (text : List ℕ) (built : Bool) (choice : List (List ℕ)) → answer_in p text ≡ Some built → Honours p choice
    → refuses choice text ≡ not built
at_answer p text built choice e honours = known (answer_in p text) built (refuses choice text) e (honours text)
