-- What a call answers that fails by memory or by a fault.
use Rattle.std.specs.Prelude.{◌≡◌, Result, Ok, Err}
use Rattle.base_containers.specs.declared.failed.Failed.{Failed}
use Rattle.base_containers.specs.declared.failed.Failed.TheVariants.{OutOfMemory, Fault}

-- the answer is this one or this fault, or memory ran out
abbrev pub Answers : {A F : Type 0} → Result A F → Result A (Failed F) → Type 0
Answers want (Ok a) = want ≡ Ok a
Answers want (Err (Fault f)) = want ≡ Err f
Answers want (Err OutOfMemory) = Unit {0}

-- the failure is this fault, unless memory ran out
abbrev pub Fails : {B F : Type 0} → Failed F → Result B F → Type 0
Fails (Fault f) want = want ≡ Err f
Fails OutOfMemory want = Unit {0}

-- the answer, seen by view, is this one or this fault, or memory ran out
abbrev pub Gives : {A B F : Type 0} → (A → B) → Result A (Failed F) → Result B F → Type 0
Gives view (Ok a) want = want ≡ Ok (view a)
Gives view (Err e) want = Fails e want

-- this holds of the fault, unless memory ran out
abbrev pub IfFault : {F : Type 0} → (F → Type 0) → Failed F → Type 0
IfFault P (Fault f) = P f
IfFault P OutOfMemory = Unit {0}

-- out of memory stays what it is, and a fault becomes another
abbrev pub Widens : {F G : Type 0} → (F → G → Type 0) → Failed F → Failed G → Type 0
Widens Becomes OutOfMemory OutOfMemory = Unit {0}
Widens Becomes (Fault f) (Fault g) = Becomes f g
Widens Becomes OutOfMemory (Fault g) = ⊥
Widens Becomes (Fault f) OutOfMemory = ⊥

-- what is made of an answer, a fault as it is
abbrev pub made : {A B E : Type 0} → (A → B) → Result A E → Result B E
made f (Ok a) = Ok (f a)
made f (Err e) = Err e
