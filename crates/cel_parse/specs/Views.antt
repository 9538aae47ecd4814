-- What the code's values stand for.
use Rattle.std.specs.Prelude.{ℕ, List, Option, option_map, Result}
use Rattle.std.specs.Borrow.{Bor}
use Rattle.cel_lex.specs.declared.token.Token.{Token}
use Rattle.cel_parse.specs.declared.fault.ParseFault.{ParseFault}
use Rattle.base_containers.specs.declared.failed.Failed.{Failed}
pub use Rattle.base_containers.specs.Failures.{Fails, Gives}
use Rattle.cel_parse.specs.declared.heads.Step.{Step}
use Rattle.cel_parse.specs.declared.heads.Step.TheVariants as step
use Rattle.cel_parse.specs.declared.nodes.Taken.{Taken}
use Rattle.cel_parse.specs.Descent.{◌>>=◌, Found, Move, stop, go_on}

-- whatever reading gives what was passed, what a function returned is what a step makes of it
abbrev pub Carries : {X Y Z W : Type 0} → (X → Y) → (Z → W) → Result X (Failed ParseFault) → Result Z (Failed ParseFault)
    → (Y → Result W ParseFault) → Type 0
Carries view view' passed result step = (read : Result _ ParseFault) → Gives view passed read → Gives view' result (read >>= step)

-- a value as it is
abbrev pub same : {X : Type 0} → X → X
same x = x

-- what was taken from the tokens
abbrev pub seen : {A : Type 0} → Taken A → Found A
seen t = record { what = t.what; deep = t.depth; rest = t.rest.now }

-- what comes first, and the tokens after it
abbrev pub seen_head : Option (ℕ × Bor (List Token)) → Option (ℕ × List Token)
seen_head o = option_map (λ x. (x.0, x.1.now)) o

-- what is between two operands or goes on a member, its place, and the tokens after it
abbrev pub seen_operator : {A : Type 0} → Option (A × ℕ × Bor (List Token)) → Option (A × ℕ × List Token)
seen_operator o = option_map (λ x. (x.0, x.1, x.2.now)) o

-- what follows an item
abbrev pub seen_step : Step → Move
seen_step (step.End ts) = stop ts.now
seen_step (step.More ts) = go_on ts.now
