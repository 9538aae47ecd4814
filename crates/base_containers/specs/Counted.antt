-- What is said of a reader or writer that counts its failures.
use Rattle.std.specs.Prelude.{ℕ, zero, suc, ◌+◌, ◌-◌, ◌^◌, min, Result, Ok, Err}
use Rattle.base_containers.specs.declared.counted.Counted.{Counted}

-- the reader or writer that is counted
abbrev pub inner_of : {T : Type 0} → Counted T → T
inner_of c = c.inner

-- how many reads, writes and flushes failed
abbrev pub failures_of : {T : Type 0} → Counted T → ℕ
failures_of c = c.failures

-- how many have failed after one more; the count stops at its greatest number
abbrev pub one_more : ℕ → ℕ
one_more n = min (n + 1) (2 ^ 64 - 1)

-- how many have failed after a write of so many bytes, which has failed too if there were some and it took none
abbrev pub failures_after_write : {E : Type 0} → ℕ → ℕ → Result ℕ E → ℕ
failures_after_write old zero (Ok taken) = old
failures_after_write old (suc length) (Ok zero) = one_more old
failures_after_write old (suc length) (Ok (suc taken)) = old
failures_after_write old length (Err e) = one_more old

-- how many have failed after a read or a flush
abbrev pub failures_after : {A E : Type 0} → ℕ → Result A E → ℕ
failures_after old (Ok done) = old
failures_after old (Err e) = one_more old
