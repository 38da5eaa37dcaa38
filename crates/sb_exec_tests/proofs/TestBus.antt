-- The memory of the tests: a byte that can be written can be read.
use Rattle.std.proofs.Common.{◌≡◌, ℕ, Bool, true, false, Result, Ok, Err, refl}
use Rattle.std.proofs.Math.Path.{fun_ext}
use Rattle.std.specs.Prelude.{if◌then◌else◌}
use Rattle.sb_memory.specs.declared.address.Access.TheVariants.{Write}
use Rattle.sb_memory.specs.Outcome.{and_then}
use Rattle.sb_bus.specs.declared.stop.BusStop.{BusStop}
use Rattle.sb_bus.specs.Access.{loaded_from, byte_for, byte_for_write}
use Rattle.sb_exec_tests.specs.TestBus.{TestMemory, test_byte, data_byte, refused_at}

twice : (answer : Result ℕ BusStop) → and_then answer (λ _. answer) ≡ answer
twice (Ok byte) = refl
twice (Err stop) = refl

both_rights : (writable : Bool) (address : ℕ) (answer : Result ℕ BusStop)
    → and_then (if writable then answer else Err (refused_at address)) (λ _. answer)
    ≡ (if writable then answer else Err (refused_at address))
both_rights true address answer = twice answer
both_rights false address answer = refl

one_byte : (memory : TestMemory) (address : ℕ)
    → byte_for_write (test_byte memory) address ≡ byte_for (test_byte memory) Write address
unfolding test_byte
one_byte memory address = both_rights memory.writable address (data_byte memory.bytes address)

pub loaded_to_write : (memory : TestMemory) (address size : ℕ)
    → loaded_from (byte_for_write (test_byte memory)) address size ≡ loaded_from (byte_for (test_byte memory) Write) address size
loaded_to_write memory address size =
    let same : byte_for_write (test_byte memory) ≡ byte_for (test_byte memory) Write = fun_ext (one_byte memory) in
    rw same refl
