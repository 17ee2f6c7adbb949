-- `puts::copy_bits`: the loop has put the first `done` bits of the run. Assumes nothing.
use Rattle.std.proofs.Common.{◌≡◌, ◌≤◌}
use Rattle.bits.specs.Bits.{unpack, true_bits, cut, put}
use Rattle.puts.proofs.copy_bits.Given as goal

abbrev pub invariant-loop-done : goal.invariant-loop-done
invariant-loop-done l =
    (l.done ≤ l.n)
    × (unpack l.dst ≡ put l.to (cut 0 l.done (cut l.from l.n (true_bits l.src.phase l.src.bytes.now))) (unpack l.initial.dst))
