use Prim.Native.Nat.{◌*◌}
use native.Mathlib.Omega.{arith}
use lib.ListN.{length-set}
use Rattle.writers.proofs.Bytes.{hexing_none, hexing_more, size_hex}
use Rattle.writers.proofs.hex.put_bytes.Goals as goal

pub loop-i-init : goal.loop-i-init
loop-i-init c = hexing_none _ _ _

pub bounds-buf-i : goal.bounds-buf-i
bounds-buf-i c = omega (arith, size_hex c.args.words.now c.args.n, c.loop-i.invariant.long)

pub bounds-buf-i-in-loop-i : goal.bounds-buf-i-in-loop-i
bounds-buf-i-in-loop-i c =
    omega (
      arith,
      size_hex c.args.words.now c.args.n,
      length-set c.loop-i.buf (2 * c.loop-i.i) c.hex_digit.result,
      c.loop-i.invariant.long,
    )

pub loop-i-preserved : goal.loop-i-preserved
loop-i-preserved c =
    hexing_more c.loop-i.invariant c.requires.1 c.loop-i-test.true c.byte_of-b.ensures c.hex_digit.ensures c.hex_digit-in-loop-i.ensures
