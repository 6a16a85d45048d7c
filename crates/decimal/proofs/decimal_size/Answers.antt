use Prim.Native.Nat.{◌-◌, ◌^◌, ◌≤◌, ◌<◌}
use native.Mathlib.Omega.{arith}
use mathlib.Core.Path.{◌≡◌, subst}
use Rattle.decimal.proofs.Table.{power, size_is, passed}
use Rattle.decimal.proofs.decimal_size.Goals as goal

pub returns-then-v-powers : goal.returns-then-v-powers
returns-then-v-powers c =
    let p = power _ c.loop-n.n c.powers-powers.ensures (omega arith) in
    (size_is _ _ (omega arith) (omega arith) c.loop-n.invariant, omega arith, omega arith)

pub loop-n-preserved : goal.loop-n-preserved
loop-n-preserved c =
    let p = power _ c.loop-n.n c.powers-powers.ensures (omega arith) in
    passed _ _ (omega arith)

pub returns : goal.returns
returns c =
    let e : c.loop-n.n ≡ 20 = omega arith in
    (size_is _ _ (omega arith) (omega arith) (subst (λ n. 1 < n → 10 ^ (n - 1) ≤ c.args.v) e c.loop-n.invariant), omega arith, omega arith)
