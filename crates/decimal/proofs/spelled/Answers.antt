-- `decimal::spelled` meets its contract: by the table's rule, a number has n digits if it is between two powers.
-- Assumes nothing.
use Prim.Native.Nat.{◌-◌}
use native.Mathlib.Omega.{arith}
use mathlib.Core.Path.{refl}
use Rattle.decimal.proofs.Table.{power, width_is, width_low, width_some, width_most}
use Rattle.decimal.proofs.spelled.Goals as goal

pub returns-then-n-eq1 : goal.returns-then-n-eq1
returns-then-n-eq1 c = (refl, refl, width_is _ _ (omega arith) c.requires (λ h. absurd (omega arith)))

pub returns-then-n-eq0 : goal.returns-then-n-eq0
returns-then-n-eq0 c = elim c.then-n-eq0.branch [
  | goal.then-n-eq0-via-then-n-eq0 w ↦ λ e. omega (arith, width_some c.args.v)
  | goal.then-n-eq0-via-else-n-eq0+then-n-gt20 w ↦ λ e. omega (arith, width_most c.args.v (omega arith))
  | goal.then-n-eq0-via-else-n-eq0+else-n-gt20+then-v-powers w ↦
      λ e. omega (arith, width_low c.args.n c.args.v e (omega arith), power _ (c.args.n - 1) w.powers.ensures (omega arith))
]

pub returns : goal.returns
returns c = (
  refl,
  refl,
  width_is _ _ (omega arith) c.requires (λ h. omega (arith, power _ (c.args.n - 1) c.powers.ensures (omega arith))),
)
