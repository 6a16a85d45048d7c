-- `words::close` meets its contract: moved down, then blanked; nothing is done if nothing is freed. Assumes nothing.
use Prim.Native.Nat.{◌-◌}
use mathlib.Core.Path.{◌≡◌, sym, ◌∙◌}
use native.Mathlib.Omega.{arith}
use Rattle.words.proofs.Over.{closed_none}
use Rattle.words.proofs.Moves.{within_over, lower_blank}
use Rattle.words.proofs.close.Goals as goal

pub returns-else-to-from : goal.returns-else-to-from
returns-else-to-from c =
    let a = c.args in
    let e : a.to ≡ a.from = omega arith in
    rw e (sym (closed_none 0 a.live a.from a.t.now (omega arith) (omega arith)))

pub returns-then-to-from : goal.returns-then-to-from
returns-then-to-from c =
    let a = c.args in
    lower_blank a.live a.from a.to a.t.now c.copy_within.new.self c.blank.new.t (omega arith) (omega arith) (omega arith)
    (c.copy_within.ensures.after ∙ within_over a.from (a.live - a.from) a.live a.to a.t.now (omega arith) (omega arith))
    c.blank.ensures
