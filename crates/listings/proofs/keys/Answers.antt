use Prim.Native.Nat.{◌-◌}
use native.Mathlib.Omega.{arith}
use mathlib.Core.Path.{ap}
use Rattle.meaning.specs.Read.{listed}
use Rattle.listings.specs.Texts.{keys_from}
use Rattle.listings.proofs.Answered.{too_short, written, gives}
use Rattle.listings.proofs.Mapped.{map_most, keys_are}
use Rattle.listings.proofs.keys.Goals as goal

pub returns-then-buf-needed : goal.returns-then-buf-needed
returns-then-buf-needed c =
    let e = c.extent-e.ensures in
    let a = c.args in
    gives (listed (keys_from a.heads.now a.keys.now a.depth a.from c.extent-e.result.rows))
    (λ p u. ap listed (keys_are a.heads.now a.keys.now a.rows a.from a.depth p u _ e.span))
    (too_short _ _ e.sized.size c.if-buf-needed.true)

pub keys_of-requires : goal.keys_of-requires
keys_of-requires c =
    let a = c.args in
    omega (
      arith,
      c.extent-e.ensures.span,
      map_most a.heads.now a.depth a.from (a.rows - a.from),
      c.if-rows-gt-ROWS_ROOM.false,
      c.if-from-rows.false,
    )

pub returns : goal.returns
returns c =
    let e = c.extent-e.ensures in
    let a = c.args in
    gives (listed (keys_from a.heads.now a.keys.now a.depth a.from c.extent-e.result.rows))
    (λ p u. ap listed (keys_are a.heads.now a.keys.now a.rows a.from a.depth p u _ e.span))
    (written _ _ (omega (arith, c.if-buf-needed.false, e.sized.size)) (rw c.keys_of.ensures.text at c.put.ensures))
