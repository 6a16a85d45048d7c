-- A buffer: a chunk read behind the held bytes, and these moved to its start, byte by byte.
-- Assumes nothing.
use Prim.Native.Nat.{ℕ, ◌+◌, ◌-◌, ◌≤◌}
use native.Mathlib.Omega.{arith}
use mathlib.Core.Path.{◌≡◌, sym, ap, ◌∙◌}
use mathlib.Core.List.{List, ◌++◌}
use lib.ListN.{length, take, drop}
use lib.Seq.{take-add, drop-drop}
use Rattle.stream.specs.Pieces.{held, CutInside}
use Rattle.stream.specs.declared.Cut.{Cut}
use Rattle.stream.proofs.Pieces.{drop-take}

-- A chunk of n bytes was read behind the held ones, into the buffer s'.
module _ (s s' : List ℕ) (c : Cut) (n : ℕ) (h : CutInside s c) (kept : take c.to s' ≡ take c.to s) (fits : c.to + n ≤ length s') where
  abbrev pub grown : Cut
  grown = record { from = c.from; to = c.to + n; passing = c.passing }

  pub grown_holds : CutInside s' grown
  grown_holds = record { low = omega (arith, h.low); high = fits; begun = λ p. omega (arith, h.begun p) }

  pub grown_held : held s' grown ≡ held s c ++ take n (drop c.to s')
  grown_held =
      let e : c.to + n - c.from ≡ c.to - c.from + n = omega (arith, h.low) in
      let f : c.from + (c.to - c.from) ≡ c.to = omega (arith, h.low) in
      ap (λ m. take m (drop c.from s')) e
      ∙ (take-add (c.to - c.from) n (drop c.from s')
      ∙ (ap (λ l. l ++ take n (drop (c.to - c.from) (drop c.from s')))
      (sym (drop-take c.from c.to s') ∙ (ap (drop c.from) kept ∙ drop-take c.from c.to s))
      ∙ ap (λ l. held s c ++ take n l) (drop-drop (c.to - c.from) c.from s' ∙ ap (λ m. drop m s') f)))
