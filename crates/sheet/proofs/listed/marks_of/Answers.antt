use Prim.Native.Nat.{◌+◌}
use mathlib.Core.Path.{refl}
use Rattle.writers.proofs.Runs.{texts_along}
use Rattle.sheet.specs.Texts.{mark_text}
use Rattle.sheet.proofs.listed.marks_of.Goals as goal

pub returns-clause-text : goal.returns-clause-text
returns-clause-text c =
    let a = c.args in
    texts_along _ _ (mark_text a.marks.now) (λ i. i + 1) (λ i. record { marks = a.marks; at = i }) (λ i. refl) (λ i. refl) a.from a.n
