use Prim.Native.Nat.{◌+◌}
use mathlib.Core.Path.{refl}
use Rattle.writers.proofs.Runs.{texts_along}
use Rattle.listings.specs.Texts.{value_text}
use Rattle.listings.proofs.plain.values_behind.Goals as goal

pub returns-clause-text : goal.returns-clause-text
returns-clause-text g c =
    let a = c.args in
    texts_along _ _ (value_text a.lead.now a.values.now) (λ i. i + 1)
    (λ i. record { lead = a.lead; values = a.values; at = i }) (λ i. refl) (λ i. refl) a.from a.n
