use Prim.Native.Nat.{◌+◌}
use mathlib.Core.Path.{refl}
use Rattle.writers.proofs.Runs.{texts_along}
use Rattle.listings.specs.Texts.{key_text}
use Rattle.listings.proofs.map.keys_of.Goals as goal

pub returns-clause-text : goal.returns-clause-text
returns-clause-text c =
    let a = c.args in
    texts_along _ _ (key_text a.heads.now a.keys.now a.depth) (λ i. i + 1)
    (λ i. record { heads = a.heads; keys = a.keys; depth = a.depth; at = i }) (λ i. refl) (λ i. refl) a.from a.n
