-- `readers::take_text` meets its contract.
-- Assumes nothing.
use mathlib.Core.Path.{◌≡◌, sym, ◌∙◌, subst}
use mathlib.Core.Bool.{true≢false}
use lib.ListN.{length, drop}
use mathlib.Core.List.{◌++◌}
use Rattle.std.proofs.lemmas.Bool.Decides.{Decides-eqb}
use Rattle.std.proofs.lemmas.Slice.Eq.{starts_is}
use Rattle.decimal.proofs.Layouts.{lacks}
use Rattle.readers.proofs.Texts.{text_at}
use Rattle.readers.proofs.take_text.Goals as goal

pub returns-then-starts_with : goal.returns-then-starts_with
returns-then-starts_with c =
    let h = (starts_is Decides-eqb _ _ _ c.starts_with.ensures.value).0 c.if-starts_with.true in
    text_at _ _ _ (subst (λ r. r ≡ c.args.text.now ++ drop (length c.args.text.now) r) c.rest.ensures h)

pub returns-else-starts_with : goal.returns-else-starts_with
returns-else-starts_with c =
    lacks _ _ _ (λ t e. true≢false (sym ((starts_is Decides-eqb _ _ _ c.starts_with.ensures.value).1 t (c.rest.ensures ∙ e)) ∙ c.if-starts_with.false))
