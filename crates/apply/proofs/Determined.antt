-- Any two outcomes that meet the promise of `apply` are equal: answer, counts, counters and every word of the tables.
-- Assumes nothing.
use mathlib.Core.Path.{◌≡◌, refl, sym, ap, ◌∙◌}
use mathlib.Core.Bool.{Bool, true, false}
use Rattle.meaning.specs.Places.{Document}
use Rattle.meaning.specs.Valid.{ValidOperation}
use Rattle.meaning.specs.Ways as M
use Rattle.message.specs.Means.{Means}
use Rattle.message.specs.declared.Operation.{Operation}
use Rattle.keeping.specs.Storing.{StoresIn}
use Rattle.keeping.specs.Once.{stores_once}
use Rattle.keeping.specs.declared.Document as K
use Rattle.judging.specs.Judging.{Judgement, is_taken}
use Rattle.apply.specs.Applying.{Applies}

pub applied_once : (d : K.Document) (op : Operation) (a b : Judgement) (e f : K.Document) → Applies d op a e → Applies d op b f
    → (D : Document) (o : M.Operation) → StoresIn d D → Means op o → ValidOperation o → (a ≡ b) × (e ≡ f)
applied_once d op a b e f A B D o S m v = (same, go (is_taken a) refl)
  where
    same : a ≡ b
    same = A.answers D o S m v ∙ sym (B.answers D o S m v)

    go : (t : Bool) → is_taken a ≡ t → e ≡ f
    go true t = stores_once (A.takes D o S m v t) (B.takes D o S m v (ap is_taken (sym same) ∙ t))
    go false t = A.refuses t ∙ sym (B.refuses (ap is_taken (sym same) ∙ t))
