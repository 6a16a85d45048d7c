-- Any two results of a read are equal, of every memory that holds a document, and of counts that have no room in the tables.
-- Assumes nothing.
use Prim.Native.Nat.{ℕ}
use mathlib.Core.Path.{◌≡◌, sym, subst, ◌∙◌}
use mathlib.Core.Bool.{false}
use mathlib.Core.List.{List}
use Rattle.meaning.specs.Places.{Document}
use Rattle.meaning.specs.Read.{Finding}
use Rattle.meaning.specs.Answers.{Refusal, Reading, reading_answer}
use Rattle.theorems.specs.Determined as T
use Rattle.tables.specs.Holding.{within_tables}
use Rattle.tables.specs.declared.Counts.{Counts}
use Rattle.reads.specs.Asks.{HoldsKeys, HoldsValues, Asks, KeysAsked, ValuesAsked, ElementAsked}

module _ {h k : List ℕ} {c : Counts} {bytes before : List ℕ} {a b : Reading} {x y : List ℕ} where
  pub keys_once : KeysAsked h k c bytes before a x → KeysAsked h k c bytes before b y → (D : Document) → HoldsKeys h k c D
      → (a ≡ b) × (x ≡ y)
  keys_once p q D H = T.keys_once D bytes before a b x y (p.reads D H) (q.reads D H)

  pub values_once : {v : List ℕ} → ValuesAsked h k v c bytes before a x → ValuesAsked h k v c bytes before b y → (D : Document)
      → HoldsValues h k v c D → (a ≡ b) × (x ≡ y)
  values_once p q D H = T.values_once D bytes before a b x y (p.reads D H) (q.reads D H)

  pub element_once : (index : ℕ) → ElementAsked h k c index bytes before a x → ElementAsked h k c index bytes before b y → (D : Document)
      → HoldsKeys h k c D → (a ≡ b) × (x ≡ y)
  element_once index p q D H = T.element_once index D bytes before a b x y (p.reads D H) (q.reads D H)

-- of counts that have no room in the tables
pub once_beyond : {A : Type 0} {Valid : A → Type 0} {text : A → List ℕ} {look : A → Document → Finding} {Held : Document → Type 0}
    {c : Counts} {bytes before : List ℕ} {a b : Reading} {x y : List ℕ} → Asks Valid text look Held c bytes before a x
    → Asks Valid text look Held c bytes before b y → within_tables c ≡ false → (a ≡ b) × (x ≡ y)
once_beyond {before = before} p q e =
    let left = subst (λ r. Refusal (reading_answer r)) (sym (p.beyond e)) tt in
    let right = subst (λ r. Refusal (reading_answer r)) (sym (q.beyond e)) tt in
    (p.beyond e ∙ sym (q.beyond e), p.stays left ∙ sym (q.stays right))
