-- What a read answers, in its order: the counts have no room; the way isn't in the layout; what is given of the place where it leads.
-- Assumes nothing.
use Prim.Native.Nat.{ℕ}
use native.Mathlib.Omega.{arith}
use mathlib.Core.Path.{◌≡◌, refl, sym, ◌∙◌, subst}
use mathlib.Core.Bool.{true, false, true≢false}
use mathlib.Core.List.{List, []}
use Rattle.std.specs.Prelude.{Option, Some, None, Err}
use Rattle.meaning.specs.Places.{Place, Document}
use Rattle.meaning.specs.Read.{PlaceWay, ValidPlaceWay, KeysWay, of_root, of_place, ValidKeysWay}
use Rattle.meaning.specs.Read.{seek, Finding, at_place, keys, values, nth_element}
use Rattle.meaning.specs.Sheet.{rows_of}
use Rattle.meaning.specs.Sheet as Sheet
use Rattle.meaning.specs.Promises.{Says, says, says_nothing}
use Rattle.meaning.specs.Answers.{Refusal, Reading, reading_answer}
use Rattle.meaning.specs.declared.ReadError.TheVariants.{NotThere, Layout}
use Rattle.rows.specs.Sought.{root_place, root_rows}
use Rattle.message.specs.Means.{MeansPlace}
use Rattle.message.specs.Promises as P
use Rattle.message.specs.Promises.{ReadsPlaceWay, ReadsKeysWay, ReadsElementWay}
use Rattle.message.specs.declared.Way.{Way}
use Rattle.tables.specs.Holding.{Holds, within_tables, holds_within, four}
use Rattle.tables.specs.Once.{valid_rows}
use Rattle.tables.specs.declared.Counts.{Counts}
use Rattle.finder.specs.Follows.{Followed}
use Rattle.listings.specs.Lists.{Answers, ListsKeys}
use Rattle.reads.specs.Asks.{HoldsKeys, HoldsValues, Asks, KeysAsked, ValuesAsked, ElementAsked}
use Rattle.reads.specs.Gives.{Reaches, Gives, GivesKeys, GivesValues, GivesElement}

-- Any read.

module _ {A : Type 0} (Valid : A → Type 0) (text : A → List ℕ) (look : A → Document → Finding) (Held : Document → Type 0) (c : Counts)
    (bytes before : List ℕ) where
  pub too_many : ((D : Document) → Held D → within_tables c ≡ true) → within_tables c ≡ false
      → Asks Valid text look Held c bytes before (Err NotThere) before
  too_many room e =
      record { reads = λ D H. absurd (true≢false (sym (room D H) ∙ e)); stays = λ x. refl; beyond = λ e. refl }

  module _ (room : within_tables c ≡ true) where
    no_way_lem : ((a : A) → Valid a → bytes ≡ text a → ⊥) → Asks Valid text look Held c bytes before (Err Layout) before
    no_way_lem never = record {
      reads = λ D H. record { reads = says_nothing never; answers = refl; writes = refl };
      stays = λ x. refl;
      beyond = λ e. absurd (true≢false (sym room ∙ e));
    }

    -- the reader said that the bytes are no way
    pub bad_way : {W : Type 0} {means : W → A → Type 0} {r : Option W} → P.Reads Valid text means bytes r → r ≡ None
        → Asks Valid text look Held c bytes before (Err Layout) before
    bad_way {means = means} R e = go R.says (subst (λ r. P.Answers means r R.says) e R.answers)
      where
        go : (s : Says Valid text bytes) → P.Answers means None s → Asks Valid text look Held c bytes before (Err Layout) before
        go (says a v q) x = absurd x
        go (says_nothing n) x = no_way_lem n

    module _ (answer : Reading) (after : List ℕ) (stays : Refusal (reading_answer answer) → after ≡ before) where
      way_read : (a : A) → Valid a → bytes ≡ text a → ((D : Document) → Held D → Answers (look a D) before answer after)
          → Asks Valid text look Held c bytes before answer after
      way_read a v e found = record {
        reads = λ D H. record { reads = says a v e; answers = (found D H).answers; writes = (found D H).writes };
        stays = stays;
        beyond = λ e. absurd (true≢false (sym room ∙ e));
      }

      -- it said which way they are
      pub good_way : {W : Type 0} {means : W → A → Type 0} {r : Option W} (w : W) → P.Reads Valid text means bytes r → r ≡ Some w
          → ((a : A) → Valid a → means w a → (D : Document) → Held D → Answers (look a D) before answer after)
          → Asks Valid text look Held c bytes before answer after
      good_way {means = means} w R e found = go R.says (subst (λ r. P.Answers means r R.says) e R.answers)
        where
          go : (s : Says Valid text bytes) → P.Answers means (Some w) s → Asks Valid text look Held c bytes before answer after
          go (says a v q) x = way_read a v q (found a v x)
          go (says_nothing n) x = absurd x

-- Memory that holds a document.

pub keys-room : {h k : List ℕ} {c : Counts} (D : Document) → HoldsKeys h k c D → within_tables c ≡ true
keys-room D H = holds_within H.3.rows

pub values-room : {h k v : List ℕ} {c : Counts} (D : Document) → HoldsValues h k v c D → within_tables c ≡ true
values-room D H = holds_within H.2.rows

-- The three reads.

module _ (h k : List ℕ) (c : Counts) (bytes before : List ℕ) (answer : Reading) (after : List ℕ) (room : within_tables c ≡ true)
    {r : Option Way} (way : Way) (is : r ≡ Some way) where
  -- the keys of the root
  pub root_asked : ReadsKeysWay bytes r → way.n ≡ 0
      → ListsKeys h k c.rows 0 0 before answer after → KeysAsked h k c bytes before answer after
  unfolding keys
  root_asked R none L = good_way _ _ _ _ c bytes before room answer after L.stays way R is go
    where
      go : (w : KeysWay) → ValidKeysWay w → P.MeansKeys way w → (D : Document) → HoldsKeys h k c D → Answers (keys w D) before answer after
      go (of_place w) valid means D H = absurd (let z : ◌≡◌ {A = ℕ} _ _ = sym none ∙ means.count in omega arith)
      go of_root valid means D H = L.lists (root_place D) (record {
        marks = H.0;
        values = H.1;
        counts = c;
        ahead = [];
        later = [];
        holds = subst (Holds (four h k H.0 H.1) c) (root_rows D) H.3.rows;
        counted = refl;
        here = refl;
        ends = tt;
      })

  module _ (found : Followed) (reaches : Reaches h k c.rows way found) where
    -- the place that the way leads to
    place_found : (Held : List Sheet.Row → Type 0) (find : Place → Finding) → Gives Held way.n find found before answer after
        → (m v : List ℕ) (D : Document) → Holds (four h k m v) c (rows_of D) → Held (rows_of D)
        → (w : PlaceWay) → ValidPlaceWay w → MeansPlace way w → Answers (at_place find (seek w D)) before answer after
    place_found Held find G m v D H held w valid means =
        G.gives (rows_of D) (seek w D) held (reaches m v c D w H refl means valid)

    pub keys-asked : ReadsKeysWay bytes r → (way.n ≡ 0 → ⊥)
        → GivesKeys h k c.rows found way.n before answer after → KeysAsked h k c bytes before answer after
    unfolding keys
    keys-asked R some G = good_way _ _ _ _ c bytes before room answer after G.stays way R is go
      where
        go : (w : KeysWay) → ValidKeysWay w → P.MeansKeys way w → (D : Document) → HoldsKeys h k c D → Answers (keys w D) before answer after
        go of_root valid means D H = absurd (some means.1)
        go (of_place w) valid means D H =
            place_found _ _ G H.0 H.1 D H.3.rows (H.0, H.1, c, H.3.rows, refl) w valid means

    pub values-asked : (v : List ℕ) → ReadsPlaceWay bytes r → GivesValues h v found before answer after
        → ValuesAsked h k v c bytes before answer after
    unfolding values
    values-asked v R G =
        good_way _ _ _ _ c bytes before room answer after (G way.n).stays way R is
        (λ w valid means D H. place_found _ _ (G way.n) H.0 v D H.2.rows
        (k, H.0, c, H.2.rows, valid_rows D H.2.sound) w valid means)

    pub element_asked : (index : ℕ) → ReadsElementWay bytes r
        → GivesElement h k c.rows found way.n index before answer after
        → ElementAsked h k c index bytes before answer after
    unfolding nth_element
    element_asked index R G =
        good_way _ _ _ _ c bytes before room answer after G.stays way R is
        (λ w valid means D H. place_found _ _ G H.0 H.1 D H.3.rows (H.0, H.1, c, H.3.rows, refl) w valid means)
