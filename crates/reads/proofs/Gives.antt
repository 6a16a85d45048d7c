-- What is read of the place that a way led to.
-- Assumes nothing.
use Prim.Native.Nat.{ℕ}
use mathlib.Core.Path.{refl, sym, subst}
use mathlib.Core.List.{List, [], ◌∷◌, ◌++◌, append_assoc}
use mathlib.Core.Path.{◌≡◌}
use Rattle.std.specs.Prelude.{Result, Ok, Err}
use Rattle.std.specs.Result.{result_or}
use Rattle.meaning.specs.declared.ReadError.{ReadError}
use Rattle.finder.specs.Follows.{Followed}
use Rattle.meaning.specs.Places.{Place}
use Rattle.meaning.specs.Members.{All}
use Rattle.meaning.specs.Read.{Sought, Finding}
use Rattle.meaning.specs.Read.{at_place, answer_read}
use Rattle.meaning.specs.Sheet.{Row, row_of, rows}
use Rattle.meaning.specs.Answers.{Reading}
use Rattle.meaning.specs.declared.ReadError.TheVariants.{NotThere}
use Rattle.tables.specs.Seek.{Passes}
use Rattle.tables.specs.Holding.{Holds, four}
use Rattle.tables.specs.Parts.{at-behind, all_right}
use Rattle.tables.specs.Stands.{passes}
use Rattle.tables.specs.Once.{ValidValues}
use Rattle.tables.specs.declared.Position.{Position}
use Rattle.finder.specs.Follows.{StandsHere}
use Rattle.finder.specs.declared.Absence.{Absence}
use Rattle.finder.specs.declared.Absence.TheVariants as F
use Rattle.listings.specs.Lists.{Answers, Under, Owns, Lists, ListsKeys, ListsValues, ListsElement}
use Rattle.message.specs.declared.Way.{Way}
use Rattle.reads.specs.Gives.{Reaches, LeadsTo, somewhere, nowhere}
use Rattle.reads.specs.Gives.{Gives, HeldRows, HeldValues, GivesKeys, GivesValues, GivesElement}

module _ {h k : List ℕ} {rows : ℕ} {way : Way} where
  -- where the way led, by what is answered
  pub led : {r : Result Position ReadError} (at : Position) → LeadsTo h k rows way r → r ≡ Ok at → Reaches h k rows way (Ok at)
  led at (somewhere x R) e = let s : x ≡ at = cc in subst (λ z. Reaches h k rows way (Ok z)) s R
  led at (nowhere a R) e = cc

  pub lost : {r : Result Position ReadError} (y : ReadError) → LeadsTo h k rows way r → r ≡ Err y
      → (a : Absence) × Reaches h k rows way (Err a) × (y ≡ NotThere)
  lost y (somewhere x R) e = cc
  lost y (nowhere a R) e = (a, R, cc)

  -- what was followed, by either absence
  pub leads : (f : Followed) → Reaches h k rows way f → LeadsTo h k rows way (result_or f (Err NotThere))
  leads (Ok x) R = somewhere x R
  leads (Err a) R = nowhere a R

-- nothing is there
pub gives_absent : (Held : List Row → Type 0) (n : ℕ) (find : Place → Finding) (before : List ℕ) (a : Absence)
    → Gives Held n find (Err a) before (Err NotThere) before
unfolding at_place answer_read
gives_absent Held n find before F.Missing = record {
  gives = λ rs s H e.
      subst (λ s. Answers (at_place find s) before (Err NotThere) before) (sym e) (record { answers = refl; writes = refl });
  stays = λ x. refl;
}
gives_absent Held n find before F.WithoutMarks = record {
  gives = λ rs s H e.
      subst (λ s. Answers (at_place find s) before (Err NotThere) before) (sym e) (record { answers = refl; writes = refl });
  stays = λ x. refl;
}

-- a place is there, and stands as its listing wants it
standing_gives : (Held : List Row → Type 0) (n : ℕ) (find : Place → Finding) (at : Position) (Stands : Place → Type 0) (before : List ℕ)
    (r : Reading) (after : List ℕ) → ((rs : List Row) (s : Sought) → Held rs → (L : StandsHere rs n at s) → Stands L.place)
    → Lists Stands find before r after → Gives Held n find (Ok at) before r after
unfolding at_place
standing_gives Held n find at Stands before r after stand listing = record {
  gives = λ rs s H L. subst (λ s. Answers (at_place find s) before r after) (sym L.is) (listing.lists L.place (stand rs s H L));
  stays = listing.stays;
}

module _ (h k : List ℕ) (count : ℕ) (at next : Position) (past : Passes h at next) (n : ℕ) where
  -- what hangs under the place stands behind its own row
  under : (rs : List Row) (s : Sought) → HeldRows h k count rs → (L : StandsHere rs n at s) → Under h k count next.row n L.place
  under rs s H L =
      let S = L.stands in
      let own = row_of n L.spot L.place in
      let K = subst (Holds (four h k H.0 H.1) H.2) S.all H.3 in
      let b = passes h k H.0 H.1 H.2 L.front _ own K at next past L.here in
      record {
        marks = H.0;
        values = H.1;
        counts = H.2;
        ahead = L.front ++ own ∷ [];
        later = S.back;
        holds = subst (Holds (four h k H.0 H.1) H.2) (sym (append_assoc L.front (own ∷ []) _)) K;
        counted = H.4;
        here = (at-behind next (L.front ++ own ∷ []) b).row;
        ends = S.ends;
      }

  module _ (before : List ℕ) (r : Reading) (after : List ℕ) where
    pub gives_keys : ListsKeys h k count next.row n before r after → GivesKeys h k count (Ok at) n before r after
    gives_keys = standing_gives _ n _ at (Under h k count next.row n) before r after under

    pub gives_element : (index : ℕ) → ListsElement h k count next.row n index before r after
        → GivesElement h k count (Ok at) n index before r after
    gives_element index = standing_gives _ n _ at (Under h k count next.row n) before r after under

-- its own row has the values
pub gives_values : (h v : List ℕ) (at : Position) (before : List ℕ) (r : Reading) (after : List ℕ) → ListsValues h v at before r after
    → GivesValues h v (Ok at) before r after
gives_values h v at before r after listing n = standing_gives _ n _ at (Owns h v at) before r after own listing
  where
    own : (rs : List Row) (s : Sought) → HeldValues h v rs → (L : StandsHere rs n at s) → Owns h v at L.place
    own rs s H L =
        let S = L.stands in
        record {
          keys = H.0;
          marks = H.1;
          counts = H.2;
          depth = n;
          spot = L.spot;
          ahead = L.front;
          later = rows _ L.place ++ S.back;
          holds = subst (Holds (four h H.0 H.1 v) H.2) S.all H.3;
          here = L.here;
          valid = (all_right ValidValues L.front _ (subst (All ValidValues) S.all H.4)).0;
        }
