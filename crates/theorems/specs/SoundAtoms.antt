-- Soundness of a place is kept by what is done at it: marked, a value given, a branch entered, cleared, assigned. P holds of the ids that
-- may mark the place, n is the depth of what hangs under it.
-- Assumes nothing.
use Rattle.std.specs.Prelude.{ℕ, suc, ◌≡◌, refl, Bool, true, false, cond, List}
use Rattle.std.proofs.Common.{⊎_elim}
use Rattle.meaning.specs.Ids.{uncovered}
use Rattle.meaning.specs.Places.{Plain, Value, Place, place, bare, Children, childless, child, Elements, empty, element}
use Rattle.meaning.specs.Ways.{Assigned, plain, empty_map, empty_list, Way, deletes}
use Rattle.meaning.specs.Clear.{clear_marks, clear_values, clear, clear_children, clear_elements}
use Rattle.meaning.specs.Apply.{mark, drop_values, add_value, on_map, on_list, give, passing}
use Rattle.meaning.specs.Members.{Has, own, id_of_value}
use Rattle.meaning.specs.Valid.{ValidPlain, ValidAssigned}
use Rattle.meaning.specs.Sound.{Own, Mapped, Listed, Below, SoundPlace, SoundChildren, SoundElements}
use Rattle.theorems.specs.Members.{has_keep, has_pass, keep_has, put_self, put_has, has_put, asc_keep, asc_put, all_keep, all_put}

-- more ids may mark what hangs there
wider : (P Q : ℕ → Type 0) → ((j : ℕ) → P j → Q j) → (n : ℕ) (c : Place) → SoundPlace P n c → SoundPlace Q n c
wider P Q s n (place m l ms vs ks es) f = (
  record {
    marks = f.0.marks;
    values = f.0.values;
    among = λ j h. s j (f.0.among j h);
    marked = f.0.marked;
    valid = f.0.valid;
  },
  f.1,
  f.2,
  f.3,
  f.4,
)

pub wider_children : (P Q : ℕ → Type 0) → ((j : ℕ) → P j → Q j) → (n : ℕ) (ks : Children) → SoundChildren P n ks → SoundChildren Q n ks
wider_children P Q s n childless f = tt
wider_children P Q s n (child k c ks) f = (f.0, f.1, wider P Q s (suc n) c f.2, wider_children P Q s n ks f.3)

wider_elements : (P Q : ℕ → Type 0) → ((j : ℕ) → P j → Q j) → (n : ℕ) (es : Elements) → SoundElements P n es → SoundElements Q n es
wider_elements P Q s n empty f = tt
wider_elements P Q s n (element i c es) f = (f.0, wider P Q s (suc n) c f.1, wider_elements P Q s n es f.2)

pub sound_bare : (P : ℕ → Type 0) (n : ℕ) → SoundPlace P n bare
sound_bare P n = (record { marks = tt; values = tt; among = λ j h. absurd h; marked = λ j h. absurd h; valid = tt }, tt, tt, tt, tt)

-- Marks and values.

abbrev pub Marked : ℕ → Place → Type 0
Marked i (place m l ms vs ks es) = Has own i ms

pub mark_marks : (i : ℕ) (c : Place) → Marked i (mark i c)
unfolding mark
mark_marks i (place m l ms vs ks es) = put_self own i ms

drop_marks : (i : ℕ) (d : List ℕ) (c : Place) → Marked i c → Marked i (drop_values d c)
unfolding drop_values
drop_marks i d (place m l ms vs ks es) h = h

pub sound_mark : (P : ℕ → Type 0) (n i : ℕ) (c : Place) → P i → SoundPlace P n c → SoundPlace P n (mark i c)
unfolding mark
sound_mark P n i (place m l ms vs ks es) p f = (
  record {
    marks = asc_put own i ms f.0.marks;
    values = f.0.values;
    among = λ j h. ⊎_elim (λ (q : j ≡ i). rw q p) (λ u. f.0.among j u) (has_put own i j ms h);
    marked = λ j h. put_has own i j ms (f.0.marked j h);
    valid = f.0.valid;
  },
  f.1,
  f.2,
  wider_children _ _ (λ j h. put_has own i j ms h) n ks f.3,
  wider_elements _ _ (λ j h. put_has own i j ms h) n es f.4,
)

sound_drop : (P : ℕ → Type 0) (n : ℕ) (d : List ℕ) (c : Place) → SoundPlace P n c → SoundPlace P n (drop_values d c)
unfolding drop_values clear_values
sound_drop P n d (place m l ms vs ks es) f = (
  record {
    marks = f.0.marks;
    values = asc_keep id_of_value (λ v. uncovered d v.id) vs f.0.values;
    among = f.0.among;
    marked = λ j h. f.0.marked j (has_keep id_of_value (λ v. uncovered d v.id) j vs h);
    valid = all_keep _ (λ v. uncovered d v.id) vs f.0.valid;
  },
  f.1,
  f.2,
  f.3,
  f.4,
)

sound_add : (P : ℕ → Type 0) (n i : ℕ) (v : Plain) (c : Place) → ValidPlain v → Marked i c → SoundPlace P n c
    → SoundPlace P n (add_value i v c)
unfolding add_value
sound_add P n i v (place m l ms vs ks es) y h f = (
  record {
    marks = f.0.marks;
    values = asc_put id_of_value (record { id = i; val = v }) vs f.0.values;
    among = f.0.among;
    marked = λ j u. ⊎_elim (λ (q : j ≡ i). rw q h) (λ u. f.0.marked j u) (has_put id_of_value (record { id = i; val = v }) j vs u);
    valid = all_put _ id_of_value (record { id = i; val = v }) vs y f.0.valid;
  },
  f.1,
  f.2,
  f.3,
  f.4,
)

-- Branches.

mapped : (ks : Children) → Mapped ks true
mapped childless = tt
mapped (child k c ks) = refl

listed : (es : Elements) → Listed es true
listed empty = tt
listed (element i c es) = refl

-- what keeps the branch sound, for whatever ids the place's marks are, keeps the place sound
pub sound_map : (P : ℕ → Type 0) (n : ℕ) (g : Children → Children) (c : Place)
    → ((Q : ℕ → Type 0) → ((j : ℕ) → Marked j c → Q j) → (ks : Children) → SoundChildren Q n ks → SoundChildren Q n (g ks))
    → SoundPlace P n c → SoundPlace P n (on_map g c)
unfolding on_map
sound_map P n g (place m l ms vs ks es) h f = (f.0, mapped (g ks), f.2, h (λ j. Has own j ms) (λ j u. u) ks f.3, f.4)

pub sound_list : (P : ℕ → Type 0) (n : ℕ) (g : Elements → Elements) (c : Place)
    → ((Q : ℕ → Type 0) → ((j : ℕ) → Marked j c → Q j) → (es : Elements) → SoundElements Q n es → SoundElements Q n (g es))
    → SoundPlace P n c → SoundPlace P n (on_list g c)
unfolding on_list
sound_list P n g (place m l ms vs ks es) h f = (f.0, f.1, listed (g es), f.3, h (λ j. Has own j ms) (λ j u. u) es f.4)

-- Clearing: of the ids that may mark a place, the uncovered ones still may.

below_clear : (d : List ℕ) (k : List ℕ) (ks : Children) → Below k ks → Below k (clear_children d ks)
unfolding clear_children
below_clear d k childless h = tt
below_clear d k (child j c ks) h = (h.0, below_clear d k ks h.1)

mapped_clear : (d : List ℕ) (m : Bool) (ks : Children) → Mapped ks m → Mapped (clear_children d ks) m
unfolding clear_children
mapped_clear d m childless h = tt
mapped_clear d m (child k c ks) h = h

listed_clear : (d : List ℕ) (l : Bool) (es : Elements) → Listed es l → Listed (clear_elements d es) l
unfolding clear_elements
listed_clear d l empty h = tt
listed_clear d l (element i c es) h = h

marks_clear : (d : List ℕ) (j : ℕ) (ms : List ℕ) → Has own j ms → uncovered d j ≡ true → Has own j (clear_marks d ms)
unfolding clear_marks
marks_clear d j ms h u = keep_has own (λ i. uncovered d i) j (λ i (q : j ≡ i). rw (← q) u) ms h

own_clear : (P Q : ℕ → Type 0) (d : List ℕ) → ((j : ℕ) → P j → uncovered d j ≡ true → Q j) → (ms : List ℕ) (vs : List Value)
    → Own P ms vs → Own Q (clear_marks d ms) (clear_values d vs)
unfolding clear_marks clear_values
own_clear P Q d s ms vs f = record {
  marks = asc_keep own (λ i. uncovered d i) ms f.marks;
  values = asc_keep id_of_value (λ v. uncovered d v.id) vs f.values;
  among = λ j h.
      s j (f.among j (has_keep own (λ i. uncovered d i) j ms h))
      (has_pass own (λ i. uncovered d i ≡ true) (λ i. uncovered d i) (λ i e. e) j ms h);
  marked = λ j h.
      marks_clear d j ms (f.marked j (has_keep id_of_value (λ v. uncovered d v.id) j vs h))
      (has_pass id_of_value (λ i. uncovered d i ≡ true) (λ v. uncovered d v.id) (λ v e. e) j vs h);
  valid = all_keep _ (λ v. uncovered d v.id) vs f.valid;
}

mutual
  unfolding clear

  clear_place : (P Q : ℕ → Type 0) (d : List ℕ) → ((j : ℕ) → P j → uncovered d j ≡ true → Q j) → (n : ℕ) (c : Place)
      → SoundPlace P n c → SoundPlace Q n (clear d c)
  clear_place P Q d s n (place m l ms vs ks es) f = (
    own_clear P Q d s ms vs f.0,
    mapped_clear d m ks f.1,
    listed_clear d l es f.2,
    clear_children_lem (λ j. Has own j ms) (λ j. Has own j (clear_marks d ms)) d (λ j h u. marks_clear d j ms h u) n ks f.3,
    clear_elements_lem (λ j. Has own j ms) (λ j. Has own j (clear_marks d ms)) d (λ j h u. marks_clear d j ms h u) n es f.4,
  )

  clear_children_lem : (P Q : ℕ → Type 0) (d : List ℕ) → ((j : ℕ) → P j → uncovered d j ≡ true → Q j) → (n : ℕ) (ks : Children)
      → SoundChildren P n ks → SoundChildren Q n (clear_children d ks)
  clear_children_lem P Q d s n childless f = tt
  clear_children_lem P Q d s n (child k c ks) f =
      (f.0, below_clear d k ks f.1, clear_place P Q d s (suc n) c f.2, clear_children_lem P Q d s n ks f.3)

  clear_elements_lem : (P Q : ℕ → Type 0) (d : List ℕ) → ((j : ℕ) → P j → uncovered d j ≡ true → Q j) → (n : ℕ) (es : Elements)
      → SoundElements P n es → SoundElements Q n (clear_elements d es)
  clear_elements_lem P Q d s n empty f = tt
  clear_elements_lem P Q d s n (element i c es) f = (f.0, clear_place P Q d s (suc n) c f.1, clear_elements_lem P Q d s n es f.2)

pub sound_clear : (P : ℕ → Type 0) (n : ℕ) (d : List ℕ) (c : Place) → SoundPlace P n c → SoundPlace P n (clear d c)
sound_clear P n d c f = clear_place P P d (λ j u v. u) n c f

-- Assigning, and passing a place on the way.

pub sound_give : (P : ℕ → Type 0) (n i : ℕ) (d : List ℕ) (a : Assigned) (c : Place) → ValidAssigned a → P i → SoundPlace P n c
    → SoundPlace P n (give i d a c)
unfolding give
sound_give P n i d (plain v) c y p f =
    sound_add P n i v (drop_values d (mark i c)) y (drop_marks i d (mark i c) (mark_marks i c))
    (sound_drop P n d (mark i c) (sound_mark P n i c p f))
sound_give P n i d empty_map c y p f =
    sound_map P n (λ ks. ks) (mark i (clear d c)) (λ Q s ks u. u) (sound_mark P n i (clear d c) p (sound_clear P n d c f))
sound_give P n i d empty_list c y p f =
    sound_list P n (λ es. es) (mark i (clear d c)) (λ Q s es u. u) (sound_mark P n i (clear d c) p (sound_clear P n d c f))

pub sound_passing : (P : ℕ → Type 0) (n i : ℕ) (w : Way) (c : Place) → (deletes w ≡ false → P i) → SoundPlace P n c
    → SoundPlace P n (passing i w c)
unfolding passing
sound_passing P n i w c p f = go (deletes w) p
  where
    go : (b : Bool) → (b ≡ false → P i) → SoundPlace P n (cond b c (mark i c))
    go true p = f
    go false p = sound_mark P n i c (p refl) f

pub passing_marks : (i : ℕ) (w : Way) (c : Place) → deletes w ≡ false → Marked i (passing i w c)
unfolding passing
passing_marks i w c e = rw e (mark_marks i c)
