-- What the tests of an operation say: its counter against its deps; its way; `Ready` from an operation that is ready and not astray; why an
-- operation is dead in a document, and what one that isn't has passed.
-- Assumes nothing.
use Rattle.std.specs.Prelude.{ℕ, ◌<◌, ◌≡◌, refl, Bool, true, false, ◌&&◌, ◌||◌, List, length}
use Rattle.std.proofs.lemmas.Bool.{false≢true, not-false}
use Rattle.meaning.specs.Ids.{counter_of, entry, covered, all_below}
use Rattle.meaning.specs.Places.{Place, elements_of, Document}
use Rattle.meaning.specs.Ways.{head, after, Way, assign, delete, insert, into_map, into_list, Operation}
use Rattle.meaning.specs.Judge.{Found, found, unknown, find, elements_found, not_above, repeated, own_deps_behind, astray, downward}
use Rattle.meaning.specs.Receive.{ready_in, dead}
use Rattle.theorems.specs.Decide.{and_left, and_right, or_left, or_right, or_true}
use Rattle.theorems.specs.Counters.{all_below_each, each_all_below, all_below_above, ready-own, ready_others}
use Rattle.theorems.specs.Commute.{Known}
use Rattle.theorems.specs.Converge.{Ready}

-- the counter is above every deps entry: answer 2 isn't given
abbrev pub Checked : Operation → Type 0
Checked o = (k : ℕ) → entry o.deps k < counter_of o.id

pub above_checked : (o : Operation) → length o.deps ≡ 8 → not_above o ≡ false → Checked o
unfolding not_above
above_checked o e h =
    let b = not-false (all_below (counter_of o.id) o.deps) h in
    all_below_each (counter_of o.id) o.deps (all_below_above (counter_of o.id) o.deps e b) b

pub checked_above : (o : Operation) → Checked o → not_above o ≡ false
unfolding not_above
checked_above o h = rw (each_all_below (counter_of o.id) o.deps h)

-- The way.

found_known : (d : List ℕ) (w : Way) (c : Place) → elements_found d w c ≡ true → Known d w
unfolding elements_found
found_known d (assign a) c e = tt
found_known d delete c e = tt
found_known d (insert head a) c e = tt
found_known d (insert (after g) a) c e = and_left (covered d g) _ e
found_known d (into_map k w) c e = found_known d w _ e
found_known d (into_list g w) c e =
    (and_left (covered d g) _ e, go (find g (elements_of c)) (and_right (covered d g) _ e) (λ x u. found_known d w x u))
  where
    go : (f : Found) → elim f [ found x ↦ elements_found d w x | unknown ↦ false ] ≡ true
        → ((x : Place) → elements_found d w x ≡ true → Known d w) → Known d w
    go (found x) e r = r x e
    go unknown e r = absurd (false≢true e)

pub astray_known : (D : Document) (o : Operation) → astray D o ≡ false → Known o.deps o.way
unfolding astray
astray_known D o l = found_known o.deps o.way _ (not-false _ l)

pub is-ready : (D : Document) (o : Operation) → Checked o → ready_in D o ≡ true → astray D o ≡ false → Ready D.seen o
is-ready D o c r l = record {
  own = ready-own D.seen o.id o.deps r;
  others = ready_others D.seen o.id o.deps r;
  above = c;
  known = astray_known D o l;
}

-- What is dead.

-- why an operation is dead: it is 3, 4 or (ready) 8 or 9
pub data Why (D : Document) (o : Operation) : Type 0 where
  repeats : repeated D.seen o ≡ true → Why D o
  crosses : own_deps_behind D.seen o ≡ true → Why D o
  barred : ready_in D o ≡ true → (astray D o || downward o) ≡ true → Why D o

pub dead_why : (D : Document) (o : Operation) → dead D o ≡ true → Why D o
unfolding dead
dead_why D o e = go (repeated D.seen o) refl (own_deps_behind D.seen o) refl (ready_in D o) refl e
  where
    go : (a : Bool) → repeated D.seen o ≡ a → (b : Bool) → own_deps_behind D.seen o ≡ b → (c : Bool) → ready_in D o ≡ c
        → (a || b || (c && (astray D o || downward o))) ≡ true → Why D o
    go true p b q c r e = repeats p
    go false p true q c r e = crosses q
    go false p false q true r e = barred r e
    go false p false q false r e = absurd (false≢true e)

pub why_dead : (D : Document) (o : Operation) → Why D o → dead D o ≡ true
unfolding dead
why_dead D o (repeats p) = rw p
why_dead D o (crosses p) = rw (or_true (repeated D.seen o) (own_deps_behind D.seen o) p)
why_dead D o (barred p q) = rw (p, q) (or_true (repeated D.seen o || own_deps_behind D.seen o) true refl)

-- what an operation that isn't dead has passed
pub record Living (D : Document) (o : Operation) : Type 0 where
  pub new : repeated D.seen o ≡ false
  pub own : own_deps_behind D.seen o ≡ false
  pub leads : ready_in D o ≡ true → astray D o ≡ false

pub living : (D : Document) (o : Operation) → dead D o ≡ false → Living D o
unfolding dead
living D o e =
    let a = repeated D.seen o in
    let b = own_deps_behind D.seen o in
    let c = astray D o || downward o in
    record {
      new = or_left a b (or_left (a || b) (ready_in D o && c) e);
      own = or_right a b (or_left (a || b) (ready_in D o && c) e);
      leads = λ r. or_left (astray D o) (downward o) (rw r at (or_right (a || b) (ready_in D o && c) e));
    }

-- nothing of it stops the operation, ready or not
pub alive_now : (D : Document) (o : Operation) → repeated D.seen o ≡ false → own_deps_behind D.seen o ≡ false → astray D o ≡ false
    → downward o ≡ false → dead D o ≡ false
unfolding dead
alive_now D o a b c d = rw (a, b, c, d) (go (ready_in D o))
  where
    go : (r : Bool) → (r && false) ≡ false
    go true = refl
    go false = refl

pub early_alive : (D : Document) (o : Operation) → repeated D.seen o ≡ false → own_deps_behind D.seen o ≡ false → ready_in D o ≡ false
    → dead D o ≡ false
unfolding dead
early_alive D o b c r = rw (b, c, r)
