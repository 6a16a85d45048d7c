-- An edit's lines: the way and what is done there, taken apart and put together again.
-- Assumes nothing.
use Prim.Native.Nat.{ℕ, suc, ◌≤◌, ◌<◌}
use native.Mathlib.Omega.{arith}
use mathlib.Core.Path.{◌≡◌, refl, sym, ap, ◌∙◌, subst}
use mathlib.Core.Bool.{true, false, not}
use mathlib.Core.List.{List, [], ◌∷◌, ◌++◌, append_assoc, append-nil}
use lib.Dec.{eqb}
use lib.ListN.{length, drop, length-drop, drop_of_length-le}
use Rattle.std.proofs.Common.{Some, None}
use borrow.Author.Tests.{not-true, not-false, eqb-true, eqb-false, leb-true, leb-false}
use Rattle.meaning.specs.Ascii.{ascii, byte}
use Rattle.meaning.specs.Ways.{Prev, head, after, Way, assign, delete, insert, into_map, into_list, steps}
use Rattle.meaning.specs.Valid.{ValidId, ValidKey, ValidWay, ValidEdit}
use Rattle.meaning.specs.Text.{hex, id_text}
use Rattle.meaning.specs.Message.{prev_text, steps_text, do_text, edit_text}
use Rattle.meaning.specs.Promises.{says, says_nothing, Lines, lines_of}
use Rattle.decimal.specs.Take.{Layout, Took, Never, fixed, then}
use Rattle.decimal.proofs.Layouts.{no_first, no_second, both}
use Rattle.readers.specs.Words.{key_words}
use Rattle.message.specs.Means.{element_words, prev_words, way_words, deed_of, pad}
use Rattle.message.specs.Steps.{Step, key, element, caret, step_text, all_text, step_words, all_words, Open, Good, InList}
use Rattle.message.specs.Steps.{Action, assigns, inserts, deletes, action_text, ValidAction, actions}
use Rattle.message.specs.Reads.{Tail, at_key, at_element, at_caret, ways, WayTook}
use Rattle.message.specs.Reads.{action_deed, DeedTook, suits}
use Rattle.message.specs.Promises.{ValidLines, ReadsEdit}
use Rattle.message.specs.declared.ways.WayRead.{WayRead}
use Rattle.message.specs.declared.Deed.{Deed}

-- Taken apart.

prev_step : Prev → Step
prev_step head = caret
prev_step (after e) = element e

steps_of : Way → List Step
steps_of (assign a) = []
steps_of delete = []
steps_of (insert p a) = prev_step p ∷ []
steps_of (into_map k w) = key k ∷ steps_of w
steps_of (into_list e w) = element e ∷ steps_of w

action_of : Way → Action
action_of (assign a) = assigns a
action_of delete = deletes
action_of (insert p a) = inserts a
action_of (into_map k w) = action_of w
action_of (into_list e w) = action_of w

steps_text_lem : (w : Way) → steps_text w ≡ all_text (steps_of w)
unfolding steps_text steps_of all_text step_text prev_text prev_step
steps_text_lem (assign a) = refl
steps_text_lem delete = refl
steps_text_lem (insert head a) = refl
steps_text_lem (insert (after e) a) = ap (λ t. byte "[" ∷ t) (sym (append-nil (id_text e)))
steps_text_lem (into_map k w) = ap (λ t. byte "{" ∷ (hex k ++ t)) (steps_text_lem w)
steps_text_lem (into_list e w) = ap (λ t. byte "[" ∷ (id_text e ++ t)) (steps_text_lem w)

action_text_lem : (w : Way) → do_text w ≡ action_text (action_of w)
unfolding do_text action_of action_text
action_text_lem (assign a) = refl
action_text_lem delete = refl
action_text_lem (insert p a) = refl
action_text_lem (into_map k w) = action_text_lem w
action_text_lem (into_list e w) = action_text_lem w

steps_count : (w : Way) → length (steps_of w) ≡ steps w
unfolding steps_of steps
steps_count (assign a) = refl
steps_count delete = refl
steps_count (insert p a) = refl
steps_count (into_map k w) = ap suc (steps_count w)
steps_count (into_list e w) = ap suc (steps_count w)

steps_words : (w : Way) → way_words w ≡ all_words (steps_of w)
unfolding way_words prev_words steps_of prev_step all_words step_words
steps_words (assign a) = refl
steps_words delete = refl
steps_words (insert head a) = refl
steps_words (insert (after e) a) = refl
steps_words (into_map k w) = ap (λ t. key_words k ++ t) (steps_words w)
steps_words (into_list e w) = ap (λ t. element_words e ++ t) (steps_words w)

action_deed_lem : (w : Way) → deed_of w ≡ action_deed (action_of w)
unfolding deed_of action_of action_deed
action_deed_lem (assign a) = refl
action_deed_lem delete = refl
action_deed_lem (insert p a) = refl
action_deed_lem (into_map k w) = action_deed_lem w
action_deed_lem (into_list e w) = action_deed_lem w

steps_good : (w : Way) → ValidWay w → Good (steps_of w)
unfolding steps_of prev_step
steps_good (assign a) v = tt
steps_good delete v = tt
steps_good (insert head a) v = tt
steps_good (insert (after e) a) v = (v.0, tt)
steps_good (into_map k w) v = (v.0, steps_good w v.1)
steps_good (into_list e w) v = (v.0, steps_good w v.1)

action_valid : (w : Way) → ValidWay w → ValidAction (action_of w)
unfolding action_of
action_valid (assign a) v = v
action_valid delete v = tt
action_valid (insert p a) v = v.1
action_valid (into_map k w) v = action_valid w v.1
action_valid (into_list e w) v = action_valid w v.1

-- an insert ends in a list, anything else at a place
abbrev Fits : List Step → Action → Type 0
Fits xs (assigns a) = Open xs
Fits xs (inserts a) = InList xs
Fits xs deletes = Open xs

further : (x : Step) (xs : List Step) → InList xs → InList (x ∷ xs)
further x [] i = absurd i
further x (y ∷ xs) i = i

map-fits : (k : List ℕ) (xs : List Step) (d : Action) → ValidKey k → Fits xs d → Fits (key k ∷ xs) d
map-fits k xs (assigns a) v f = (v, f)
map-fits k xs (inserts a) v f = further (key k) xs f
map-fits k xs deletes v f = (v, f)

list_fits : (e : ℕ) (xs : List Step) (d : Action) → ValidId e → Fits xs d → Fits (element e ∷ xs) d
list_fits e xs (assigns a) v f = (v, f)
list_fits e xs (inserts a) v f = further (element e) xs f
list_fits e xs deletes v f = (v, f)

fits : (w : Way) → ValidWay w → Fits (steps_of w) (action_of w)
unfolding steps_of action_of prev_step
fits (assign a) v = tt
fits delete v = tt
fits (insert head a) v = tt
fits (insert (after e) a) v = tt
fits (into_map k w) v = map-fits k (steps_of w) (action_of w) v.0 (fits w v.1)
fits (into_list e w) v = list_fits e (steps_of w) (action_of w) v.0 (fits w v.1)

-- Put together.

along : List Step → Way → Way
along [] w = w
along (key k ∷ xs) w = into_map k (along xs w)
along (element e ∷ xs) w = into_list e (along xs w)
along (caret ∷ xs) w = w

along_valid : (xs : List Step) (w : Way) → Open xs → ValidWay w → ValidWay (along xs w)
unfolding along
along_valid [] w o v = v
along_valid (key k ∷ xs) w o v = (o.0, along_valid xs w o.1 v)
along_valid (element e ∷ xs) w o v = (o.0, along_valid xs w o.1 v)
along_valid (caret ∷ xs) w o v = absurd o

along-steps : (xs : List Step) (w : Way) → Open xs → steps_of (along xs w) ≡ xs ++ steps_of w
unfolding along steps_of
along-steps [] w o = refl
along-steps (key k ∷ xs) w o = ap (λ l. key k ∷ l) (along-steps xs w o.1)
along-steps (element e ∷ xs) w o = ap (λ l. element e ∷ l) (along-steps xs w o.1)
along-steps (caret ∷ xs) w o = absurd o

along_action : (xs : List Step) (w : Way) → action_of (along xs w) ≡ action_of w
unfolding along action_of
along_action [] w = refl
along_action (key k ∷ xs) w = along_action xs w
along_action (element e ∷ xs) w = along_action xs w
along_action (caret ∷ xs) w = refl

-- a way with these steps and this deed
record Made (xs : List Step) (d : Action) : Type 0 where
  way : Way
  valid : ValidWay way
  steps : steps_of way ≡ xs
  action : action_of way ≡ d

made-along : (xs : List Step) (w : Way) (zs : List Step) (d : Action) → Open xs → ValidWay w → xs ++ steps_of w ≡ zs → action_of w ≡ d → Made zs d
made-along xs w zs d o v e f =
    record { way = along xs w; valid = along_valid xs w o v; steps = along-steps xs w o ∙ e; action = along_action xs w ∙ f }

open_front : (xs : List Step) (e : ℕ) → Open (xs ++ (element e ∷ [])) → Open xs × ValidId e
open_front [] e o = (tt, o.0)
open_front (key k ∷ xs) e o = let r = open_front xs e o.1 in ((o.0, r.0), r.1)
open_front (element i ∷ xs) e o = let r = open_front xs e o.1 in ((o.0, r.0), r.1)
open_front (caret ∷ xs) e o = absurd o

no_caret : (xs : List Step) → Open (xs ++ (caret ∷ [])) → ⊥
no_caret [] o = o
no_caret (key k ∷ xs) o = no_caret xs o.1
no_caret (element e ∷ xs) o = no_caret xs o.1
no_caret (caret ∷ xs) o = o

place_open : (last : ℕ) (xs : List Step) → Tail last xs → not (eqb last 18) ≡ true → Open xs
place_open last xs (at_key h o n) e = o
place_open last xs (at_element h ys i q o) e = o
place_open last xs (at_caret h ys q o) e = absurd (eqb-false last 18 (not-true (eqb last 18) e) h)

place_not : (last : ℕ) (xs : List Step) → Tail last xs → not (eqb last 18) ≡ false → Open xs → ⊥
place_not last xs (at_key h o n) e p = omega (arith, eqb-true last 18 (not-false (eqb last 18) e))
place_not last xs (at_element h ys i q o) e p = omega (arith, eqb-true last 18 (not-false (eqb last 18) e))
place_not last xs (at_caret h ys q o) e p = no_caret ys (subst Open q p)

made : (last : ℕ) (xs : List Step) (d : Action) → Tail last xs → ValidAction d → suits last (action_deed d) ≡ true → Made xs d
unfolding action_deed steps_of action_of prev_step
made last xs (assigns a) t v e = made-along xs (assign a) xs (assigns a) (place_open last xs t e) v (append-nil xs) refl
made last xs deletes t v e = made-along xs delete xs deletes (place_open last xs t e) tt (append-nil xs) refl
made last xs (inserts a) (at_key h o n) v e = absurd (omega (arith, leb-true 17 last e))
made last xs (inserts a) (at_element h ys i q o) v e =
    let r = open_front ys i (subst Open q o) in
    made-along ys (insert (after i) a) xs (inserts a) r.0 (r.1, v) (sym q) refl
made last xs (inserts a) (at_caret h ys q o) v e = made-along ys (insert head a) xs (inserts a) o (tt, v) (sym q) refl

unfit : (last : ℕ) (xs : List Step) (d : Action) → Tail last xs → suits last (action_deed d) ≡ false → Fits xs d → ⊥
unfolding action_deed
unfit last xs (assigns a) t e f = place_not last xs t e f
unfit last xs deletes t e f = place_not last xs t e f
unfit last xs (inserts a) (at_key h o n) e f = n f
unfit last xs (inserts a) (at_element h ys i q o) e f = omega (arith, leb-false 17 last e)
unfit last xs (inserts a) (at_caret h ys q o) e f = omega (arith, leb-false 17 last e)

-- The lines.

abbrev ends : Layout (Unit {0} × Action)
ends = then (fixed (ascii "\n")) actions

abbrev middle : Layout ((List ℕ × List Step) × (Unit {0} × Action))
middle = then ways ends

abbrev parts : Layout (Unit {0} × ((List ℕ × List Step) × (Unit {0} × Action)))
parts = then (fixed (ascii "at=")) middle

abbrev apart : List ℕ → Way → Unit {0} × ((List ℕ × List Step) × (Unit {0} × Action))
apart top w = (tt, ((top, steps_of w), (tt, action_of w)))

apart_text : (top : List ℕ) (w : Way) → edit_text top w ≡ parts.text (apart top w)
unfolding edit_text
apart_text top w =
    ap (λ t. ascii "at=" ++ t)
    (ap (λ t. hex top ++ (t ++ (byte "\n" ∷ do_text w))) (steps_text_lem w)
    ∙ (ap (λ t. hex top ++ (all_text (steps_of w) ++ (byte "\n" ∷ t))) (action_text_lem w)
    ∙ sym (append_assoc (hex top) (all_text (steps_of w)) (byte "\n" ∷ action_text (action_of w)))))

apart_valid : (top : List ℕ) (w : Way) → ValidEdit top w → parts.Valid (apart top w)
apart_valid top w v =
    (tt, ((v.first, (omega (arith, v.reach, steps_count w), steps_good w v.rest)), (tt, action_valid w v.rest)))

-- no edit stands there
abbrev pub Unsaid : List ℕ → Type 0
Unsaid bytes = (l : Lines) → ValidLines l → bytes ≡ lines_of l → ⊥

whole : (s : List ℕ) (a : ℕ) (l : Lines) → drop a s ≡ lines_of l → drop a s ≡ parts.text (apart l.top l.way) ++ []
whole s a l e = e ∙ (apart_text l.top l.way ∙ sym (append-nil (parts.text (apart l.top l.way))))

nothing : (s : List ℕ) (a : ℕ) → Never parts s a → Unsaid (drop a s)
nothing s a h l v e = h.not (apart l.top l.way) [] (apart_valid l.top l.way v) tt (whole s a l e)

pub refused : (bytes : List ℕ) → Unsaid bytes → ReadsEdit bytes None
refused bytes n = record { says = says_nothing n; answers = tt }

module _ (s : List ℕ) (a : ℕ) where
  pub no_at : Never (fixed (ascii "at=")) s a → Unsaid (drop a s)
  no_at h = nothing s a (no_first (fixed (ascii "at=")) middle (λ x y t v m. tt) s a h)

  module _ (n : ℕ) (at : Took (fixed (ascii "at=")) s a tt n) where
    behind-at : Never middle s n → Unsaid (drop a s)
    behind-at h = nothing s a (no_second (fixed (ascii "at=")) middle (λ x y t v m. tt) s a tt n at h)

    pub no_way : Never ways s n → Unsaid (drop a s)
    no_way h = behind-at (no_first ways ends (λ x y t v m. refl) s n h)

    module _ (r : WayRead) (way : WayTook s n r) where
      behind_way : Never ends s r.next → Unsaid (drop a s)
      behind_way h = behind-at (no_second ways ends (λ x y t v m. refl) s n (way.top, way.xs) r.next way.took h)

      pub no_feed : Never (fixed (ascii "\n")) s r.next → Unsaid (drop a s)
      no_feed h = behind_way (no_first (fixed (ascii "\n")) actions (λ x y t v m. tt) s r.next h)

      module _ (o : ℕ) (feed : Took (fixed (ascii "\n")) s r.next tt o) where
        pub no_deed : Never actions s o → Unsaid (drop a s)
        no_deed h = behind_way (no_second (fixed (ascii "\n")) actions (λ x y t v m. tt) s r.next tt o feed h)

        module _ (d : Deed) (next : ℕ) (deed : DeedTook s o d next) where
          all : Took parts s a (tt, ((way.top, way.xs), (tt, deed.action))) next
          all =
              both (fixed (ascii "at=")) middle (λ x y t v m. tt) s a tt n at ((way.top, way.xs), (tt, deed.action)) next
              (both ways ends (λ x y t v m. refl) s n (way.top, way.xs) r.next way.took (tt, deed.action) next
              (both (fixed (ascii "\n")) actions (λ x y t v m. tt) s r.next tt o feed deed.action next deed.took))

          same : (l : Lines) → ValidLines l → drop a s ≡ lines_of l
              → (apart l.top l.way ≡ (tt, ((way.top, way.xs), (tt, deed.action)))) × ([] ≡ drop next s)
          same l v e = all.only (apart l.top l.way) [] (apart_valid l.top l.way v) tt (whole s a l e)

          pub bytes_behind : next < length s → Unsaid (drop a s)
          bytes_behind h l v e = omega (arith, length-drop next s, ap length (same l v e).1)

          pub unsuited : suits r.last d ≡ false → Unsaid (drop a s)
          unsuited h l v e =
              let q = (same l v e).0 in
              unfit r.last way.xs deed.action way.tail (ap (suits r.last) (sym deed.deed) ∙ h)
              (subst (λ (p : List Step × Action). Fits p.0 p.1) (λ i. ((q i).1.0.1, (q i).1.1.1)) (fits l.way v.rest))

          pub an_edit : length s ≤ next → suits r.last d ≡ true → ReadsEdit (drop a s) (Some (record { way = r.way; deed = d }))
          an_edit h e =
              record {
                says = says (record { top = way.top; way = m.way }) valid text;
                answers =
                    record {
                      keys = way.keys ∙ ap (λ t. pad 24 (key_words way.top ++ t)) (sym (steps_words m.way ∙ ap all_words m.steps));
                      count = way.count ∙ ap suc (sym (ap length m.steps) ∙ steps_count m.way);
                      deed = deed.deed ∙ sym (action_deed_lem m.way ∙ ap action_deed m.action);
                    };
              }
            where
              m : Made way.xs deed.action
              m = made r.last way.xs deed.action way.tail deed.took.valid (ap (suits r.last) (sym deed.deed) ∙ e)

              valid : ValidEdit way.top m.way
              valid =
                  record {
                    first = way.took.valid.0;
                    rest = m.valid;
                    reach = omega (arith, way.took.valid.1.0, ap length m.steps, steps_count m.way);
                  }

              text : drop a s ≡ edit_text way.top m.way
              text =
                  all.text
                  ∙ (ap (λ t. parts.text (tt, ((way.top, way.xs), (tt, deed.action))) ++ t) (drop_of_length-le s h)
                  ∙ (append-nil (parts.text (tt, ((way.top, way.xs), (tt, deed.action))))
                  ∙ (ap (λ xs. parts.text (tt, ((way.top, xs), (tt, deed.action)))) (sym m.steps)
                  ∙ (ap (λ x. parts.text (tt, ((way.top, steps_of m.way), (tt, x)))) (sym m.action) ∙ sym
                  (apart_text way.top m.way)))))
