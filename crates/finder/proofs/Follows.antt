-- Following a way in tables that hold rows: one key, and what comes behind it.
-- Assumes nothing.
use Prim.Native.Nat.{ℕ, suc, ◌+◌, ◌-◌, ◌≤◌, ◌<◌}
use native.Mathlib.Omega.{arith}
use native.Mathlib.Numerals.{add-one}
use mathlib.Core.Path.{◌≡◌, refl, sym, ap, ◌∙◌, subst}
use mathlib.Core.Bool.{Bool, true, false, true≢false}
use borrow.Author.Tests.{eqb-true, eq-eqb}
use lib.Dec.{eqb}
use mathlib.Core.List.{List, [], ◌∷◌, ◌++◌, append_assoc}
use Rattle.std.specs.Prelude.{Option, None, Some, Ok, Err, is_some, unwrap_or}
use lib.ListN.{length, take, drop, get_or, length-append, length-drop}
use lib.Seq.{take_all}
use Rattle.meaning.specs.Places.{Place}
use Rattle.meaning.specs.Judge.{Found, found, unknown}
use Rattle.meaning.specs.Read.{Trail, here, by_key, by_element, trail_steps, ValidTrail, missing, entered, follow}
use Rattle.meaning.specs.Sheet.{Spot, in_map, in_list, Row, row_of, rows_of}
use Rattle.meaning.specs.Sheet as Sheet
use Rattle.rows.specs.Locate.{Located, is_located, locate, locate_key, locate_element, as_block}
use Rattle.rows.specs.Sought.{onward, place_at, follow-onward, locate_spot, locate_place, root_place, seek-entered, root_rows}
use Rattle.rows.specs.Sought.{Stands, found_stands, no_block, row_marked, row_unmarked, entered-marked, entered_unmarked}
use Rattle.readers.specs.Hex.{words_in}
use Rattle.message.specs.Means.{trail_words}
use Rattle.tables.specs.Words.{spot_words}
use Rattle.tables.specs.Heads.{head_in, key_in, marks_said}
use Rattle.tables.specs.Finds.{GoodSpot, after}
use Rattle.tables.specs.Wants.{pass_of, meant_of, spot_agrees, spot_tells}
use Rattle.tables.specs.Seek.{Passes}
use Rattle.tables.specs.Standing.{first, behind, three_words}
use Rattle.tables.specs.Holding.{Holds, four}
use Rattle.tables.specs.Stands.{passes}
use Rattle.tables.specs.Placed.{placed}
use Rattle.tables.specs.declared.Head.{Head}
use Rattle.tables.specs.declared.Position.{Position}
use Rattle.finder.specs.declared.Absence.TheVariants as F
use Rattle.finder.specs.Looks as Looks
use Rattle.finder.specs.Looks.{Sees, standing, Looks}
use Rattle.finder.specs.Follows.{Followed, Leads, Follows, OnWay, FollowsUnder}

-- The words of a way: those of its first key, and the others.

first_words : (p : Spot) (words rest : List ℕ) → words ≡ spot_words p ++ rest → words_in (key_in words) ≡ spot_words p
first_words (in_map k) words rest e = ap (λ l. get_or l 0 0 ∷ get_or l 1 0 ∷ get_or l 2 0 ∷ []) e
first_words (in_list i) words rest e = ap (λ l. get_or l 0 0 ∷ get_or l 1 0 ∷ get_or l 2 0 ∷ []) e

other_words : (p : Spot) (words rest : List ℕ) → words ≡ spot_words p ++ rest → drop 3 words ≡ rest
other_words (in_map k) words rest e = ap (drop 3) e
other_words (in_list i) words rest e = ap (drop 3) e

long_way_lem : (p : Spot) (t : Trail) (words : List ℕ) → words ≡ spot_words p ++ trail_words t → 3 ≤ length words
long_way_lem p t words e = omega (arith, ap length e, length-append (spot_words p) (trail_words t), three_words p)

-- Whether words are left behind a key, as the code asks for it.
module _ (words : List ℕ) (b : Bool) (empty : b ≡ eqb (length (take (length words - 3) (drop 3 words))) 0) where
  left : length (take (length words - 3) (drop 3 words)) ≡ length words - 3
  left = ap length (take_all (length words - 3) (drop 3 words) (omega (arith, length-drop 3 words))) ∙ length-drop 3 words

  pub none_left : 3 ≤ length words → b ≡ true → length words ≡ 3
  none_left long t = omega (arith, left, eqb-true _ _ (sym empty ∙ t))

  pub some_left : b ≡ false → length words ≡ 3 → ⊥
  some_left f three = true≢false (sym (eq-eqb _ _ (omega (arith, left))) ∙ (sym empty ∙ f))

some≢none : {a : Position} → Some a ≡ None → ⊥
some≢none e = true≢false (ap is_some e)

-- One key: where the search among the rows under a place stops, the place under that key stands, or there is none.

locate_spot_lem : (n : ℕ) (p : Spot) (rs : List Row) → locate n (pass_of p) (meant_of p) rs ≡ locate_spot n p rs
unfolding locate_key locate_element
locate_spot_lem n (in_map k) rs = refl
locate_spot_lem n (in_list e) rs = refl

data Steps (rs : List Row) (n : ℕ) (s : Option Position) (p : Spot) (f : Found) : Type 0 where
  none : s ≡ None → f ≡ unknown → Steps rs n s p f
  one : (at : Position) (F : List Row) (y : Place) → s ≡ Some at → f ≡ found y → at ≡ behind F → Stands rs F n p y → Steps rs n s p f

sees_steps : (rs : List Row) (n : ℕ) (s : Option Position) (p : Spot) (f : Found) (l : Located) → l ≡ as_block n p f → Sees rs n s l
    → Steps rs n s p f
sees_steps rs n s p f l q (Looks.missing e y) = none e (no_block n p f (sym q ∙ y))
sees_steps rs n s p unknown l q (standing at F r R e a b z y) = absurd (true≢false (ap is_located (sym y ∙ q)))
sees_steps rs n s p (found x) l q (standing at F r R e a b z y) = one at F x e refl b (found_stands rs F n p x r R a (sym q ∙ y))

module _ (h k : List ℕ) (rows : ℕ) (from : Position) (n : ℕ) (words : List ℕ) where
  -- no way has so few words
  pub follows_short : length words < 3 → FollowsUnder h k rows from n words (Err F.Missing)
  follows_short l rs x p t U = absurd (omega (arith, long_way_lem p t words U.way))

  -- no way leads so deep
  pub follows_deep : 8 < n → FollowsUnder h k rows from n words (Err F.Missing)
  follows_deep l rs x p t U = absurd (omega (arith, U.few))

  module _ (s : Option Position) (look : Looks h k rows (Some from) n (key_in words) s) where
    step : (rs : List Row) (x : Place) (p : Spot) (t : Trail) → OnWay h k rows from n words rs x p t → Steps rs n s p (place_at p x)
    step rs x p t U =
        let us = Sheet.rows n x ++ U.back in
        let e = first_words p words (trail_words t) U.way in
        let H = subst (Holds (four h k U.marks U.values) U.counts) U.all U.holds in
        let S = look U.marks U.values U.counts U.front us (pass_of p) (meant_of p) H U.rows_are U.here
        (spot_agrees n (key_in words) p e U.good) (spot_tells n (key_in words) p e U.good) in
        let l : locate_spot n p us ≡ as_block n p (place_at p x) =
        rw U.deeper (locate_place U.depth p x U.back U.ends) in
        subst (λ rs. Steps rs n s p (place_at p x)) (sym U.all) (sees_steps _ n s p (place_at p x) _ (locate_spot_lem n p us ∙ l) S)

    pub follows_missing : s ≡ None → FollowsUnder h k rows from n words (Err F.Missing)
    unfolding entered
    follows_missing gone rs x p t U = go (step rs x p t U)
      where
        go : Steps rs n s p (place_at p x) → entered (follow t) (place_at p x) ≡ missing
        go (none e f) = ap (entered (follow t)) f
        go (one at F y e f b S) = absurd (some≢none (sym e ∙ gone))

    module _ (stop : Position) (there : s ≡ Some stop) (head : Head) (said : head ≡ head_in (get_or h stop.row 0)) where
      -- the place that was found: its marks are as many as its head says
      record At (rs : List Row) (x : Place) (p : Spot) : Type 0 where
        pub front : List Row
        pub place : Place
        pub is : place_at p x ≡ found place
        pub here : stop ≡ behind front
        pub stands : Stands rs front n p place
        pub marks : head.marks ≡ length (row_of n p place).marks

      at : (rs : List Row) (x : Place) (p : Spot) (t : Trail) → OnWay h k rows from n words rs x p t → At rs x p
      at rs x p t U = go (step rs x p t U)
        where
          go : Steps rs n s p (place_at p x) → At rs x p
          go (none e f) = absurd (some≢none (sym there ∙ e))
          go (one at F y e f b' S) =
              let b : stop ≡ behind F = ap (λ o. unwrap_or o stop) (sym there ∙ e) ∙ b' in
              let H = subst (Holds (four h k U.marks U.values) U.counts) S.all U.holds in
              record {
                front = F;
                place = y;
                is = f;
                here = b;
                stands = S;
                marks = marks_said said ∙ (placed (four h k U.marks U.values) U.counts stop F _ (row_of n p y) H b).marks;
              }

      pub follows_unmarked : head.marks ≡ 0 → FollowsUnder h k rows from n words (Err F.WithoutMarks)
      follows_unmarked e rs x p t U =
          let a = at rs x p t U in
          ap (entered (follow t)) a.is ∙ entered_unmarked (follow t) a.place (row_unmarked n p a.place (sym a.marks ∙ e))

      module _ (some : head.marks ≡ 0 → ⊥) where
        found_on : (rs : List Row) (x : Place) (p : Spot) (t : Trail) (a : At rs x p)
            → entered (follow t) (place_at p x) ≡ follow t a.place
        found_on rs x p t a =
            ap (entered (follow t)) a.is
            ∙ entered-marked (follow t) a.place (row_marked n p a.place (λ e. some (a.marks ∙ e)))

        pub follows_standing : length words ≡ 3 → FollowsUnder h k rows from n words (Ok stop)
        unfolding trail_words trail_steps follow
        follows_standing l rs x p here U =
            let a = at rs x p here U in
            let z : n + 0 ≡ n = omega arith in
            rw z (record {
              place = a.place;
              spot = p;
              front = a.front;
              is = found_on rs x p here a;
              here = a.here;
              stands = a.stands;
            })
        follows_standing l rs x p (by_key j t) U =
            absurd (omega (arith, ap length (other_words p words _ U.way), length-drop 3 words))
        follows_standing l rs x p (by_element e t) U =
            absurd (omega (arith, ap length (other_words p words _ U.way), length-drop 3 words))

        module _ (next : Position) (past : Passes h stop next) (r : Followed)
            (under : FollowsUnder h k rows next (n + 1) (take (length words - 3) (drop 3 words)) r) where
          -- the way goes on by q, and then by t
          goes_on : (rs : List Row) (x : Place) (p : Spot) (t : Trail) → OnWay h k rows from n words rs x p t → (q : Spot) (u : Trail)
              → drop 3 words ≡ spot_words q ++ trail_words u → GoodSpot q → ValidTrail u → n + suc (trail_steps u) ≤ 8 → t ≡ onward q u
              → Leads rs (n + suc (trail_steps u)) r (entered (follow t) (place_at p x))
          goes_on rs x p t U q u w g v few e =
              let a = at rs x p t U in
              let S = a.stands in
              let y = a.place in
              let own = row_of n p y in
              let T = four h k U.marks U.values in
              let H = subst (Holds T U.counts) S.all U.holds in
              let whole = take_all (length words - 3) (drop 3 words) (omega (arith, length-drop 3 words)) in
              let o = add-one n in
              let L = under rs y q u (record {
                marks = U.marks;
                values = U.values;
                counts = U.counts;
                holds = U.holds;
                rows_are = U.rows_are;
                front = a.front ++ own ∷ [];
                back = S.back;
                all = S.all ∙ (sym (append_assoc a.front (own ∷ []) _)
                    ∙ ap (λ i. (a.front ++ own ∷ []) ++ (Sheet.rows i y ++ S.back)) (sym o));
                here = passes h k U.marks U.values U.counts a.front _ own H stop next past a.here;
                depth = n;
                deeper = o;
                ends = S.ends;
                way = whole ∙ w;
                good = g;
                valid = v;
                few = omega (arith, few);
              }) in
              let i : n + 1 + trail_steps u ≡ n + suc (trail_steps u) = omega arith in
              let z : entered (follow u) (place_at q y) ≡ entered (follow t) (place_at p x) =
              sym (found_on rs x p t a ∙ (ap (λ t. follow t y) e ∙ follow-onward q u y)) in
              subst (λ i. Leads rs i r (entered (follow t) (place_at p x))) i
              (subst (λ f. Leads rs (n + 1 + trail_steps u) r f) z L)

          pub follows_on : (length words ≡ 3 → ⊥) → FollowsUnder h k rows from n words r
          unfolding trail_words trail_steps
          follows_on more rs x p here U =
              absurd (more (omega (arith, ap length (other_words p words _ U.way), length-drop 3 words, long_way_lem p here words U.way)))
          follows_on more rs x p (by_key j t) U =
              goes_on rs x p (by_key j t) U (in_map j) t (other_words p words _ U.way) U.valid.0 U.valid.1 U.few refl
          follows_on more rs x p (by_element e t) U =
              goes_on rs x p (by_element e t) U (in_list e) t (other_words p words _ U.way) tt U.valid.1 U.few refl

-- From the root.
pub follows_root : (h k : List ℕ) (rows : ℕ) (words : List ℕ) (r : Followed) → FollowsUnder h k rows first 1 words r
    → Follows h k rows words r
unfolding after
follows_root h k rows words r under m v c D w H q e ok =
    let L = under (rows_of D) (root_place D) (in_map w.top) w.trail (record {
      marks = m;
      values = v;
      counts = c;
      holds = H;
      rows_are = q;
      front = [];
      back = [];
      all = root_rows D;
      here = refl;
      depth = 0;
      deeper = refl;
      ends = tt;
      way = e;
      good = ok.first;
      valid = ok.rest;
      few = omega (arith, ok.reach);
    }) in
    let n = trail_steps w.trail in
    let i : 1 + n ≡ suc n = omega arith in
    subst (λ s. Leads (rows_of D) (suc n) r s) (sym (seek-entered w D))
    (subst (λ i. Leads (rows_of D) i r (entered (follow w.trail) (place_at (in_map w.top) (root_place D)))) i L)
