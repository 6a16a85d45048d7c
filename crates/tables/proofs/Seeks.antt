-- A search through the rows, one row a turn.
-- Assumes nothing.
use Prim.Native.Nat.{ℕ, suc, ◌+◌, ◌*◌, ◌/◌, ◌%◌, ◌≤◌, ◌<◌}
use native.Mathlib.Omega.{arith}
use native.Mathlib.Numerals.{add-one}
use mathlib.Core.Path.{◌≡◌, refl, sym, ap, ◌∙◌}
use mathlib.Core.Bool.{Bool, true, false}
use mathlib.Core.List.{List, [], ◌∷◌}
use lib.ListN.{get_or, take, drop, length-take, drop_of_length-le}
use lib.Seq.{drop-cons, get_or-take, get_or-drop, drop-drop}
use Rattle.tables.specs.declared.Head.{Head}
use Rattle.tables.specs.declared.Position.{Position}
use Rattle.tables.specs.declared.Search.{Search}
use Rattle.tables.specs.Heads.{head_in, key_in, key_at}
use Rattle.tables.specs.Seek.{goes_over, further, seek_words, Searches, sought}

-- one row
seek_cons : (w : Search) (h : ℕ) (hs ks : List ℕ) (s : Position) (b : Bool) → goes_over w (head_in h) (key_in ks) ≡ b
    → seek_words w (h ∷ hs) ks s ≡ elim b [ true ↦ seek_words w hs (drop 3 ks) (further s h) | false ↦ s ]
unfolding seek_words
seek_cons w h hs ks s b e = rw (e, seek_words)

seek_none : (w : Search) (ks : List ℕ) (s : Position) → seek_words w [] ks s ≡ s
unfolding seek_words
seek_none w ks s = refl

module _ (w : Search) (heads keys : List ℕ) (rows : ℕ) (s : Position) (ok : Searches heads keys rows s) where
  -- it is at the end
  pub sought_end : rows ≤ s.row → sought w heads keys rows s ≡ s
  sought_end h =
      let e = drop_of_length-le (take rows heads) {i = s.row} (omega (arith, length-take rows heads, ok.in_heads)) in
      ap (λ hs. seek_words w hs (drop (3 * s.row) keys) s) e ∙ seek_none w (drop (3 * s.row) keys) s

  module _ (lt : s.row < rows) where
    heads_here : drop s.row (take rows heads) ≡ get_or heads s.row 0 ∷ drop (suc s.row) (take rows heads)
    heads_here =
        drop-cons (take rows heads) s.row 0 (omega (arith, length-take rows heads, ok.in_heads))
        ∙ ap (◌∷ drop (suc s.row) (take rows heads)) (get_or-take rows heads s.row 0 lt)

    keys_here : key_in (drop (3 * s.row) keys) ≡ key_at keys s.row
    keys_here = λ i. record {
      hi = (get_or-drop (3 * s.row) keys 0 0 ∙ ap (λ n. get_or keys n 0) (let z : 3 * s.row + 0 ≡ 3 * s.row = omega arith in z)) i;
      lo = get_or-drop (3 * s.row) keys 1 0 i;
      len = get_or-drop (3 * s.row) keys 2 0 i;
    }

    seeks : (b : Bool) → goes_over w (head_in (get_or heads s.row 0)) (key_at keys s.row) ≡ b
        → sought w heads keys rows s
        ≡ elim b [
          | true ↦ seek_words w (drop (suc s.row) (take rows heads)) (drop 3 (drop (3 * s.row) keys)) (further s (get_or heads s.row 0))
          | false ↦ s
        ]
    seeks b e =
        ap (λ hs. seek_words w hs (drop (3 * s.row) keys) s) heads_here
        ∙ seek_cons w (get_or heads s.row 0) _ (drop (3 * s.row) keys) s b (ap (goes_over w (head_in (get_or heads s.row 0))) keys_here ∙ e)

    -- it stops here
    pub sought_stop : (h : Head) → h ≡ head_in (get_or heads s.row 0) → goes_over w h (key_at keys s.row) ≡ false
        → sought w heads keys rows s ≡ s
    sought_stop h q e = seeks false (ap (λ h. goes_over w h (key_at keys s.row)) (sym q) ∙ e)

    -- it goes on
    pub sought_on : (h : Head) → h ≡ head_in (get_or heads s.row 0) → goes_over w h (key_at keys s.row) ≡ true
        → sought w heads keys rows s ≡ sought w heads keys rows (further s (get_or heads s.row 0))
    sought_on h q e =
        let z : 3 * s.row + 3 ≡ 3 * (s.row + 1) = omega arith in
        let t = further s (get_or heads s.row 0) in
        seeks true (ap (λ h. goes_over w h (key_at keys s.row)) (sym q) ∙ e)
        ∙ (ap (λ ks. seek_words w (drop (suc s.row) (take rows heads)) ks t) (drop-drop 3 (3 * s.row) keys ∙ ap (λ n. drop n keys) z)
        ∙ ap (λ n. seek_words w (drop n (take rows heads)) (drop (3 * (s.row + 1)) keys) t) (sym (add-one s.row)))

    pub searches_on : Searches heads keys rows (further s (get_or heads s.row 0))
    searches_on =
        let h = get_or heads s.row 0 in
        let m : h / 128 % 2048 < 2048 = omega arith in
        let v : h / 262144 % 512 < 512 = omega arith in
        record {
          in_heads = ok.in_heads;
          in_keys = ok.in_keys;
          few = ok.few;
          begins = omega arith;
          marks = omega (arith, ok.marks, m);
          values = omega (arith, ok.values, v);
        }
