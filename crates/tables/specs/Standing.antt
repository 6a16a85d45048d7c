-- Tables that hold rows: where a row's words stand, and a search from a row on. `found` is what `seek` is for.
-- Assumes nothing.
use Rattle.std.specs.Prelude.{ℕ, ◌+◌, ◌*◌, ◌≡◌, refl, Bool, List, [], ◌∷◌, ◌++◌, length, take, drop}
use Rattle.std.proofs.Common.{arith, sym, ap, ◌∙◌, append_assoc, length-append}
use Rattle.std.proofs.Math.Seq.{take-append_seam, drop-append_seam}
use Rattle.meaning.specs.Sheet.{Spot, in_map, in_list, Row}
use Rattle.rows.specs.Blocks.{passed, over}
use Rattle.tables.specs.Words.{spot_words, head_word, heads_of, keys_of}
use Rattle.tables.specs.Seek.{seek_words, sought}
use Rattle.tables.specs.Finds.{AllNarrow, next_row, after, Agrees, finds}
use Rattle.tables.specs.declared.Position.{Position}
use Rattle.tables.specs.declared.Search.{Search}

-- the place of the first row, and that behind some rows at the start of the tables
abbrev pub first : Position
first = record { row = 0; mark = 0; value = 0 }

abbrev pub behind : List Row → Position
behind rs = after first rs

pub after_more : (s : Position) (a b : List Row) → after s (a ++ b) ≡ after (after s a) b
unfolding after
after_more s [] b = refl
after_more s (r ∷ a) b = after_more (next_row s r) a b

pub after_row : (s : Position) (a : List Row) → (after s a).row ≡ s.row + length a
unfolding after
after_row s [] = omega arith
after_row s (r ∷ a) = omega (arith, after_row (next_row s r) a)

behind_row : (a : List Row) → (behind a).row ≡ length a
behind_row a = after_row first a ∙ (let z : 0 + length a ≡ length a = omega arith in z)

pub heads-append : (a b : List Row) → heads_of (a ++ b) ≡ heads_of a ++ heads_of b
unfolding heads_of
heads-append [] b = refl
heads-append (r ∷ a) b = ap (head_word r ∷◌) (heads-append a b)

pub keys-append : (a b : List Row) → keys_of (a ++ b) ≡ keys_of a ++ keys_of b
unfolding keys_of
keys-append [] b = refl
keys-append (r ∷ a) b = ap (spot_words r.spot ++◌) (keys-append a b) ∙ sym (append_assoc (spot_words r.spot) (keys_of a) (keys_of b))

pub heads-length : (a : List Row) → length (heads_of a) ≡ length a
unfolding heads_of
heads-length [] = refl
heads-length (r ∷ a) = omega (arith, heads-length a)

pub three_words : (p : Spot) → length (spot_words p) ≡ 3
three_words (in_map k) = refl
three_words (in_list i) = refl

pub keys_length : (a : List Row) → length (keys_of a) ≡ 3 * length a
unfolding keys_of
keys_length [] = refl
keys_length (r ∷ a) = omega (arith, keys_length a, length-append (spot_words r.spot) (keys_of a), three_words r.spot)

module _ (a b : List Row) (hs ks : List ℕ) where
  -- the heads of the rows b, which stand behind the rows a and before other words
  heads_from : drop (length a) (take (length (a ++ b)) (heads_of (a ++ b) ++ hs)) ≡ heads_of b
  heads_from =
      ap (λ n. drop (length a) (take n (heads_of (a ++ b) ++ hs))) (sym (heads-length (a ++ b)))
      ∙ (ap (drop (length a)) (take-append_seam (heads_of (a ++ b)) hs ∙ heads-append a b)
      ∙ (ap (λ n. drop n (heads_of a ++ heads_of b)) (sym (heads-length a)) ∙ drop-append_seam (heads_of a) (heads_of b)))

  pub keys_from_lem : drop (3 * length a) (keys_of (a ++ b) ++ ks) ≡ keys_of b ++ ks
  keys_from_lem =
      ap (λ n. drop n (keys_of (a ++ b) ++ ks)) (sym (keys_length a))
      ∙ (ap (λ l. drop (length (keys_of a)) (l ++ ks)) (keys-append a b)
      ∙ (ap (drop (length (keys_of a))) (append_assoc (keys_of a) (keys_of b) ks) ∙ drop-append_seam (keys_of a) (keys_of b ++ ks)))

  -- a search from the first of the rows b stops behind those that it goes over
  pub found : (w : Search) (pass : Spot → Bool) → Agrees w pass → AllNarrow b
      → sought w (heads_of (a ++ b) ++ hs) (keys_of (a ++ b) ++ ks) (length (a ++ b)) (behind a)
      ≡ behind (a ++ passed (over w.depth pass) b)
  found w pass agrees h =
      ap
      (λ n. seek_words w (drop n (take (length (a ++ b)) (heads_of (a ++ b) ++ hs))) (drop (3 * n) (keys_of (a ++ b) ++ ks)) (behind a))
      (behind_row a)
      ∙ (ap (λ l. seek_words w l (drop (3 * length a) (keys_of (a ++ b) ++ ks)) (behind a)) heads_from
      ∙ (ap (λ l. seek_words w (heads_of b) l (behind a)) keys_from_lem
      ∙ (finds w pass agrees b h ks (behind a) ∙ sym (after_more first a (passed (over w.depth pass) b)))))
