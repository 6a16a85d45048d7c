-- The search for a key or an element by its three words. A key is at most 16 bytes long; in an element's third word stands 17.
-- Assumes nothing.
use Rattle.std.specs.Prelude.{ℕ, ◌≤◌, ◌<◌, ◌≡◌, Bool, cond, not, List, ltb, get_or}
use Rattle.std.proofs.Common.{arith, sym, ap, subst, ◌∙◌, lt-ltb, le-ltb}
use Rattle.meaning.specs.Valid.{ValidKey}
use Rattle.meaning.specs.Sheet.{Spot, in_map, in_list}
use Rattle.rows.specs.Blocks.{key_below, is_key, is_id}
use Rattle.tables.specs.Words.{spot_words}
use Rattle.tables.specs.Finds.{GoodSpot, Agrees, Tells, want_key, want_element, key_agrees, element_agrees, key_tells, element_tells}
use Rattle.readers.specs.Hex.{words_in}
use Rattle.readers.specs.declared.Key.{Key}
use Rattle.tables.specs.declared.Aim.TheVariants as A
use Rattle.tables.specs.declared.Search.{Search}

unfoldable pub search_of : ℕ → Key → Search
search_of n k = record { aim = cond (ltb 16 k.len) A.Element A.Key; depth = n; key = k }

module _ (n : ℕ) (k : Key) where
  pub want_key_lem : k.len ≤ 16 → ◌≡◌ {A = Search} (record { aim = A.Key; depth = n; key = k }) (search_of n k)
  unfolding search_of
  want_key_lem h = rw (le-ltb 16 k.len h)

  pub want_element_lem : 16 < k.len → ◌≡◌ {A = Search} (record { aim = A.Element; depth = n; key = k }) (search_of n k)
  unfolding search_of
  want_element_lem h = rw (lt-ltb 16 k.len h)

-- by the words of a spot: which rows of the depth it goes over, and which it is for

abbrev pub pass_of : Spot → Spot → Bool
pass_of (in_map k) = key_below k
pass_of (in_list e) = λ p. not (is_id e p)

abbrev pub meant_of : Spot → Spot → Bool
meant_of (in_map k) = is_key k
meant_of (in_list e) = is_id e

same_key : (x : Key) (hi lo len : ℕ) → x.hi ≡ hi → x.lo ≡ lo → x.len ≡ len
    → ◌≡◌ {A = Key} (record { hi = hi; lo = lo; len = len }) x
same_key x hi lo len a b c = λ i. record { hi = sym a i; lo = sym b i; len = sym c i }

module _ (n : ℕ) (x : Key) where
  key_want : (k : List ℕ) → words_in x ≡ spot_words (in_map k) → ValidKey k → want_key n k ≡ search_of n x
  key_want k e v =
      let short : x.len ≤ 16 = omega (arith, v.short, ap (λ w. get_or w 2 0) e) in
      ap (λ y. record { aim = A.Key; depth = n; key = y }) (same_key x _ _ _ (cc) (cc) (cc)) ∙ want_key_lem n x short

  element_want : (e : ℕ) → words_in x ≡ spot_words (in_list e) → want_element n e ≡ search_of n x
  element_want e q =
      let long : 16 < x.len = omega (arith, ap (λ w. get_or w 2 0) q) in
      ap (λ y. record { aim = A.Element; depth = n; key = y }) (same_key x _ _ _ (cc) (cc) (cc)) ∙ want_element_lem n x long

  pub spot_agrees : (p : Spot) → words_in x ≡ spot_words p → GoodSpot p → Agrees (search_of n x) (pass_of p)
  spot_agrees (in_map k) e g = subst (λ w. Agrees w (key_below k)) (key_want k e g) (key_agrees n k g)
  spot_agrees (in_list i) e g = subst (λ w. Agrees w (λ p. not (is_id i p))) (element_want i e) (element_agrees n i)

  pub spot_tells : (p : Spot) → words_in x ≡ spot_words p → GoodSpot p → Tells (search_of n x) (meant_of p)
  spot_tells (in_map k) e g = subst (λ w. Tells w (is_key k)) (key_want k e g) (key_tells n k g)
  spot_tells (in_list i) e g = subst (λ w. Tells w (is_id i)) (element_want i e) (element_tells n i)
