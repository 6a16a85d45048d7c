-- The first key of a way that goes on: the search for it, and what the way does there. Keys and element ids are one case.
-- Assumes nothing.
use Rattle.std.specs.Prelude.{ℕ, suc, ◌+◌, ◌≤◌, ◌<◌, ◌≡◌, Bool, true, false, cond, List, ◌∷◌, ltb, eqb, drop}
use Rattle.std.proofs.Common.{arith, sym, ◌∙◌, true≢false, lt-ltb, le-ltb, ne_eqb}
use Rattle.std.proofs.Math.Path.{refl, ap, subst}
use Rattle.std.proofs.Math.ListN.{length, get_or}
use Rattle.meaning.specs.Ways.{Prev, head, after, Assigned, Way, assign, delete, insert, into_map, into_list, makes, steps}
use Rattle.meaning.specs.Valid.{ValidKey, ValidWay}
use Rattle.meaning.specs.Sheet.{Spot, in_map, in_list, Row}
use Rattle.rows.specs.Blocks.{run_block, at_key_rows, at_element_rows}
use Rattle.rows.specs.Within.{under_rows, GoesOn, of_list}
use Rattle.readers.specs.Words.{pack}
use Rattle.message.specs.Means.{prev_words, way_words, deed_of}
use Rattle.message.specs.declared.Deed.{Deed}
use Rattle.tables.specs.Finds.{Agrees, Tells}
use Rattle.readers.specs.declared.Key.{Key}
use Rattle.tables.specs.Wants.{search_of, pass_of, meant_of, want_key_lem, spot_agrees, spot_tells}
use Rattle.tables.specs.declared.Counts.{Counts}
use Rattle.deeds.specs.Deeds.{is_insert, may_make, inserts_here}
use Rattle.descend.specs.Reach.{changing}
use Rattle.descend.specs.Doing.{Making}

-- A way's words: three for each key.

pub words_long : (w : Way) → GoesOn w → 3 ≤ length (way_words w)
unfolding way_words prev_words
words_long (assign a) g = absurd g
words_long delete g = absurd g
words_long (insert head a) g = omega arith
words_long (insert (after e) a) g = omega arith
words_long (into_map k w) g = omega arith
words_long (into_list e w) g = omega arith

-- a way without words ends here
pub words_none : (w : Way) → length (way_words w) < 3 → (P : Way → Type 0) → ((a : Assigned) → P (assign a)) → P delete → P w
words_none (assign a) l P x y = x a
words_none delete l P x y = y
words_none (insert p a) l P x y = absurd (omega (arith, words_long (insert p a) tt))
words_none (into_map k w) l P x y = absurd (omega (arith, words_long (into_map k w) tt))
words_none (into_list e w) l P x y = absurd (omega (arith, words_long (into_list e w) tt))

pub goes_on : (w : Way) → 0 < length (way_words w) → GoesOn w
unfolding way_words
goes_on (assign a) l = absurd (omega arith)
goes_on delete l = absurd (omega arith)
goes_on (insert p a) l = tt
goes_on (into_map k w) l = tt
goes_on (into_list e w) l = tt

-- the third word tells a map key from what is in a list
pub third_word : (w : Way) → GoesOn w → ValidWay w → ltb 16 (get_or (way_words w) 2 0) ≡ of_list w
unfolding way_words prev_words
third_word (assign a) g v = absurd g
third_word delete g v = absurd g
third_word (insert head a) g v = refl
third_word (insert (after e) a) g v = refl
third_word (into_map k w) g v = le-ltb 16 (length k) v.0.short
third_word (into_list e w) g v = refl

-- whether a place is made, by the words that are left behind its key
make_going : (w : Way) (n : ℕ) → n ≤ 16 → GoesOn w → may_make n (length (way_words w)) (deed_of w) ≡ true
unfolding may_make
make_going w n h g = rw (le-ltb 16 n h, lt-ltb 0 (length (way_words w)) (omega (arith, words_long w g)))

pub make_key : (w : Way) (n : ℕ) → n ≤ 16 → may_make n (length (way_words w)) (deed_of w) ≡ makes w
unfolding may_make way_words makes deed_of
make_key (assign a) n h = rw (le-ltb 16 n h)
make_key delete n h = rw (le-ltb 16 n h)
make_key (insert head a) n h = make_going (insert head a) n h tt
make_key (insert (after e) a) n h = make_going (insert (after e) a) n h tt
make_key (into_map k w) n h = make_going (into_map k w) n h tt
make_key (into_list e w) n h = make_going (into_list e w) n h tt

no_insert : (p : Prev) (a : Assigned) (ks : List ℕ) (deed : Deed) → ks ≡ way_words (insert p a) → deed ≡ deed_of (insert p a)
    → inserts_here (length ks) deed ≡ false → ⊥
unfolding way_words prev_words deed_of inserts_here
no_insert head a ks deed e q s =
    let t : inserts_here (length ks) deed ≡ true = rw (e, q) in
    true≢false (sym t ∙ s)
no_insert (after j) a ks deed e q s =
    let t : inserts_here (length ks) deed ≡ true = rw (e, q) in
    true≢false (sym t ∙ s)

long_not : (l : ℕ) (d : Deed) → 3 < l → inserts_here l d ≡ false
unfolding inserts_here
long_not l d h = rw (ne_eqb l 3 (λ e. omega (arith, e, h)))

last_not : (w : Way) → is_insert (deed_of w) ≡ true → GoesOn w
unfolding deed_of
last_not (assign a) e = true≢false (sym e)
last_not delete e = true≢false (sym e)
last_not (insert p a) e = tt
last_not (into_map k w) e = tt
last_not (into_list j w) e = tt

deed_inserts : (l : ℕ) (d : Deed) → inserts_here l d ≡ true → is_insert d ≡ true
unfolding inserts_here
deed_inserts l d e = go (eqb l 3) e
  where
    go : (b : Bool) → cond b (is_insert d) false ≡ true → is_insert d ≡ true
    go true e = e
    go false e = absurd (true≢false (sym e))

-- where the last key is a predecessor the way is an insert
pub inserts_only : (w : Way) → inserts_here (length (way_words w)) (deed_of w) ≡ true → (P : Way → Type 0)
    → ((p : Prev) (a : Assigned) → P (insert p a)) → P w
unfolding way_words deed_of
inserts_only (assign a) e P x = absurd (true≢false (sym (deed_inserts _ _ e)))
inserts_only delete e P x = absurd (true≢false (sym (deed_inserts _ _ e)))
inserts_only (insert p a) e P x = x p a
inserts_only (into_map k w) e P x =
    let g = words_long w (last_not w (deed_inserts _ _ e)) in
    absurd (true≢false (sym e ∙ long_not _ (deed_of w) (omega (arith, g))))
inserts_only (into_list j w) e P x =
    let g = words_long w (last_not w (deed_inserts _ _ e)) in
    absurd (true≢false (sym e ∙ long_not _ (deed_of w) (omega (arith, g))))

-- a key by its three words
abbrev pub three_key : ℕ → ℕ → ℕ → Key
three_key hi lo len = record { hi = hi; lo = lo; len = len }

-- The first key of a way w, of rows of depth n.
pub record Goes (i : ℕ) (d : List ℕ) (n hi lo len left : ℕ) (deed : Deed) (w : Way) : Type 0 where
  pub next : Way
  pub pass : Spot → Bool
  pub meant : Spot → Bool
  pub spot : Spot
  pub agrees : Agrees (search_of n (three_key hi lo len)) pass
  pub tells : Tells (search_of n (three_key hi lo len)) meant
  pub making : (c : Counts) → c.rows < 264 → n ≤ 8 → may_make len left deed ≡ true → Making (search_of n (three_key hi lo len)) spot c
  pub change : (B : List Row) → under_rows i d n w B ≡ changing n pass meant (may_make len left deed) spot B (run_block i d n next)
  pub words : way_words w ≡ hi ∷ lo ∷ len ∷ way_words next
  pub valid : ValidWay next
  pub deed_same : deed_of w ≡ deed_of next
  pub one_more : steps w ≡ suc (steps next)

module _ (i : ℕ) (d : List ℕ) (n : ℕ) where
  goes_key : (k : List ℕ) (w : Way) → ValidKey k → ValidWay w
      → Goes i d n (pack 8 k) (pack 8 (drop 8 k)) (length k) (length (way_words w)) (deed_of w) (into_map k w)
  unfolding under_rows at_key_rows way_words deed_of steps
  goes_key k w vk vw =
      let q = want_key_lem n (three_key (pack 8 k) (pack 8 (drop 8 k)) (length k)) vk.short in
      record {
        next = w;
        pass = pass_of (in_map k);
        meant = meant_of (in_map k);
        spot = in_map k;
        agrees = spot_agrees n _ (in_map k) refl vk;
        tells = spot_tells n _ (in_map k) refl vk;
        making = λ c r nd m. subst (λ x. Making x (in_map k) c) q
            (record { words = refl; good = vk; under = refl; deep = nd; room = r });
        change = λ B. rw (make_key w (length k) vk.short);
        words = refl;
        valid = vw;
        deed_same = refl;
        one_more = refl;
      }

  goes_element : (e : ℕ) (w : Way) → ValidWay w → Goes i d n e 0 17 (length (way_words w)) (deed_of w) (into_list e w)
  unfolding under_rows at_element_rows way_words deed_of steps may_make
  goes_element e w vw = record {
    next = w;
    pass = pass_of (in_list e);
    meant = meant_of (in_list e);
    spot = in_list e;
    agrees = spot_agrees n (three_key e 0 17) (in_list e) refl tt;
    tells = spot_tells n (three_key e 0 17) (in_list e) refl tt;
    making = λ c r nd m. absurd (true≢false (sym m));
    change = λ B. refl;
    words = refl;
    valid = vw;
    deed_same = refl;
    one_more = refl;
  }

  -- the first three words of a way that isn't an insert
  pub goes : (hi lo len left : ℕ) (ks : List ℕ) (deed : Deed) (w : Way) → ks ≡ way_words w → deed ≡ deed_of w → ValidWay w
      → 3 ≤ length ks → inserts_here (length ks) deed ≡ false → hi ≡ get_or ks 0 0 → lo ≡ get_or ks 1 0 → len ≡ get_or ks 2 0
      → left + 3 ≡ length ks → Goes i d n hi lo len left deed w
  unfolding way_words deed_of
  goes hi lo len left ks deed (assign a) e q v l s x y z t = absurd (omega (arith, ap length e))
  goes hi lo len left ks deed delete e q v l s x y z t = absurd (omega (arith, ap length e))
  goes hi lo len left ks deed (insert p a) e q v l s x y z t = absurd (no_insert p a ks deed e q s)
  goes hi lo len left ks deed (into_map k w) e q v l s x y z t =
      let a : left ≡ length (way_words w) = omega (arith, t, ap length e) in
      rw (x ∙ ap (λ l. get_or l 0 0) e, y ∙ ap (λ l. get_or l 1 0) e, z ∙ ap (λ l. get_or l 2 0) e, a, q) (goes_key k w v.0 v.1)
  goes hi lo len left ks deed (into_list j w) e q v l s x y z t =
      let a : left ≡ length (way_words w) = omega (arith, t, ap length e) in
      rw (x ∙ ap (λ l. get_or l 0 0) e, y ∙ ap (λ l. get_or l 1 0) e, z ∙ ap (λ l. get_or l 2 0) e, a, q) (goes_element j w v.1)
