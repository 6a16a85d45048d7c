-- The laws of a map: the order of keys; changes at two keys commute, whatever keys it has; clearing.
-- Assumes nothing.
use Rattle.std.specs.Prelude.{ℕ, ◌<◌, ◌≡◌, refl, Bool, true, false, List, [], ◌∷◌, ◌≢◌}
use Rattle.std.proofs.Common.{arith, sym, ap, ◌∙◌, lt-ltb, le-ltb}
use Rattle.meaning.specs.Places.{before, equal, beyond, order, Place, Children, childless, child, bare}
use Rattle.meaning.specs.Apply.{at_key}
use Rattle.meaning.specs.Clear.{clear, clear_children}
use Rattle.theorems.specs.Decide.{Tri, less, same, more, tri}

-- The order of keys.

turn_less : (x y : ℕ) (xs ys : List ℕ) → x < y → order (x ∷ xs) (y ∷ ys) ≡ before
unfolding order
turn_less x y xs ys h = rw (lt-ltb x y h, order)

turn_more : (x y : ℕ) (xs ys : List ℕ) → y < x → order (x ∷ xs) (y ∷ ys) ≡ beyond
unfolding order
turn_more x y xs ys h = rw (le-ltb x y (omega arith), lt-ltb y x h, order)

turn_same : (x y : ℕ) (xs ys : List ℕ) → x ≡ y → order (x ∷ xs) (y ∷ ys) ≡ order xs ys
unfolding order
turn_same x y xs ys h = rw (le-ltb x y (omega arith), le-ltb y x (omega arith), order)

turn-short : (y : ℕ) (ys : List ℕ) → order [] (y ∷ ys) ≡ before
unfolding order
turn-short y ys = refl

turn_long : (y : ℕ) (ys : List ℕ) → order (y ∷ ys) [] ≡ beyond
unfolding order
turn_long y ys = refl

turn_nil : order [] [] ≡ equal
unfolding order
turn_nil = refl

pub order_self : (a : List ℕ) → order a a ≡ equal
order_self [] = turn_nil
order_self (x ∷ a) = simp (turn_same x x a a refl) (order_self a)

pub data TriK (a b : List ℕ) : Type 0 where
  less_k : order a b ≡ before → order b a ≡ beyond → TriK a b
  same_k : a ≡ b → TriK a b
  more_k : order a b ≡ beyond → order b a ≡ before → TriK a b

pub tri_k : (a b : List ℕ) → TriK a b
tri_k [] [] = same_k refl
tri_k [] (y ∷ b) = less_k (turn-short y b) (turn_long y b)
tri_k (x ∷ a) [] = more_k (turn_long x a) (turn-short x a)
tri_k (x ∷ a) (y ∷ b) = go (tri x y) (tri_k a b)
  where
    go : Tri x y → TriK a b → TriK (x ∷ a) (y ∷ b)
    go (less p) t = less_k (turn_less x y a b p) (turn_more y x b a p)
    go (same p) (less_k e f) = less_k (turn_same x y a b p ∙ e) (turn_same y x b a (sym p) ∙ f)
    go (same p) (same_k e) = same_k (cc)
    go (same p) (more_k e f) = more_k (turn_same x y a b p ∙ e) (turn_same y x b a (sym p) ∙ f)
    go (more p) t = more_k (turn_more x y a b p) (turn_less y x b a p)

no_beyond : before ≡ beyond → ⊥
no_beyond e = let z : ◌≡◌ {A = ℕ} 0 1 = cc in omega arith

no_equal : before ≡ equal → ⊥
no_equal e = let z : ◌≡◌ {A = ℕ} 0 1 = cc in omega arith

pub order_trans : (a b c : List ℕ) → order a b ≡ before → order b c ≡ before → order a c ≡ before
order_trans [] [] c e f = absurd (no_equal (sym e ∙ turn_nil))
order_trans [] (y ∷ b) [] e f = absurd (no_beyond (sym f ∙ turn_long y b))
order_trans [] (y ∷ b) (z ∷ c) e f = turn-short z c
order_trans (x ∷ a) [] c e f = absurd (no_beyond (sym e ∙ turn_long x a))
order_trans (x ∷ a) (y ∷ b) [] e f = absurd (no_beyond (sym f ∙ turn_long y b))
order_trans (x ∷ a) (y ∷ b) (z ∷ c) e f = go (tri x y) (tri y z) (λ p q. order_trans a b c p q)
  where
    go : Tri x y → Tri y z → (order a b ≡ before → order b c ≡ before → order a c ≡ before) → order (x ∷ a) (z ∷ c) ≡ before
    go (less p) (less q) r = turn_less x z a c (omega arith)
    go (less p) (same q) r = turn_less x z a c (omega arith)
    go (less p) (more q) r = absurd (no_beyond (sym f ∙ turn_more y z b c q))
    go (same p) (less q) r = turn_less x z a c (omega arith)
    go (same p) (same q) r = turn_same x z a c (p ∙ q) ∙ r (sym (turn_same x y a b p) ∙ e) (sym (turn_same y z b c q) ∙ f)
    go (same p) (more q) r = absurd (no_beyond (sym f ∙ turn_more y z b c q))
    go (more p) q r = absurd (no_beyond (sym e ∙ turn_more x y a b p))

-- The clauses of `at_key`.

-- what comes before the greater keys, if an unknown place is made
pub make : Bool → List ℕ → (Place → Place) → Children → Children
make true k f ks = child k (f bare) ks
make false k f ks = ks

pub make_yes : (k : List ℕ) (f : Place → Place) (ks : Children) → make true k f ks ≡ child k (f bare) ks
unfolding make
make_yes k f ks = refl

pub make_no : (k : List ℕ) (f : Place → Place) (ks : Children) → make false k f ks ≡ ks
unfolding make
make_no k f ks = refl

pub key_childless : (b : Bool) (k : List ℕ) (f : Place → Place) → at_key b k f childless ≡ make b k f childless
unfolding at_key make
key_childless true k f = refl
key_childless false k f = refl

pub key_less : (b : Bool) (k : List ℕ) (f : Place → Place) (j : List ℕ) (c : Place) (ks : Children) → order k j ≡ before
    → at_key b k f (child j c ks) ≡ make b k f (child j c ks)
unfolding at_key make
key_less true k f j c ks h = rw (h, at_key)
key_less false k f j c ks h = rw (h, at_key)

pub key_same : (b : Bool) (k : List ℕ) (f : Place → Place) (j : List ℕ) (c : Place) (ks : Children) → order k j ≡ equal
    → at_key b k f (child j c ks) ≡ child j (f c) ks
unfolding at_key
key_same b k f j c ks h = rw (h, at_key)

pub key_more : (b : Bool) (k : List ℕ) (f : Place → Place) (j : List ℕ) (c : Place) (ks : Children) → order k j ≡ beyond
    → at_key b k f (child j c ks) ≡ child j c (at_key b k f ks)
unfolding at_key
key_more b k f j c ks h = rw (h, at_key)

-- Changes at two keys.

key_make : (b : Bool) (k : List ℕ) (f : Place → Place) (a : Bool) (j : List ℕ) (g : Place → Place) (ks : Children) → order j k ≡ beyond
    → at_key a j g (make b k f ks) ≡ make b k f (at_key a j g ks)
key_make true k f a j g ks h = simp (make_yes, key_more)
key_make false k f a j g ks h = simp make_no

under_childless : (b : Bool) (k : List ℕ) (f : Place → Place) (a : Bool) (j : List ℕ) (g : Place → Place) → order k j ≡ before
    → at_key b k f (make a j g childless) ≡ make b k f (make a j g childless)
under_childless b k f true j g h = simp (make_yes, key_less)
under_childless b k f false j g h = simp (make_no, key_childless)

under_child : (b : Bool) (k : List ℕ) (f : Place → Place) (a : Bool) (j : List ℕ) (g : Place → Place) (i : List ℕ) (c : Place)
    (ks : Children) → order k j ≡ before → order k i ≡ before
    → at_key b k f (make a j g (child i c ks)) ≡ make b k f (make a j g (child i c ks))
under_child b k f true j g i c ks h h' = simp (make_yes, key_less)
under_child b k f false j g i c ks h h' = simp (make_no, key_less)

key_lt : (b : Bool) (k : List ℕ) (f : Place → Place) (a : Bool) (j : List ℕ) (g : Place → Place) (ks : Children) → order k j ≡ before
    → order j k ≡ beyond → at_key b k f (at_key a j g ks) ≡ at_key a j g (at_key b k f ks)
key_lt b k f a j g childless h h' = simp (key_childless, under_childless, key_make)
key_lt b k f a j g (child i c ks) h h' = go (tri_k k i) (tri_k j i) (key_lt b k f a j g ks h h')
  where
    go : TriK k i → TriK j i → at_key b k f (at_key a j g ks) ≡ at_key a j g (at_key b k f ks)
        → at_key b k f (at_key a j g (child i c ks)) ≡ at_key a j g (at_key b k f (child i c ks))
    go (less_k p p') (less_k q q') r = simp (key_less, key_make, under_child)
    go (less_k p p') (same_k q) r = let q' : order j i ≡ equal = rw q (order_self i) in simp (key_less, key_make, key_same)
    go (less_k p p') (more_k q q') r = simp (key_less, key_make, key_more)
    go (same_k p) (less_k q q') r = absurd (no_beyond (sym q ∙ rw p at h'))
    go (same_k p) (same_k q) r = absurd (no_beyond (cc))
    go (same_k p) (more_k q q') r = let p' : order k i ≡ equal = rw p (order_self i) in simp (key_same, key_more)
    go (more_k p p') (less_k q q') r = absurd (no_beyond (sym (order_trans k j i h q) ∙ p))
    go (more_k p p') (same_k q) r = absurd (no_beyond (sym h ∙ (rw (sym q) at p)))
    go (more_k p p') (more_k q q') r = simp (key_more, r)

pub key_key : (b : Bool) (k : List ℕ) (f : Place → Place) (a : Bool) (j : List ℕ) (g : Place → Place) (ks : Children) → k ≢ j
    → at_key b k f (at_key a j g ks) ≡ at_key a j g (at_key b k f ks)
key_key b k f a j g ks n = go (tri_k k j)
  where
    go : TriK k j → at_key b k f (at_key a j g ks) ≡ at_key a j g (at_key b k f ks)
    go (less_k p q) = key_lt b k f a j g ks p q
    go (same_k e) = absurd (n e)
    go (more_k p q) = sym (key_lt a j g b k f ks q p)

pub less_ne : (k j : List ℕ) → order k j ≡ before → k ≢ j
less_ne k j p q = no_equal (sym p ∙ rw q (order_self j))

-- Two changes at one key.

-- where no place is made, a bare one is left bare
abbrev pub Meek : Bool → (Place → Place) → Type 0
Meek b f = b ≡ false → f bare ≡ bare

made : (b : Bool) (k : List ℕ) (f : Place → Place) (a : Bool) (g : Place → Place) (ks : Children) → ((c : Place) → f (g c) ≡ g (f c))
    → Meek b f → Meek a g → ((b : Bool) (f : Place → Place) → at_key b k f ks ≡ make b k f ks)
    → at_key b k f (make a k g ks) ≡ at_key a k g (make b k f ks)
made true k f true g ks h u v e = let s = order_self k in simp (make_yes, key_same, h)
made true k f false g ks h u v e =
    let s = order_self k in
    simp (make_yes, make_no, e, key_same) (ap (λ c. child k c ks) (sym (sym (h bare) ∙ ap f (v refl))))
made false k f true g ks h u v e =
    let s = order_self k in
    simp (make_yes, make_no, e, key_same) (ap (λ c. child k c ks) (h bare ∙ ap g (u refl)))
made false k f false g ks h u v e = simp (make_no, e)

pub key_both : (b : Bool) (k : List ℕ) (f : Place → Place) (a : Bool) (g : Place → Place) (ks : Children)
    → ((c : Place) → f (g c) ≡ g (f c)) → Meek b f → Meek a g → at_key b k f (at_key a k g ks) ≡ at_key a k g (at_key b k f ks)
key_both b k f a g childless h u v = simp key_childless (made b k f a g childless h u v (λ b f. key_childless b k f))
key_both b k f a g (child j c ks) h u v = go (tri_k k j) (key_both b k f a g ks h u v)
  where
    go : TriK k j → at_key b k f (at_key a k g ks) ≡ at_key a k g (at_key b k f ks)
        → at_key b k f (at_key a k g (child j c ks)) ≡ at_key a k g (at_key b k f (child j c ks))
    go (less_k p q) r = simp key_less (made b k f a g (child j c ks) h u v (λ b f. key_less b k f j c ks p))
    go (same_k e) r = let s : order k j ≡ equal = rw e (order_self j) in simp (key_same, h)
    go (more_k p q) r = simp (key_more, r)

-- Clearing.

pub clear_childless : (d : List ℕ) → clear_children d childless ≡ childless
unfolding clear_children
clear_childless d = refl

pub clear_child : (d : List ℕ) (k : List ℕ) (c : Place) (ks : Children)
    → clear_children d (child k c ks) ≡ child k (clear d c) (clear_children d ks)
unfolding clear_children
clear_child d k c ks = refl

clear_make : (d : List ℕ) (b : Bool) (k : List ℕ) (f : Place → Place) (ks : Children) → clear d (f bare) ≡ f bare
    → clear_children d (make b k f ks) ≡ make b k f (clear_children d ks)
clear_make d true k f ks h = simp (make_yes, clear_child, h)
clear_make d false k f ks h = simp make_no

pub clear_at_key : (d : List ℕ) (b : Bool) (k : List ℕ) (f : Place → Place) (ks : Children) → ((c : Place) → clear d (f c) ≡ f (clear d c))
    → clear d (f bare) ≡ f bare → clear_children d (at_key b k f ks) ≡ at_key b k f (clear_children d ks)
clear_at_key d b k f childless h u = simp (key_childless, clear_childless, clear_make)
clear_at_key d b k f (child j c ks) h u = go (tri_k k j) (clear_at_key d b k f ks h u)
  where
    go : TriK k j → clear_children d (at_key b k f ks) ≡ at_key b k f (clear_children d ks)
        → clear_children d (at_key b k f (child j c ks)) ≡ at_key b k f (clear_children d (child j c ks))
    go (less_k p q) r = simp (key_less, clear_child, clear_make)
    go (same_k e) r = let s : order k j ≡ equal = rw e (order_self j) in simp (key_same, clear_child, h)
    go (more_k p q) r = simp (key_more, clear_child, r)
