-- Values: their first letter says which kind they are.
-- Assumes nothing.
use Prim.Native.Nat.{ℕ, ◌+◌, ◌≤◌, ◌<◌}
use native.Mathlib.Omega.{arith}
use mathlib.Core.Path.{◌≡◌, refl, sym, ap, ◌∙◌, subst}
use mathlib.Core.Bool.{true, false}
use mathlib.Core.List.{List, [], ◌∷◌, ◌++◌}
use lib.IntN.{ℤ}
use lib.Dec.{eqb}
use Rattle.std.proofs.lemmas.List.{drop_more}
use Rattle.std.specs.Prelude.{Option, Some, None, MatchBool}
use lib.ListN.{length, get_or, drop, drop_of_length-le}
use Rattle.meaning.specs.Ascii.{byte}
use Rattle.meaning.specs.Places.{Plain, null, bool, integer, string}
use Rattle.meaning.specs.Ways.{Assigned, plain, empty_map, empty_list}
use Rattle.meaning.specs.Text.{integer_text, hex, plain_text, assigned_text}
use Rattle.decimal.specs.Take.{Layout, Took, Never, fixed}
use Rattle.readers.specs.Reads.{integers, strings, plains, assigned, MorePlain, MoreAssigned}
use Rattle.readers.specs.Given.{given_of, GivenTook, ReadsGiven, ReadsPlain, ReadsAssigned, ReadsNumberValue, ReadsBytesValue}
use Rattle.readers.specs.declared.Given.{Given}
use Rattle.readers.specs.declared.Given.TheVariants as G

-- The same answer, for another kind of value.
pub renamed : {X Y : Type 0} (L : Layout X) (of : X → Assigned) (M : Layout Y) (to : Y → Assigned) (s : List ℕ) (a b : ℕ) (f : X → Y)
    → ((x : X) → to (f x) ≡ of x) → ((x : X) (n : ℕ) → Took L s a x n → Took M s b (f x) n) → (Never L s a → Never M s b)
    → (r : Option (Given × ℕ)) → ReadsGiven L of s a r → ReadsGiven M to s b r
renamed L of M to s a b f same took none (Some (g, n)) k =
    record { value = f k.value; took = took k.value n k.took; given = k.given ∙ ap given_of (sym (same k.value)) }
renamed L of M to s a b f same took none None k = none k

-- Plain values: a letter, and what follows it.

letter : Plain → ℕ
letter null = byte "n"
letter (bool true) = byte "t"
letter (bool false) = byte "f"
letter (integer n) = byte "i"
letter (string b) = byte "s"

body : Plain → List ℕ
body null = []
body (bool b) = []
body (integer n) = integer_text n
body (string b) = hex b

lettered : (v : Plain) → plain_text v ≡ letter v ∷ body v
unfolding plain_text letter body
lettered null = refl
lettered (bool true) = refl
lettered (bool false) = refl
lettered (integer n) = refl
lettered (string b) = refl

-- A plain value is made of each thing of a layout, whose text is what follows the letter.
record Makes {X : Type 0} (B : Layout X) (make : X → Plain) : Type 0 where
  same : (x : X) → body (make x) ≡ B.text x
  valid : (x : X) → B.Valid x → plains.Valid (make x)
  was_valid : (x : X) → plains.Valid (make x) → B.Valid x
  more : (x : X) (t : List ℕ) → B.More x t → MorePlain (make x) t
  was_more : (x : X) (t : List ℕ) → MorePlain (make x) t → B.More x t

-- `n`, `t` and `f` are letters that nothing follows
bare-made : (v : Plain) → body v ≡ [] → plains.Valid v → ((t : List ℕ) → MorePlain v t) → Makes (fixed []) (λ u. v)
bare-made v e ok m =
    record { same = λ u. e; valid = λ u x. ok; was_valid = λ u x. tt; more = λ u t x. m t; was_more = λ u t x. tt }

integer_made : Makes integers integer
unfolding body
integer_made = record { same = λ z. refl; valid = λ z v. v; was_valid = λ z v. v; more = λ z t m. m; was_more = λ z t m. m }

string_made : Makes strings string
unfolding body
string_made = record { same = λ b. refl; valid = λ b v. v; was_valid = λ b v. v; more = λ b t m. m; was_more = λ b t m. m }

-- what the letter says of a value
abbrev Of : ℕ → Plain → Type 0
Of c v =
    MatchBool (eqb c (byte "n")) (v ≡ null)
    (MatchBool (eqb c (byte "t")) (v ≡ bool true)
    (MatchBool (eqb c (byte "f")) (v ≡ bool false)
    (MatchBool (eqb c (byte "i")) ((n : ℤ) × (v ≡ integer n))
    (MatchBool (eqb c (byte "s")) ((b : List ℕ) × (v ≡ string b)) ⊥))))

says : (v : Plain) → Of (letter v) v
unfolding letter
says null = refl
says (bool true) = refl
says (bool false) = refl
says (integer n) = (n, refl)
says (string b) = (b, refl)

-- nothing stands at the end
pub no_plain_end : (s : List ℕ) (a : ℕ) → length s ≤ a → Never plains s a
no_plain_end s a h = record {
  not = λ v t ok m e. omega
      (arith, ap length (sym (drop_of_length-le s h) ∙ (e ∙ ap (λ l. l ++ t) (lettered v))));
}

-- the letter c stands at a
module _ (s : List ℕ) (a c : ℕ) (at : (a < length s) × ((d : ℕ) → c ≡ get_or s a d)) where
  opens : drop a s ≡ c ∷ drop (a + 1) s
  opens = drop_more s a 0 at.0 ∙ ap (λ x. x ∷ drop (a + 1) s) (sym (at.1 0))

  apart : (v : Plain) (t : List ℕ) → drop a s ≡ plain_text v ++ t → c ∷ drop (a + 1) s ≡ letter v ∷ (body v ++ t)
  apart v t e = sym opens ∙ (e ∙ ap (λ l. l ++ t) (lettered v))

  first : (v : Plain) (t : List ℕ) → drop a s ≡ plain_text v ++ t → c ≡ letter v
  first v t e = ap (λ l. get_or l 0 0) (apart v t e)

  rest : (v : Plain) (t : List ℕ) → drop a s ≡ plain_text v ++ t → drop (a + 1) s ≡ body v ++ t
  rest v t e = ap (λ l. drop 1 l) (apart v t e)

  -- a value that stands at this letter is what the letter says
  said : (d : ℕ) → c ≡ d → (v : Plain) (t : List ℕ) → drop a s ≡ plain_text v ++ t → Of d v
  said d h v t e = subst (λ b. Of b v) (sym (first v t e) ∙ h) (says v)

  -- The values of one letter: each is made of a thing that stands behind the letter, in the layout B.
  module _ {X : Type 0} (B : Layout X) (make : X → Plain) (M : Makes B make)
      (made : (v : Plain) (t : List ℕ) → drop a s ≡ plain_text v ++ t → (x : X) × (v ≡ make x)) where
    back : (x : X) (t : List ℕ) → drop a s ≡ plain_text (make x) ++ t → drop (a + 1) s ≡ B.text x ++ t
    back x t e = rest (make x) t e ∙ ap (λ l. l ++ t) (M.same x)

    behind-letter : (x : X) → c ≡ letter (make x) → (n : ℕ) → Took B s (a + 1) x n → Took plains s a (make x) n
    behind-letter x h n k = record {
      valid = M.valid x k.valid;
      text =
          opens
          ∙ (ap (λ b. b ∷ drop (a + 1) s) h
          ∙ (ap (λ t. letter (make x) ∷ t) (k.text ∙ ap (λ l. l ++ drop n s) (sym (M.same x)))
          ∙ ap (λ l. l ++ drop n s) (sym (lettered (make x)))));
      rest = M.more x (drop n s) k.rest;
      within = λ i. k.within (omega (arith, at.0));
      only = λ v t ok m e. alone v t (made v t e) ok m e;
    }
      where
        alone : (v : Plain) (t : List ℕ) → (y : X) × (v ≡ make y) → plains.Valid v → MorePlain v t → drop a s ≡ plain_text v ++ t
            → (v ≡ make x) × (t ≡ drop n s)
        alone v t (y, p) ok m e =
            let q = k.only y t (M.was_valid y (subst plains.Valid p ok)) (M.was_more y t (subst (λ v. MorePlain v t) p m))
            (back y t (subst (λ v. drop a s ≡ plain_text v ++ t) p e)) in
            (p ∙ ap make q.0, q.1)

    none_behind : Never B s (a + 1) → Never plains s a
    none_behind k = record { not = λ v t ok m e. none v t (made v t e) ok m e }
      where
        none : (v : Plain) (t : List ℕ) → (y : X) × (v ≡ make y) → plains.Valid v → MorePlain v t → drop a s ≡ plain_text v ++ t → ⊥
        none v t (y, p) ok m e =
            k.not y t (M.was_valid y (subst plains.Valid p ok)) (M.was_more y t (subst (λ v. MorePlain v t) p m))
            (back y t (subst (λ v. drop a s ≡ plain_text v ++ t) p e))

  -- nothing follows
  nothing : Took (fixed []) s (a + 1) tt (a + 1)
  nothing = record { valid = tt; text = refl; rest = tt; within = λ i. i; only = λ y t ok m e. (refl, sym e) }

  -- a letter that nothing follows
  bare : (v : Plain) (g : Given) → g ≡ given_of (plain v) → body v ≡ [] → plains.Valid v → ((t : List ℕ) → MorePlain v t)
      → ((w : Plain) (t : List ℕ) → drop a s ≡ plain_text w ++ t → w ≡ v) → c ≡ letter v → GivenTook plains plain s a g (a + 1)
  bare v g e none ok m only h =
      record {
        value = v;
        took = behind-letter (fixed []) (λ u. v) (bare-made v none ok m) (λ w t f. (tt, only w t f)) tt h (a + 1) nothing;
        given = e;
      }

  pub is_null : c ≡ byte "n" → GivenTook plains plain s a G.Null (a + 1)
  unfolding letter body given_of
  is_null h = bare null G.Null refl refl tt (λ t. tt) (said (byte "n") h) h

  pub is_true : c ≡ byte "t" → GivenTook plains plain s a G.True (a + 1)
  unfolding letter body given_of
  is_true h = bare (bool true) G.True refl refl tt (λ t. tt) (said (byte "t") h) h

  pub is_false : c ≡ byte "f" → GivenTook plains plain s a G.False (a + 1)
  unfolding letter body given_of
  is_false h = bare (bool false) G.False refl refl tt (λ t. tt) (said (byte "f") h) h

  pub is_integer : c ≡ byte "i" → (n : ℤ) (o : ℕ) → Took integers s (a + 1) n o → Took plains s a (integer n) o
  unfolding letter body
  is_integer h n =
      behind-letter integers integer integer_made (said (byte "i") h) n h

  pub no_integer : c ≡ byte "i" → Never integers s (a + 1) → Never plains s a
  unfolding letter body
  no_integer h = none_behind integers integer integer_made (said (byte "i") h)

  pub is_string : c ≡ byte "s" → (b : List ℕ) (o : ℕ) → Took strings s (a + 1) b o → Took plains s a (string b) o
  unfolding letter body
  is_string h b =
      behind-letter strings string string_made (said (byte "s") h) b h

  pub no_string : c ≡ byte "s" → Never strings s (a + 1) → Never plains s a
  unfolding letter body
  no_string h = none_behind strings string string_made (said (byte "s") h)

  pub no_letter : (c ≡ byte "n" → ⊥) → (c ≡ byte "t" → ⊥) → (c ≡ byte "f" → ⊥) → (c ≡ byte "i" → ⊥)
      → (c ≡ byte "s" → ⊥) → Never plains s a
  unfolding letter body
  no_letter n t f i b = record { not = none }
    where
      none : (v : Plain) (u : List ℕ) → plains.Valid v → MorePlain v u → drop a s ≡ plain_text v ++ u → ⊥
      none null u ok m e = n (first null u e)
      none (bool true) u ok m e = t (first (bool true) u e)
      none (bool false) u ok m e = f (first (bool false) u e)
      none (integer z) u ok m e = i (first (integer z) u e)
      none (string c) u ok m e = b (first (string c) u e)

  -- a fixed letter at a
  at-letter : (d : ℕ) (t : List ℕ) → drop a s ≡ d ∷ t → (c ≡ d) × (t ≡ drop (a + 1) s)
  at-letter d t e = let f = sym opens ∙ e in (ap (λ l. get_or l 0 0) f, sym (ap (λ l. drop 1 l) f))

  pub is-map : c ≡ byte "{" → GivenTook assigned (λ v. v) s a G.Map (a + 1)
  unfolding assigned_text given_of
  is-map h = record { value = empty_map; took = took; given = refl }
    where
      alone : (v : Assigned) (t : List ℕ) → assigned.Valid v → MoreAssigned v t → drop a s ≡ assigned_text v ++ t → (v ≡ empty_map)
          × (t ≡ drop (a + 1) s)
      alone (plain v) t ok m e = absurd (said (byte "{") h v t e)
      alone empty_map t ok m e = (refl, (at-letter (byte "{") t e).1)
      alone empty_list t ok m e = absurd (omega (arith, (at-letter (byte "[") t e).0))

      took : Took assigned s a empty_map (a + 1)
      took = record {
        valid = tt;
        text = opens ∙ ap (λ b. b ∷ drop (a + 1) s) h;
        rest = tt;
        within = λ i. omega (arith, at.0);
        only = alone;
      }

  pub is_list : c ≡ byte "[" → GivenTook assigned (λ v. v) s a G.List (a + 1)
  unfolding assigned_text given_of
  is_list h = record { value = empty_list; took = took; given = refl }
    where
      alone : (v : Assigned) (t : List ℕ) → assigned.Valid v → MoreAssigned v t → drop a s ≡ assigned_text v ++ t → (v ≡ empty_list)
          × (t ≡ drop (a + 1) s)
      alone (plain v) t ok m e = absurd (said (byte "[") h v t e)
      alone empty_map t ok m e = absurd (omega (arith, (at-letter (byte "{") t e).0))
      alone empty_list t ok m e = (refl, (at-letter (byte "[") t e).1)

      took : Took assigned s a empty_list (a + 1)
      took = record {
        valid = tt;
        text = opens ∙ ap (λ b. b ∷ drop (a + 1) s) h;
        rest = tt;
        within = λ i. omega (arith, at.0);
        only = alone;
      }

  module _ (x : c ≡ byte "{" → ⊥) (y : c ≡ byte "[" → ⊥) where
    is_plain : (v : Plain) (n : ℕ) → Took plains s a v n → Took assigned s a (plain v) n
    unfolding assigned_text
    is_plain v n k = record { valid = k.valid; text = k.text; rest = k.rest; within = k.within; only = alone }
      where
        alone : (w : Assigned) (t : List ℕ) → assigned.Valid w → MoreAssigned w t → drop a s ≡ assigned_text w ++ t → (w ≡ plain v)
            × (t ≡ drop n s)
        alone (plain w) t ok m e = let q = k.only w t ok m e in (ap plain q.0, q.1)
        alone empty_map t ok m e = absurd (x (at-letter (byte "{") t e).0)
        alone empty_list t ok m e = absurd (y (at-letter (byte "[") t e).0)

    no_plain : Never plains s a → Never assigned s a
    unfolding assigned_text
    no_plain k = record { not = none }
      where
        none : (w : Assigned) (t : List ℕ) → assigned.Valid w → MoreAssigned w t → drop a s ≡ assigned_text w ++ t → ⊥
        none (plain w) t ok m e = k.not w t ok m e
        none empty_map t ok m e = x (at-letter (byte "{") t e).0
        none empty_list t ok m e = y (at-letter (byte "[") t e).0

    pub plain_given_lem : (r : Option (Given × ℕ)) → ReadsPlain s a r → ReadsAssigned s a r
    plain_given_lem = renamed plains plain assigned (λ v. v) s a a plain (λ v. refl) is_plain no_plain

  pub integer_given : c ≡ byte "i" → (r : Option (Given × ℕ)) → ReadsNumberValue s (a + 1) r → ReadsPlain s a r
  integer_given h = renamed integers (λ z. plain (integer z)) plains plain s (a + 1) a integer (λ z. refl) (is_integer h) (no_integer h)

  pub string_given : c ≡ byte "s" → (r : Option (Given × ℕ)) → ReadsBytesValue s (a + 1) r → ReadsPlain s a r
  string_given h = renamed strings (λ b. plain (string b)) plains plain s (a + 1) a string (λ b. refl) (is_string h) (no_string h)

pub no_assigned_end : (s : List ℕ) (a : ℕ) → length s ≤ a → Never assigned s a
unfolding assigned_text
no_assigned_end s a h = record { not = none }
  where
    none : (w : Assigned) (t : List ℕ) → assigned.Valid w → MoreAssigned w t → drop a s ≡ assigned_text w ++ t → ⊥
    none (plain w) t ok m e = (no_plain_end s a h).not w t ok m e
    none empty_map t ok m e = omega (arith, ap length (sym (drop_of_length-le s h) ∙ e))
    none empty_list t ok m e = omega (arith, ap length (sym (drop_of_length-le s h) ∙ e))
