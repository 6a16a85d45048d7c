-- The steps of a way, one after another.
-- Assumes nothing.
use Prim.Native.Nat.{ℕ, zero, suc, ◌+◌, ◌*◌, ◌≤◌, ◌<◌}
use native.Mathlib.Omega.{arith}
use mathlib.Core.Path.{◌≡◌, refl, sym, ap, ◌∙◌, subst}
use mathlib.Core.List.{List, [], ◌∷◌, ◌++◌, append_assoc, append-nil}
use lib.ListN.{length, get_or, drop, set, length-append}
use Rattle.meaning.specs.Ascii.{byte}
use Rattle.theorems.specs.Decimal.{Stops}
use Rattle.decimal.specs.Take.{Took, Never}
use Rattle.decimal.proofs.Layouts.{no_first, no_second, both}
use Rattle.readers.specs.Words.{key_words}
use Rattle.readers.specs.Reads.{keys}
use Rattle.readers.specs.Hex.{KeyTook}
use Rattle.readers.specs.declared.Key.{Key}
use Rattle.message.specs.Means.{pad}
use Rattle.message.specs.Steps.{Step, key, element, caret, step_text, all_text}
use Rattle.message.specs.Steps.{step_words, all_words, ValidStep, MoreStep, steps, Finished}
use Rattle.message.specs.Steps.{Open, Good, InList, trails}
use Rattle.message.specs.Reads.{with_key, StepTook, Tail, at_key, at_element, at_caret, ways, WayTook}
use Rattle.message.specs.declared.Way.{Way}
use Rattle.message.proofs.Steps.{stands_on, finished_stops, finished_digit}

-- what follows a step, if further steps and then the end do
follows : (x : Step) (xs : List Step) (t : List ℕ) → Finished t → MoreStep x (all_text xs ++ t)
unfolding all_text step_text
follows (key k) [] t f = finished_stops t f
follows (key k) (key j ∷ xs) t f = refl
follows (key k) (element e ∷ xs) t f = refl
follows (key k) (caret ∷ xs) t f = refl
follows (element i) [] t f = finished_digit t f
follows (element i) (key j ∷ xs) t f = refl
follows (element i) (element e ∷ xs) t f = refl
follows (element i) (caret ∷ xs) t f = refl
follows caret xs t f = tt

text_append : (xs ys : List Step) → all_text (xs ++ ys) ≡ all_text xs ++ all_text ys
unfolding all_text
text_append [] ys = refl
text_append (x ∷ xs) ys = ap (λ t. step_text x ++ t) (text_append xs ys) ∙ sym (append_assoc (step_text x) (all_text xs) (all_text ys))

pub words_append : (xs ys : List Step) → all_words (xs ++ ys) ≡ all_words xs ++ all_words ys
unfolding all_words
words_append [] ys = refl
words_append (x ∷ xs) ys = ap (λ t. step_words x ++ t) (words_append xs ys) ∙ sym (append_assoc (step_words x) (all_words xs) (all_words ys))

-- Good steps.

good_valid : (xs : List Step) (z : Step) (zs : List Step) → Good (xs ++ (z ∷ zs)) → ValidStep z
good_valid [] (key k) zs g = g.0
good_valid [] (element e) zs g = g.0
good_valid [] caret zs g = tt
good_valid (key k ∷ xs) z zs g = good_valid xs z zs g.1
good_valid (element e ∷ xs) z zs g = good_valid xs z zs g.1
good_valid (caret ∷ []) z zs g = absurd g
good_valid (caret ∷ x ∷ xs) z zs g = absurd g

pub open_good : (xs : List Step) → Open xs → Good xs
open_good [] o = tt
open_good (key k ∷ xs) o = (o.0, open_good xs o.1)
open_good (element e ∷ xs) o = (o.0, open_good xs o.1)
open_good (caret ∷ xs) o = absurd o

open_caret : (xs : List Step) → Open xs → Good (xs ++ (caret ∷ []))
open_caret [] o = tt
open_caret (key k ∷ xs) o = (o.0, open_caret xs o.1)
open_caret (element e ∷ xs) o = (o.0, open_caret xs o.1)
open_caret (caret ∷ xs) o = absurd o

pub open_append : (xs ys : List Step) → Open xs → Open ys → Open (xs ++ ys)
open_append [] ys o p = p
open_append (key k ∷ xs) ys o p = (o.0, open_append xs ys o.1 p)
open_append (element e ∷ xs) ys o p = (o.0, open_append xs ys o.1 p)
open_append (caret ∷ xs) ys o p = absurd o

-- nothing follows `^`
caret_last : (xs : List Step) (z : Step) (zs : List Step) → Good ((xs ++ (caret ∷ [])) ++ (z ∷ zs)) → ⊥
caret_last [] z zs g = g
caret_last (key k ∷ xs) z zs g = caret_last xs z zs g.1
caret_last (element e ∷ xs) z zs g = caret_last xs z zs g.1
caret_last (caret ∷ []) z zs g = g
caret_last (caret ∷ x ∷ xs) z zs g = g

not_in_list : (xs : List Step) (k : List ℕ) → InList (xs ++ (key k ∷ [])) → ⊥
not_in_list [] k i = i
not_in_list (x ∷ []) k i = i
not_in_list (x ∷ y ∷ xs) k i = not_in_list (y ∷ xs) k i

pub tail_good : (last : ℕ) (xs : List Step) → Tail last xs → Good xs
tail_good last xs (at_key h o n) = open_good xs o
tail_good last xs (at_element h ys e q o) = open_good xs o
tail_good last xs (at_caret h ys q o) = subst Good (sym q) (open_caret ys o)

tail_open : (last : ℕ) (xs : List Step) → Tail last xs → (last ≡ 18 → ⊥) → Open xs
tail_open last xs (at_key h o n) e = o
tail_open last xs (at_element h ys i q o) e = o
tail_open last xs (at_caret h ys q o) e = absurd (e h)

-- the tail with one step more
tail_more : (last : ℕ) (xs : List Step) → Tail last xs → (last ≡ 18 → ⊥) → (x : Step) → ValidStep x → (hi lo len : ℕ)
    → hi ∷ lo ∷ len ∷ [] ≡ step_words x → Tail len (xs ++ (x ∷ []))
unfolding step_words
tail_more last xs t c (key k) v hi lo len w =
    let l : len ≡ length k = ap (λ x. get_or x 2 0) w in
    at_key (omega (arith, v.short)) (open_append xs (key k ∷ []) (tail_open last xs t c) (v, tt)) (not_in_list xs k)
tail_more last xs t c (element e) v hi lo len w =
    at_element (ap (λ x. get_or x 2 0) w) xs e refl (open_append xs (element e ∷ []) (tail_open last xs t c) (v, tt))
tail_more last xs t c caret v hi lo len w = at_caret (ap (λ x. get_or x 2 0) w) xs refl (tail_open last xs t c)

-- Passing steps: xs stand from a to n, and whatever steps stand at a begin with them.
pub record Passed (s : List ℕ) (a : ℕ) (xs : List Step) (n : ℕ) : Type 0 where
  pub text : drop a s ≡ all_text xs ++ drop n s
  pub within : a ≤ length s → n ≤ length s
  pub goes : (ys : List Step) (t : List ℕ) → Good ys → Finished t → drop a s ≡ all_text ys ++ t
      → (zs : List Step) × (ys ≡ xs ++ zs) × (all_text zs ++ t ≡ drop n s)

none_yet : (s : List ℕ) (a : ℕ) → Passed s a [] a
unfolding all_text
none_yet s a = record { text = refl; within = λ h. h; goes = λ ys t g f e. (ys, refl, sym e) }

-- where a step stands, the steps of any way go on with it
module _ (s : List ℕ) (a : ℕ) (xs : List Step) (n : ℕ) (k : Passed s a xs n) (x : Step) (m : ℕ) (j : Took steps s n x m) where
  onward : (ys : List Step) (t : List ℕ) → Good ys → Finished t → drop a s ≡ all_text ys ++ t
      → (zs : List Step) × (ys ≡ xs ++ (x ∷ zs)) × (all_text zs ++ t ≡ drop m s)
  unfolding all_text
  onward ys t g f e = let u = k.goes ys t g f e in go u.0 u.1 u.2
    where
      go : (zs : List Step) → ys ≡ xs ++ zs → all_text zs ++ t ≡ drop n s → (r : List Step) × (ys ≡ xs ++ (x ∷ r))
          × (all_text r ++ t ≡ drop m s)
      go [] p q = absurd (stands_on s n m x j (subst Finished q f))
      go (z ∷ zs) p q =
          let r =
          j.only z (all_text zs ++ t) (good_valid xs z zs (subst Good p g)) (follows z zs t f)
          (sym q ∙ append_assoc (step_text z) (all_text zs) t) in
          (zs, p ∙ ap (λ y. xs ++ (y ∷ zs)) r.0, r.1)

  one_more : Passed s a (xs ++ (x ∷ [])) m
  unfolding all_text
  one_more =
      record {
        text =
            k.text
            ∙ (ap (λ t. all_text xs ++ t) j.text
            ∙ (sym (append_assoc (all_text xs) (step_text x) (drop m s))
            ∙ ap (λ t. t ++ drop m s) (sym (text_append xs (x ∷ []) ∙ ap (λ t. all_text xs ++ t) (append-nil (step_text x))))));
        within = λ h. j.within (k.within h);
        goes = λ ys t g f e. let u = onward ys t g f e in (u.0, u.1 ∙ sym (append_assoc xs (x ∷ []) u.0), u.2);
      }

  -- an eighth step, or one behind `^`
  too_many : 7 ≤ length xs → Never trails s a
  too_many h = record {
    not = λ ys t v f e.
        let u = onward ys t v.1 f e in
        omega (arith, v.0, ap length u.1, length-append xs (x ∷ u.0));
  }

  behind_caret : (ys : List Step) → xs ≡ ys ++ (caret ∷ []) → Never trails s a
  behind_caret ys q = record {
    not = λ zs t v f e.
        let u = onward zs t v.1 f e in
        caret_last ys x u.0 (subst Good (u.1 ∙ ap (λ l. l ++ (x ∷ u.0)) q) v.1);
  }

ended : (s : List ℕ) (a : ℕ) (xs : List Step) (n : ℕ) → Passed s a xs n → Good xs → length xs ≤ 7 → Finished (drop n s) → Took
    trails s a xs n
unfolding all_text step_text
ended s a xs n k g l f =
    record {
      valid = (l, g);
      text = k.text;
      rest = f;
      within = k.within;
      only = λ ys t v o e. let u = k.goes ys t v.1 o
          e in go u.0 ys t u.1 u.2;
    }
  where
    go : (zs ys : List Step) (t : List ℕ) → ys ≡ xs ++ zs → all_text zs ++ t ≡ drop n s → (ys ≡ xs) × (t ≡ drop n s)
    go [] ys t p q = (p ∙ append-nil xs, q)
    go (key j ∷ zs) ys t p q = absurd (let e : byte "{" ≡ byte "\n" = subst Finished (sym q) f in omega arith)
    go (element j ∷ zs) ys t p q = absurd (let e : byte "[" ≡ byte "\n" = subst Finished (sym q) f in omega arith)
    go (caret ∷ zs) ys t p q = absurd (let e : byte "[" ≡ byte "\n" = subst Finished (sym q) f in omega arith)

stuck : (s : List ℕ) (a : ℕ) (xs : List Step) (n : ℕ) → Passed s a xs n → Never steps s n → (Finished (drop n s) → ⊥) → Never trails s a
unfolding all_text
stuck s a xs n k h u = record { not = λ ys t v f e. let w = k.goes ys t v.1 f e in go w.0 ys t v.1 f w.1 w.2 }
  where
    go : (zs ys : List Step) (t : List ℕ) → Good ys → Finished t → ys ≡ xs ++ zs → all_text zs ++ t ≡ drop n s → ⊥
    go [] ys t g f p q = u (subst Finished q f)
    go (z ∷ zs) ys t g f p q =
        h.not z (all_text zs ++ t) (good_valid xs z zs (subst Good p g)) (follows z zs t f)
        (sym q ∙ append_assoc (step_text z) (all_text zs) t)

-- Words.

pad_store : (n : ℕ) (w : List ℕ) (x : ℕ) → length w < n → set (pad n w) (length w) x ≡ pad n (w ++ (x ∷ []))
unfolding pad
pad_store zero w x h = absurd (omega arith)
pad_store (suc n) [] x h = refl
pad_store (suc n) (y ∷ w) x h = ap (λ l. y ∷ l) (pad_store n w x (omega arith))

-- three words more
three_more : (w : List ℕ) (i x y z : ℕ) → length w ≡ 3 * i → i < 8
    → set (set (set (pad 24 w) (3 * i) x) (3 * i + 1) y) (3 * i + 2) z ≡ pad 24 (w ++ (x ∷ y ∷ z ∷ []))
three_more w i x y z l h =
    let l1 = length-append w (x ∷ []) in
    let l2 = length-append (w ++ (x ∷ [])) (y ∷ []) in
    let e1 : length (w ++ (x ∷ [])) ≡ 3 * i + 1 = omega arith in
    let e2 : length ((w ++ (x ∷ [])) ++ (y ∷ [])) ≡ 3 * i + 2 = omega arith in
    ap (λ v. set (set v (3 * i + 1) y) (3 * i + 2) z) (ap (λ n. set (pad 24 w) n x) (sym l) ∙ pad_store 24 w x (omega arith))
    ∙ (ap (λ v. set v (3 * i + 2) z) (ap (λ n. set (pad 24 (w ++ (x ∷ []))) n y) (sym e1) ∙ pad_store 24 (w ++ (x ∷ [])) y (omega arith))
    ∙ (ap (λ n. set (pad 24 ((w ++ (x ∷ [])) ++ (y ∷ []))) n z) (sym e2)
    ∙ (pad_store 24 ((w ++ (x ∷ [])) ++ (y ∷ [])) z (omega arith)
    ∙ ap (pad 24) (append_assoc (w ++ (x ∷ [])) (y ∷ []) (z ∷ []) ∙ append_assoc w (x ∷ []) (y ∷ z ∷ [])))))

step-length : (x : Step) → length (step_words x) ≡ 3
unfolding step_words
step-length (key k) = refl
step-length (element e) = refl
step-length caret = refl

words_length : (xs : List Step) → length (all_words xs) ≡ 3 * length xs
unfolding all_words
words_length [] = refl
words_length (x ∷ xs) = let a = length-append (step_words x) (all_words xs) in let b = step-length x in let c = words_length xs in omega arith

-- The loop's state: the first key and the steps xs are taken.
pub record State (s : List ℕ) (a : ℕ) (way : Way) (last n : ℕ) : Type 0 where
  pub top : List ℕ
  pub from : ℕ
  pub first : Took keys s a top from
  pub xs : List Step
  pub passed : Passed s from xs n
  pub tail : Tail last xs
  pub words : way.keys ≡ pad 24 (key_words top ++ all_words xs)
  pub count : way.n ≡ suc (length xs)
  pub most : way.n ≤ 8

after_key : (x : List ℕ) (ys : List Step) (t : List ℕ) → trails.Valid ys → Finished t → Stops (all_text ys ++ t)
unfolding all_text step_text
after_key x [] t v f = finished_stops t f
after_key x (key j ∷ ys) t v f = refl
after_key x (element e ∷ ys) t v f = refl
after_key x (caret ∷ ys) t v f = refl

pub no_top : (s : List ℕ) (a : ℕ) → Never keys s a → Never ways s a
no_top s a h = no_first keys trails after_key s a h

pub start : (s : List ℕ) (a : ℕ) (k : Key) (n : ℕ) → KeyTook s a k n
    → State s a (with_key (record { keys = pad 24 []; n = 0 }) k) k.len n
unfolding all_words pad
start s a k n h =
    let l : k.len ≡ length h.key = ap (λ w. get_or w 2 0) h.words in
    record {
      top = h.key;
      from = n;
      first = h.took;
      xs = [];
      passed = none_yet s n;
      tail = at_key (omega (arith, h.took.valid.short)) tt (λ i. i);
      words = ap (λ w. pad 24 (w ++ [])) h.words;
      count = refl;
      most = omega arith;
    }

module _ (s : List ℕ) (a : ℕ) (way : Way) (last n : ℕ) (k : State s a way last n) where
  behind : Never trails s k.from → Never ways s a
  behind h = no_second keys trails after_key s a k.top k.from k.first h

  pub end : Finished (drop n s) → WayTook s a (record { way = way; last = last; next = n })
  end f =
      record {
        top = k.top;
        xs = k.xs;
        took =
            both keys trails after_key s a k.top k.from k.first k.xs n
            (ended s k.from k.xs n k.passed (tail_good last k.xs k.tail) (omega (arith, k.count, k.most)) f);
        tail = k.tail;
        keys = k.words;
        count = k.count;
      }

  pub bad : Never steps s n → (Finished (drop n s) → ⊥) → Never ways s a
  bad h f = behind (stuck s k.from k.xs n k.passed h f)

  module _ (f : Key) (m : ℕ) (j : StepTook s n f m) where
    pub closed : last ≡ 18 → Never ways s a
    closed e = go k.tail
      where
        go : Tail last k.xs → Never ways s a
        go (at_key h o q) = absurd (omega arith)
        go (at_element h ys q p o) = absurd (omega arith)
        go (at_caret h ys p o) = behind (behind_caret s k.from k.xs n k.passed j.step m j.took ys p)

    pub ninth : way.n ≡ 8 → Never ways s a
    ninth e = behind (too_many s k.from k.xs n k.passed j.step m j.took (omega (arith, k.count)))

    pub more : (last ≡ 18 → ⊥) → (way.n ≡ 8 → ⊥) → State s a (with_key way f) f.len m
    unfolding all_words
    more c e =
        let x = j.step in
        let w = key_words k.top ++ all_words k.xs in
        let i = way.n in
        let l : length w ≡ 3 * i = omega (arith, length-append (key_words k.top) (all_words k.xs), words_length k.xs, k.count) in
        let d = length-append k.xs (x ∷ []) in
        record {
          top = k.top;
          from = k.from;
          first = k.first;
          xs = k.xs ++ (x ∷ []);
          passed = one_more s k.from k.xs n k.passed x m j.took;
          tail = tail_more last k.xs k.tail c x j.took.valid f.hi f.lo f.len j.words;
          words =
              ap (λ v. set (set (set v (3 * i) f.hi) (3 * i + 1) f.lo) (3 * i + 2) f.len) k.words
              ∙ (three_more w i f.hi f.lo f.len l (omega (arith, k.most))
              ∙ ap (pad 24)
              (ap (λ v. w ++ v) (j.words ∙ sym (append-nil (step_words x)))
              ∙ (append_assoc (key_words k.top) (all_words k.xs) (step_words x ++ []) ∙ ap (λ v. key_words k.top ++ v)
              (sym (words_append k.xs (x ∷ []))))));
          count = omega (arith, k.count);
          most = omega (arith, k.most);
        }
