-- The loops that take bytes in hex: a word of up to eight, and up to four words.
-- Assumes nothing.
use Prim.Native.Nat.{ℕ, suc, ◌+◌, ◌-◌, ◌*◌, ◌%◌, ◌≤◌, ◌<◌, ◌^◌}
use native.Mathlib.Omega.{arith}
use mathlib.Core.Path.{◌≡◌, refl, sym, ap, ◌∙◌}
use mathlib.Core.List.{List, [], ◌∷◌, ◌++◌}
use lib.ListN.{length, take, drop, set, length-append, length-set, take-append-drop}
use Rattle.std.proofs.Math.Nat.{mod-eq_of_lt, pow-le-pow_right}
use Rattle.std.proofs.lemmas.List.{length-take-le, set-append_left}
use Rattle.std.proofs.lemmas.Nat.{shl_below}
use Rattle.std.proofs.Common.{Fits, w64}
use Rattle.theorems.specs.Decimal.{Stops}
use Rattle.decimal.specs.Take.{Never}
use Rattle.readers.specs.Words.{weight, pack, words_of}
use Rattle.readers.specs.Hex.{DigitTook, Hexed, Unhexed, WordTook, hexes, HexTook}
use Rattle.readers.specs.Order.{pack_small}
use Rattle.readers.proofs.Packs.{weight_power, pack_more, words_more}
use Rattle.readers.proofs.Hexes.{none_yet, byte_more, too_many, join, all, unhexed}

-- A word: `len` bytes are taken.
pub record Part (s : List ℕ) (a x len n : ℕ) : Type 0 where
  pub key : List ℕ
  pub hexed : Hexed s a key n
  pub long : length key ≡ len
  pub word : x ≡ pack 8 key

pub part_start : (s : List ℕ) (a : ℕ) → Part s a 0 0 a
unfolding pack
part_start s a = record { key = []; hexed = none_yet s a; long = refl; word = refl }

-- what a byte weighs that `len` bytes are ahead of
shifted : (len b : ℕ) → len < 8 → b < 256 → b * 2 ^ (56 - 8 * len) % 2 ^ 64 ≡ b * weight (8 - suc len)
shifted len b h k =
    let e : 8 * (8 - suc len) ≡ 56 - 8 * len = omega arith in
    let i : 8 + (56 - 8 * len) ≤ 64 = omega arith in
    let f : b * 2 ^ (56 - 8 * len) < 2 ^ 64 = omega (arith, shl_below b 8 (56 - 8 * len) k, pow-le-pow_right {n = 2} (omega arith) i) in
    mod-eq_of_lt f ∙ ap (λ n. b * n) (ap (λ n. 2 ^ n) (sym e) ∙ sym (weight_power (8 - suc len)))

module _ (s : List ℕ) (a word len n : ℕ) (k : Part s a word len n) (h : len < 8)
    (hi lo : ℕ) (first : DigitTook s n hi) (second : DigitTook s (n + 1) lo) where
  next : Hexed s a (k.key ++ ((hi * 16 + lo) ∷ [])) (n + 2)
  next = byte_more s n hi first a k.key lo k.hexed second

  -- the word with one byte more
  grown : word + (hi * 16 + lo) * 2 ^ (56 - 8 * len) % 2 ^ 64 ≡ pack 8 (k.key ++ ((hi * 16 + lo) ∷ []))
  grown =
      rw (k.word, shifted len (hi * 16 + lo) h (omega (arith, first.small, second.small)), ← k.long)
      (sym (pack_more 8 k.key (hi * 16 + lo) (omega (arith, k.long))))

  pub room : Fits w64 (word + (hi * 16 + lo) * 2 ^ (56 - 8 * len) % 2 ^ 64)
  unfolding weight
  room = let f = pack_small 8 (k.key ++ ((hi * 16 + lo) ∷ [])) next.bytes in omega (arith, grown)

  pub part_more : Part s a (word + (hi * 16 + lo) * 2 ^ (56 - 8 * len) % 2 ^ 64) (len + 1) (n + 2)
  part_more = record {
    key = k.key ++ ((hi * 16 + lo) ∷ []);
    hexed = next;
    long = length-append k.key ((hi * 16 + lo) ∷ []) ∙ ap (λ l. l + 1) k.long;
    word = grown;
  }

-- Words: i full ones of `count` are taken.
pub record Parts (s : List ℕ) (a count : ℕ) (ws : List ℕ) (len n i : ℕ) : Type 0 where
  pub key : List ℕ
  pub hexed : Hexed s a key n
  pub long : length key ≡ len
  pub full : len ≡ 8 * i
  pub held : length ws ≡ count
  pub words : ws ++ drop count (0 ∷ 0 ∷ 0 ∷ 0 ∷ []) ≡ words_of 4 key

pub parts_start : (s : List ℕ) (a count : ℕ) → count ≤ 4 → Parts s a count (take count (0 ∷ 0 ∷ 0 ∷ 0 ∷ [])) 0 a 0
unfolding words_of pack
parts_start s a count h = record {
  key = [];
  hexed = none_yet s a;
  long = refl;
  full = refl;
  held = length-take-le count (0 ∷ 0 ∷ 0 ∷ 0 ∷ []) h;
  words = take-append-drop count (0 ∷ 0 ∷ 0 ∷ 0 ∷ []);
}

module _ (s : List ℕ) (a count : ℕ) (ws : List ℕ) (len n i : ℕ) (k : Parts s a count ws len n i) where
  pub no_word : Unhexed s n → Never (hexes (8 * count)) s a
  no_word u = unhexed (8 * count) s a k.key n k.hexed u

  -- all words are full
  module _ (h : i ≡ count) where
    pub one_more : (r : ℕ) → DigitTook s n r → Never (hexes (8 * count)) s a
    one_more r d = too_many s n r d (8 * count) a k.key k.hexed (omega (arith, k.long, k.full))

    pub filled : Stops (drop n s)
        → HexTook (hexes (8 * count)) s a (record { words = ws ++ drop count (0 ∷ 0 ∷ 0 ∷ 0 ∷ []); len = len }) n
    filled st =
        record {
          bytes = k.key;
          took = all (8 * count) s a k.key n k.hexed (omega (arith, k.long, k.full)) st;
          packs = λ j. record { words = k.words j; len = sym k.long j };
        }

  module _ (h : i < count) (c : count ≤ 4) (word some next : ℕ) (t : WordTook s n word some next) where
    together : Hexed s a (k.key ++ t.key) next
    together = join s a k.key n t.key next k.hexed t.hexed

    length-is : length (k.key ++ t.key) ≡ len + some
    length-is = omega (arith, length-append k.key t.key, k.long, t.long)

    words_are : set ws i word ++ drop count (0 ∷ 0 ∷ 0 ∷ 0 ∷ []) ≡ words_of 4 (k.key ++ t.key)
    words_are =
        sym (set-append_left ws (drop count (0 ∷ 0 ∷ 0 ∷ 0 ∷ [])) i word (omega (arith, k.held)))
        ∙ (ap (λ l. set l i word) k.words
        ∙ (ap (λ x. set (words_of 4 k.key) i x) t.word
        ∙ sym (words_more 4 i k.key t.key (omega arith) (k.long ∙ k.full) (omega (arith, t.long, t.most)))))

    pub last_word : some < 8
        → HexTook (hexes (8 * count)) s a (record { words = set ws i word ++ drop count (0 ∷ 0 ∷ 0 ∷ 0 ∷ []); len = len + some }) next
    last_word l =
        record {
          bytes = k.key ++ t.key;
          took = all (8 * count) s a (k.key ++ t.key) next together (omega (arith, length-is, k.full, t.most)) (t.stops l);
          packs = λ j. record { words = words_are j; len = sym length-is j };
        }

    pub parts_more : 8 ≤ some → Parts s a count (set ws i word) (len + some) next (i + 1)
    parts_more l =
        record {
          key = k.key ++ t.key;
          hexed = together;
          long = length-is;
          full = omega (arith, k.full, t.most);
          held = length-set ws i word ∙ k.held;
          words = words_are;
        }
