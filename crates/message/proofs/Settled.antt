-- What each public reader answers is settled by the bytes: two answers that meet its promise are equal, to the last word.
-- Assumes nothing.
use Prim.Native.Nat.{ℕ}
use mathlib.Core.Path.{◌≡◌, refl, sym, ap, ◌∙◌}
use mathlib.Core.List.{List}
use Rattle.std.proofs.Common.{Option, Some, None}
use Rattle.meaning.specs.Valid.{ValidOperation}
use Rattle.meaning.specs.Message.{message}
use Rattle.meaning.specs.Ways as M
use Rattle.meaning.specs.Read.{PlaceWay, ValidPlaceWay, place_way_text, KeysWay, of_root, of_place, ValidKeysWay, keys_way_text, element_way_text}
use Rattle.meaning.specs.Promises.{Says, says, says_nothing, Lines, lines_of}
use Rattle.theorems.specs.Spelling.{message_once, edit_once, place_way_once, keys_way_once, element_way_once}
use Rattle.message.specs.Means.{Means, MeansPlace}
use Rattle.message.specs.Promises.{Answers, Reads, ValidLines, MeansLines, MeansKeys}
use Rattle.message.specs.Promises.{ReadsEdit, ReadsMessage, ReadsPlaceWay, ReadsKeysWay, ReadsElementWay}
use Rattle.message.specs.declared.Way.{Way}
use Rattle.message.specs.declared.Edit.{Edit}
use Rattle.message.specs.declared.Operation.{Operation}

-- A layout with one spelling whose things settle what means them.
module _ {A R : Type 0} (Valid : A → Type 0) (text : A → List ℕ) (one : (a b : A) → Valid a → Valid b → text a ≡ text b → a ≡ b)
    (means : R → A → Type 0) (same : (x y : R) (a : A) → means x a → means y a → x ≡ y) where
  settled : {bytes : List ℕ} (x y : Option R) → Reads Valid text means bytes x → Reads Valid text means bytes y → x ≡ y
  settled {bytes} x y p q = go x y p.says q.says p.answers q.answers
    where
      go : (x y : Option R) (u w : Says Valid text bytes) → Answers means x u → Answers means y w → x ≡ y
      go (Some x) (Some y) (says a v e) (says b w f) h k = ap Some (same x y a h (rw (one b a w v (sym f ∙ e)) at k))
      go None None u w h k = refl
      go (Some x) None (says a v e) (says b w f) h k = absurd k
      go (Some x) None (says a v e) (says_nothing n) h k = absurd (n a v e)
      go None (Some y) (says a v e) w h k = absurd h
      go None (Some y) (says_nothing n) (says b w f) h k = absurd (n b w f)
      go None (Some y) (says_nothing n) (says_nothing m) h k = absurd k
      go (Some x) z (says_nothing n) w h k = absurd h
      go (Some x) (Some y) (says a v e) (says_nothing n) h k = absurd k

-- What means one thing is one thing.

edits_alike : (x y : Edit) (l : Lines) → MeansLines x l → MeansLines y l → x ≡ y
edits_alike x y l p q = λ i. record {
  way = record { keys = (p.keys ∙ sym q.keys) i; n = (p.count ∙ sym q.count) i };
  deed = (p.deed ∙ sym q.deed) i;
}

messages-alike : (x y : Operation) (o : M.Operation) → Means x o → Means y o → x ≡ y
messages-alike x y o p q = λ i. record {
  act = record {
    id = (p.id ∙ sym q.id) i;
    deps = record { at = (p.deps ∙ sym q.deps) i };
    deed = (p.edit.deed ∙ sym q.edit.deed) i;
  };
  way = record { keys = (p.edit.keys ∙ sym q.edit.keys) i; n = (p.edit.count ∙ sym q.edit.count) i };
}

places_alike : (x y : Way) (w : PlaceWay) → MeansPlace x w → MeansPlace y w → x ≡ y
places_alike x y w p q = λ i. record { keys = (p.keys ∙ sym q.keys) i; n = (p.count ∙ sym q.count) i }

keys-alike : (x y : Way) (w : KeysWay) → MeansKeys x w → MeansKeys y w → x ≡ y
keys-alike x y of_root p q = λ i. record { keys = (p.0 ∙ sym q.0) i; n = (p.1 ∙ sym q.1) i }
keys-alike x y (of_place w) p q = places_alike x y w p q

lines_once : (l m : Lines) → ValidLines l → ValidLines m → lines_of l ≡ lines_of m → l ≡ m
lines_once l m v w e =
    let z = edit_once l.top l.way m.top m.way v w e in
    λ i. record { top = z.0 i; way = z.1 i }

-- The five readers.

pub take_edit_once : {bytes : List ℕ} (x y : Option Edit) → ReadsEdit bytes x → ReadsEdit bytes y → x ≡ y
take_edit_once = settled ValidLines lines_of lines_once MeansLines edits_alike

pub take_message_once : {bytes : List ℕ} (x y : Option Operation) → ReadsMessage bytes x → ReadsMessage bytes y → x ≡ y
take_message_once = settled ValidOperation message message_once Means messages-alike

pub take_place_way_once : {bytes : List ℕ} (x y : Option Way) → ReadsPlaceWay bytes x → ReadsPlaceWay bytes y → x ≡ y
take_place_way_once = settled ValidPlaceWay place_way_text place_way_once MeansPlace places_alike

pub take_keys_way_once : {bytes : List ℕ} (x y : Option Way) → ReadsKeysWay bytes x → ReadsKeysWay bytes y → x ≡ y
take_keys_way_once = settled ValidKeysWay keys_way_text keys_way_once MeansKeys keys-alike

pub take_element_way_once : {bytes : List ℕ} (x y : Option Way) → ReadsElementWay bytes x → ReadsElementWay bytes y → x ≡ y
take_element_way_once = settled ValidPlaceWay element_way_text element_way_once MeansPlace places_alike
