-- One spelling: each text of a message, of an edit's lines and of a read's way says one thing.
-- Assumes nothing.
use Rattle.std.specs.Prelude.{ℕ, suc, ◌≡◌, refl, true, false, List, [], ◌∷◌, ◌++◌, eqb, length, get_or, drop}
use Rattle.std.proofs.Common.{arith, sym, ap, ◌∙◌, append-nil}
use Rattle.std.proofs.lemmas.List.{append_cancel_right}
use Rattle.meaning.specs.Ascii.{ascii, byte}
use Rattle.meaning.specs.Ways.{Assigned, Prev, head, after, Way, assign, delete, insert, into_map, into_list, Operation, steps}
use Rattle.meaning.specs.Valid.{ValidWay, ValidEdit, ValidOperation}
use Rattle.meaning.specs.Text.{id_text, counters_text, hex}
use Rattle.meaning.specs.Message.{prev_text, steps_text, do_text, edit_text, message}
use Rattle.meaning.specs.Read.{Trail, here, by_key, by_element, trail_text, trail_steps, ValidTrail, PlaceWay, ValidPlaceWay}
use Rattle.meaning.specs.Read.{place_way_text, KeysWay, of_root, of_place, ValidKeysWay, keys_way_text, element_way_text}
use Rattle.theorems.specs.Back.{read_id, id_back, read_counters, counters-back, read_hex, hex-back, read_assigned, assigned-back}
use Rattle.theorems.specs.Steps.{Step, key, id, caret, step_text, all_text, Spelt, read_steps, steps_stop, steps_back}

-- A way as its steps, and what is done at its end.

data Deed : Type 0 where
  assigns : Assigned → Deed
  deletes : Deed
  inserts : Assigned → Deed

prev_step : Prev → Step
prev_step head = caret
prev_step (after e) = id e

steps_of : Way → List Step
steps_of (assign a) = []
steps_of delete = []
steps_of (insert p a) = prev_step p ∷ []
steps_of (into_map k w) = key k ∷ steps_of w
steps_of (into_list e w) = id e ∷ steps_of w

deed_of : Way → Deed
deed_of (assign a) = assigns a
deed_of delete = deletes
deed_of (insert p a) = inserts a
deed_of (into_map k w) = deed_of w
deed_of (into_list e w) = deed_of w

-- the way that has these steps and this deed; where there is none, any
build : List Step → Deed → Way
build [] (assigns a) = assign a
build [] deletes = delete
build [] (inserts a) = insert head a
build (key k ∷ ss) d = into_map k (build ss d)
build (caret ∷ ss) (assigns a) = assign a
build (caret ∷ ss) deletes = delete
build (caret ∷ ss) (inserts a) = insert head a
build (id e ∷ []) (assigns a) = into_list e (assign a)
build (id e ∷ []) deletes = into_list e delete
build (id e ∷ []) (inserts a) = insert (after e) a
build (id e ∷ s ∷ ss) d = into_list e (build (s ∷ ss) d)

built : (w : Way) → build (steps_of w) (deed_of w) ≡ w
unfolding build steps_of deed_of prev_step
built (assign a) = refl
built delete = refl
built (insert head a) = refl
built (insert (after e) a) = refl
built (into_map k w) = ap (into_map k) (built w)
built (into_list e (assign a)) = refl
built (into_list e delete) = refl
built (into_list e (insert p a)) = ap (into_list e) (built (insert p a))
built (into_list e (into_map k w)) = ap (into_list e) (built (into_map k w))
built (into_list e (into_list g w)) = ap (into_list e) (built (into_list g w))

steps_text_lem : (w : Way) → steps_text w ≡ all_text (steps_of w)
unfolding steps_text steps_of all_text step_text prev_text prev_step
steps_text_lem (assign a) = refl
steps_text_lem delete = refl
steps_text_lem (insert head a) = refl
steps_text_lem (insert (after e) a) = ap (91 ∷◌) (sym (append-nil (id_text e)))
steps_text_lem (into_map k w) = ap (λ t. 123 ∷ (hex k ++ t)) (steps_text_lem w)
steps_text_lem (into_list e w) = ap (λ t. 91 ∷ (id_text e ++ t)) (steps_text_lem w)

steps_count : (w : Way) → length (steps_of w) ≡ steps w
unfolding steps_of steps
steps_count (assign a) = refl
steps_count delete = refl
steps_count (insert p a) = refl
steps_count (into_map k w) = ap suc (steps_count w)
steps_count (into_list e w) = ap suc (steps_count w)

steps_spelt : (w : Way) → ValidWay w → Spelt (steps_of w)
unfolding steps_of prev_step
steps_spelt (assign a) v = tt
steps_spelt delete v = tt
steps_spelt (insert head a) v = tt
steps_spelt (insert (after e) a) v = tt
steps_spelt (into_map k w) v = (v.0.bytes, steps_spelt w v.1)
steps_spelt (into_list e w) v = steps_spelt w v.1

read_deed : List ℕ → Deed
read_deed t =
    elim (eqb (get_or t 3 0) (byte "a")) [
      | true ↦ assigns (read_assigned (drop 16 t)).0
      | false ↦ elim (eqb (get_or t 3 0) (byte "i")) [ true ↦ inserts (read_assigned (drop 16 t)).0 | false ↦ deletes ]
    ]

deed_back : (w : Way) → ValidWay w → read_deed (do_text w) ≡ deed_of w
unfolding read_deed do_text deed_of
deed_back (assign a) v = ap assigns (ap (λ x. x.0) (assigned-back a (10 ∷ []) v refl))
deed_back delete v = refl
deed_back (insert p a) v = ap inserts (ap (λ x. x.0) (assigned-back a (10 ∷ []) v.1 refl))
deed_back (into_map k w) v = deed_back w v.1
deed_back (into_list e w) v = deed_back w v.1

-- an edit's lines behind `at=`
pub record Said : Type 0 where
  pub top : List ℕ
  pub way : Way

read_edit : List ℕ → Said
read_edit t =
    let k = read_hex t in
    let s = read_steps 7 k.1 in
    record { top = k.0; way = build s.0 (read_deed (drop 1 s.1)) }

edit-back : (top : List ℕ) (w : Way) → ValidEdit top w → read_edit (drop 3 (edit_text top w)) ≡ record { top = top; way = w }
unfolding read_edit edit_text
edit-back top w v =
    let l : List ℕ = 10 ∷ do_text w in
    let e = steps_text_lem w in
    let k = hex-back top (all_text (steps_of w) ++ l) v.first.bytes (steps_stop (steps_of w) l refl) in
    let n = steps_count w in
    let s = steps_back 7 (steps_of w) l (omega (arith, v.reach)) (steps_spelt w v.rest) refl in
    rw (e, k, s, deed_back w v.rest) (ap (λ x. record { top = top; way = x }) (built w))

-- equal lines, equal edits
pub edit_once : (k : List ℕ) (w : Way) (j : List ℕ) (x : Way) → ValidEdit k w → ValidEdit j x → edit_text k w ≡ edit_text j x
    → (k ≡ j) × (w ≡ x)
edit_once k w j x p q e =
    let z = sym (edit-back k w p) ∙ (ap (λ t. read_edit (drop 3 t)) e ∙ edit-back j x q) in
    (ap (λ s. s.top) z, ap (λ s. s.way) z)

read_message : List ℕ → Operation
read_message t =
    let i = read_id (drop 8 t) in
    let s = read_counters (drop 6 i.1) in
    let e = read_edit (drop 4 s.1) in
    record { id = i.0; deps = s.0; top = e.top; way = e.way }

message-back : (o : Operation) → ValidOperation o → read_message (message o) ≡ o
unfolding read_message message edit_text
message-back o v =
    let t = edit_text o.top o.way in
    let i = id_back o.id (ascii "\ndeps=" ++ (counters_text o.deps ++ (10 ∷ t))) refl in
    let s = counters-back o.deps (10 ∷ t) v.deps.eight refl in
    let e = edit-back o.top o.way v.edit in
    rw (i, s, e)

-- equal messages, equal operations
pub message_once : (o p : Operation) → ValidOperation o → ValidOperation p → message o ≡ message p → o ≡ p
message_once o p v w e = sym (message-back o v) ∙ (ap read_message e ∙ message-back p w)

-- The ways of reads.

trail_of : List Step → Trail
trail_of [] = here
trail_of (key k ∷ ss) = by_key k (trail_of ss)
trail_of (id e ∷ ss) = by_element e (trail_of ss)
trail_of (caret ∷ ss) = here

trail : Trail → List Step
trail here = []
trail (by_key k t) = key k ∷ trail t
trail (by_element e t) = id e ∷ trail t

trail_is : (t : Trail) → trail_of (trail t) ≡ t
unfolding trail_of trail
trail_is here = refl
trail_is (by_key k t) = ap (by_key k) (trail_is t)
trail_is (by_element e t) = ap (by_element e) (trail_is t)

trail_text_lem : (t : Trail) → trail_text t ≡ all_text (trail t)
unfolding trail_text trail all_text step_text
trail_text_lem here = refl
trail_text_lem (by_key k t) = ap (λ x. 123 ∷ (hex k ++ x)) (trail_text_lem t)
trail_text_lem (by_element e t) = ap (λ x. 91 ∷ (id_text e ++ x)) (trail_text_lem t)

trail_count : (t : Trail) → length (trail t) ≡ trail_steps t
unfolding trail trail_steps
trail_count here = refl
trail_count (by_key k t) = ap suc (trail_count t)
trail_count (by_element e t) = ap suc (trail_count t)

trail_spelt : (t : Trail) → ValidTrail t → Spelt (trail t)
unfolding trail
trail_spelt here v = tt
trail_spelt (by_key k t) v = (v.0.bytes, trail_spelt t v.1)
trail_spelt (by_element e t) v = trail_spelt t v.1

read_place_way : List ℕ → PlaceWay
read_place_way t = let k = read_hex t in record { top = k.0; trail = trail_of (read_steps 7 k.1).0 }

place_way_back : (w : PlaceWay) → ValidPlaceWay w → read_place_way (place_way_text w) ≡ w
unfolding read_place_way place_way_text
place_way_back w v =
    let ss = trail w.trail in
    let e = trail_text_lem w.trail ∙ sym (append-nil (all_text ss)) in
    let k = hex-back w.top (all_text ss ++ []) v.first.bytes (steps_stop ss [] tt) in
    let n = trail_count w.trail in
    let s = steps_back 7 ss [] (omega (arith, v.reach)) (trail_spelt w.trail v.rest) tt in
    rw (e, k, s, trail_is w.trail)

pub place_way_once : (w x : PlaceWay) → ValidPlaceWay w → ValidPlaceWay x → place_way_text w ≡ place_way_text x → w ≡ x
place_way_once w x p q e = sym (place_way_back w p) ∙ (ap read_place_way e ∙ place_way_back x q)

pub element_way_once : (w x : PlaceWay) → ValidPlaceWay w → ValidPlaceWay x → element_way_text w ≡ element_way_text x → w ≡ x
unfolding element_way_text
element_way_once w x p q e = place_way_once w x p q (append_cancel_right (place_way_text w) (place_way_text x) (ascii "[") e)

-- a text with a byte at its end isn't empty
not_empty : (t : List ℕ) (c : ℕ) → [] ≡ t ++ (c ∷ []) → ⊥
not_empty [] c e = omega (arith, ap length e)
not_empty (x ∷ t) c e = omega (arith, ap length e)

pub keys_way_once : (w x : KeysWay) → ValidKeysWay w → ValidKeysWay x → keys_way_text w ≡ keys_way_text x → w ≡ x
unfolding keys_way_text
keys_way_once of_root of_root p q e = refl
keys_way_once of_root (of_place x) p q e = absurd (not_empty (place_way_text x) _ e)
keys_way_once (of_place w) of_root p q e = absurd (not_empty (place_way_text w) _ (sym e))
keys_way_once (of_place w) (of_place x) p q e =
    ap of_place (place_way_once w x p q (append_cancel_right (place_way_text w) (place_way_text x) (ascii "{") e))
