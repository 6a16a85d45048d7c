-- Whether an id, a key, a value, a way, an operation is valid, as a test that computes; and that a test that comes out true shows it. The
-- tables of examples need it.
-- Assumes nothing.
use Rattle.std.specs.Prelude.{ℕ, zero, suc, ◌<◌, ◌≡◌, refl, Bool, true, false, ◌&&◌, List, [], ◌∷◌, leb, ltb, eqb, pos, negsuc, length}
use Rattle.std.proofs.Common.{arith, leb-true, ltb-true, eqb-true}
use Rattle.std.proofs.lemmas.Bool.{false≢true}
use Rattle.meaning.specs.Ids.{counter_of, entry, all_below}
use Rattle.meaning.specs.Places.{Plain, null, bool, integer, string}
use Rattle.meaning.specs.Ways.{Assigned, plain, empty_map, empty_list, Prev, head, after}
use Rattle.meaning.specs.Ways.{Way, assign, delete, insert, into_map, into_list, Operation, steps}
use Rattle.meaning.specs.Valid.{Bytes, ValidId, ValidKey, ValidPlain, ValidAssigned, ValidWay, ValidEdit, ValidOperation}

unfoldable pub ok_id : ℕ → Bool
ok_id i = leb 1 (counter_of i) && leb (counter_of i) 4294967295

unfoldable pub ok_key : List ℕ → Bool
ok_key k = leb (length k) 16 && all_below 256 k

unfoldable pub ok_plain : Plain → Bool
ok_plain null = true
ok_plain (bool b) = true
ok_plain (integer (pos n)) = leb n 9223372036854775807
ok_plain (integer (negsuc n)) = leb n 9223372036854775807
ok_plain (string b) = leb (length b) 32 && all_below 256 b

unfoldable pub ok_assigned : Assigned → Bool
ok_assigned (plain v) = ok_plain v
ok_assigned empty_map = true
ok_assigned empty_list = true

unfoldable pub ok_prev : Prev → Bool
ok_prev head = true
ok_prev (after e) = ok_id e

unfoldable pub ok_way : Way → Bool
ok_way (assign a) = ok_assigned a
ok_way delete = true
ok_way (insert p a) = ok_prev p && ok_assigned a
ok_way (into_map k w) = ok_key k && ok_way w
ok_way (into_list e w) = ok_id e && ok_way w

unfoldable pub ok_edit : List ℕ → Way → Bool
ok_edit top w = ok_key top && (ok_way w && leb (steps w) 7)

unfoldable pub ok_counters : List ℕ → Bool
ok_counters s = eqb (length s) 8 && all_below 4294967296 s

unfoldable pub ok : Operation → Bool
ok o = ok_id o.id && (ok_counters o.deps && ok_edit o.top o.way)

pub both : (a b : Bool) → (a && b) ≡ true → (a ≡ true) × (b ≡ true)
both true b e = (refl, e)
both false b e = absurd (false≢true e)

each : (c : ℕ) (s : List ℕ) → 0 < c → all_below c s ≡ true → (n : ℕ) → entry s n < c
unfolding all_below
each c [] p e n = p
each c (x ∷ s) p e zero = ltb-true x c (both (ltb x c) _ e).0
each c (x ∷ s) p e (suc n) = each c s p (both (ltb x c) _ e).1 n

bytes : (k : List ℕ) → all_below 256 k ≡ true → Bytes k
unfolding all_below
bytes [] e = tt
bytes (b ∷ k) e = let t = both (ltb b 256) _ e in (ltb-true b 256 t.0, bytes k t.1)

valid_plain : (v : Plain) → ok_plain v ≡ true → ValidPlain v
unfolding ok_plain
valid_plain null e = tt
valid_plain (bool b) e = tt
valid_plain (integer (pos n)) e = leb-true n _ e
valid_plain (integer (negsuc n)) e = leb-true n _ e
valid_plain (string b) e = let t = both (leb (length b) 32) _ e in record { short = leb-true (length b) 32 t.0; bytes = bytes b t.1 }

valid_assigned : (a : Assigned) → ok_assigned a ≡ true → ValidAssigned a
unfolding ok_assigned
valid_assigned (plain v) e = valid_plain v e
valid_assigned empty_map e = tt
valid_assigned empty_list e = tt

pub valid_key : (k : List ℕ) → ok_key k ≡ true → ValidKey k
unfolding ok_key
valid_key k e = let t = both (leb (length k) 16) _ e in record { short = leb-true (length k) 16 t.0; bytes = bytes k t.1 }

pub valid_id : (i : ℕ) → ok_id i ≡ true → ValidId i
unfolding ok_id
valid_id i e = let t = both (leb 1 (counter_of i)) _ e in record { low = leb-true 1 _ t.0; high = leb-true _ 4294967295 t.1 }

pub valid_way : (w : Way) → ok_way w ≡ true → ValidWay w
unfolding ok_way ok_prev
valid_way (assign a) e = valid_assigned a e
valid_way delete e = tt
valid_way (insert head a) e = (tt, valid_assigned a e)
valid_way (insert (after i) a) e = let t = both (ok_id i) _ e in (valid_id i t.0, valid_assigned a t.1)
valid_way (into_map k w) e = let t = both (ok_key k) _ e in (valid_key k t.0, valid_way w t.1)
valid_way (into_list i w) e = let t = both (ok_id i) _ e in (valid_id i t.0, valid_way w t.1)

pub valid_edit : (top : List ℕ) (w : Way) → ok_edit top w ≡ true → ValidEdit top w
unfolding ok_edit
valid_edit top w e =
    let t = both (ok_key top) _ e in
    let r = both (ok_way w) _ t.1 in
    record { first = valid_key top t.0; rest = valid_way w r.0; reach = leb-true _ 7 r.1 }

pub valid : (o : Operation) → ok o ≡ true → ValidOperation o
unfolding ok ok_counters
valid o e =
    let t = both (ok_id o.id) _ e in
    let d = both (ok_counters o.deps) _ t.1 in
    let c = both (eqb (length o.deps) 8) _ d.0 in
    let below = each 4294967296 o.deps (omega arith) c.1 in
    record {
      id = valid_id o.id t.0;
      deps = record { eight = eqb-true _ 8 c.0; each = λ n. omega (arith, below n) };
      edit = valid_edit o.top o.way d.1;
    }
