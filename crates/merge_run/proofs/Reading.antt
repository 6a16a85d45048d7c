-- Reading on: what stands behind the held bytes, and that a read behind them leaves them as they were.
-- Assumes nothing.
use Prim.Native.Nat.{ℕ, zero, suc, ◌+◌, ◌-◌, ◌≤◌, ◌<◌, min}
use native.Mathlib.Omega.{arith}
use mathlib.Core.Path.{◌≡◌, refl, sym, ap, subst, ◌∙◌}
use mathlib.Core.Bool.{not}
use mathlib.Core.List.{List, ◌++◌}
use lib.Dec.{eqb}
use lib.IntN.{ℤ, pos, negsuc}
use lib.ListN.{length, take, drop, length-take, length-drop}
use borrow.Rule.Slice.PartMut.{put_mid, same_len_mid, take_put}
use mir.Syntax.{w32}
use mir.Val.{SFits, of_z}
use borrow.Author.Tests.{ne_eqb}
use Rattle.std.specs.Prelude.{None, Result, Ok, Err}
use Rattle.std.specs.Io.{ReadsAtMost}
use Rattle.std.specs.declared.io.Error.{Error}
use Rattle.std.proofs.lemmas.List.{take_min}
use Rattle.stream.specs.Pieces.{held, CutInside, Moved}
use Rattle.stream.specs.declared.Cut.{Cut}
use Rattle.stream.proofs.Pieces.{drop-take}
use Rattle.stream.proofs.Moving.{grown_holds, grown_held}
use Rattle.merge_run.specs.Run.{interruption, brought}
use Rattle.merge_run.specs.Promises.{read_bytes, Came, ReadOn}
use Rattle.merge_run.specs.declared.Input.{Input}

-- n bytes are held behind those that were held
pub came_behind : {b : List ℕ} {c : Cut} (n k : ℕ) → CutInside b c → c.to < length b → (n ≡ 0 → ⊥) → k ≡ min n (length b - c.to)
    → Came b c (Ok n) (record { cut = record { from = c.from; to = c.to + k; passing = c.passing }; end = None })
came_behind zero k h free some e = absurd (some refl)
came_behind {b} {c} (suc n) k h free some e =
    let fits : c.to + k ≤ length b = omega (arith, h.high) in
    let least : k ≡ min (suc n) (length (drop c.to b)) = e ∙ ap (min (suc n)) (sym (length-drop c.to b)) in
    let part : take k (drop c.to b) ≡ take (suc n) (drop c.to b) = ap (λ i. take i (drop c.to b)) least ∙ take_min (suc n) (drop c.to b) in
    record {
      holds = grown_holds b b c k h refl fits;
      reads = record { bytes = grown_held b b c k h refl fits ∙ ap (λ l. held b c ++ l) part; passing = refl };
      told = refl;
    }

-- An error number is told from its bits.
pub bits_interruption : (errno : ℤ) → SFits w32 errno → not (eqb (of_z w32 errno) 4) ≡ not (interruption errno)
bits_interruption (pos n) f = refl
bits_interruption (negsuc n) f = ap not (ne_eqb (4294967296 - suc n) 4 (λ e. omega (arith, f.sfits)))

-- A read has brought as many bytes as it answered, since it answers no more than it had room for.
brought-most : (got : Result ℕ Error) (part : List ℕ) → ReadsAtMost got part → brought got ≤ length part
brought-most (Ok n) part m = m.0
brought-most (Err e) part m = omega arith

-- The held bytes are moved to the buffer's start, and then `part`, what a read has left there, stands behind them.
module _ {b a : List ℕ} {c room : Cut} (m : Moved b c a room) (part : List ℕ)
    (long : length part ≡ length (take (length a - room.to) (drop room.to a))) where
  abbrev read : List ℕ
  read = put_mid room.to (length a - room.to) a part

  held_stays : held read room ≡ held b c
  held_stays =
      sym (drop-take room.from room.to read)
      ∙ (ap (drop room.from) (take_put room.to (length a - room.to) a part m.holds.high)
      ∙ (drop-take room.from room.to a ∙ m.same))

  read_long : (n : ℕ) → n ≤ length part → length (take n (drop room.to read)) ≡ n
  read_long n l =
      let same : length read ≡ length a = same_len_mid room.to (length a - room.to) a part long in
      let free : length part ≡ length read - room.to = long ∙ simp (length-take, length-drop) (omega arith) in
      simp (length-take, length-drop) (omega (arith, l))

  -- `came` was told the answer of this read
  pub reads_chunk : (got g : Result ℕ Error) {r : Input} → ReadsAtMost got part → Came read room g r → g ≡ got → ReadOn b c r read
  reads_chunk got g {r} n h p =
      let k : Came read room got r = subst (λ z. Came read room z r) p h in
      record {
        read = record { got = got; chunk = read_bytes read room got; long = read_long (brought got) (brought-most got part n) };
        holds = k.holds;
        reads = record {
          bytes = k.reads.bytes ∙ ap (λ l. l ++ read_bytes read room got) held_stays;
          passing = k.reads.passing ∙ m.passing;
        };
        told = k.told;
      }
