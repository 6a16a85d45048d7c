-- A terminal is kept by one memory only.
-- Assumes nothing.
use Rattle.std.specs.Prelude.{◌≡◌}
use Rattle.std.proofs.Common.{sym, ◌∙◌}
use Rattle.meaning.specs.Places.{Document}
use Rattle.meaning.specs.Receive.{Terminal}
use Rattle.tables.specs.Once.{held_once}
use Rattle.keeping.specs.Storing.{StoresIn}
use Rattle.keeping.specs.Keeping.{Keeps}
use Rattle.keeping.specs.declared.Document as K
use Rattle.keeping.specs.declared.Memory.{Memory}

pub stores_once : {d e : K.Document} {D : Document} → StoresIn d D → StoresIn e D → d ≡ e
stores_once {d} {e} p q =
    let h = held_once d.tables e.tables d.counts e.counts _ p.rows q.rows in
    let n = p.counters ∙ sym q.counters in
    λ i. record { tables = h.0 i; counts = h.1 i; seen = record { at = n i } }

pub keeps_once : {M N : Memory} {X : Terminal} → Keeps M X → Keeps N X → M ≡ N
keeps_once {M} {N} p q =
    let d = stores_once p.document q.document in
    let t = p.waiting.table ∙ sym q.waiting.table in
    let w = p.waiting.count ∙ sym q.waiting.count in
    λ i. record { document = d i; waiting = t i; count = w i }
