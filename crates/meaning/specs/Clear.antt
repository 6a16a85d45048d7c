-- Document 01, "Applying an operation": clearing a place clears each place under both its branches, and each of those its own branches in
-- turn, down to the last: covered marks and covered values go. Places, flags and order stay.
-- Assumes nothing: these are definitions.
use Rattle.std.specs.Prelude.{ℕ, List}
use Rattle.meaning.specs.Ids.{uncovered}
use Rattle.meaning.specs.Sets.{keep}
use Rattle.meaning.specs.Places.{Value, Place, place, Children, childless, child, Elements, empty, element}

unfoldable pub clear_marks : List ℕ → List ℕ → List ℕ
clear_marks d ms = keep (λ i. uncovered d i) ms

unfoldable pub clear_values : List ℕ → List Value → List Value
clear_values d vs = keep (λ v. uncovered d v.id) vs

unfoldable mutual
  pub clear : List ℕ → Place → Place
  clear d (place m l ms vs ks es) = place m l (clear_marks d ms) (clear_values d vs) (clear_children d ks) (clear_elements d es)

  pub clear_children : List ℕ → Children → Children
  clear_children d childless = childless
  clear_children d (child k c ks) = child k (clear d c) (clear_children d ks)

  pub clear_elements : List ℕ → Elements → Elements
  clear_elements d empty = empty
  clear_elements d (element i c es) = element i (clear d c) (clear_elements d es)
