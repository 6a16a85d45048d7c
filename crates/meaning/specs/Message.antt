-- Document 01, "Messages": ways, messages, and an edit's lines, as texts.
-- Assumes nothing: these are definitions.
use Rattle.std.specs.Prelude.{ℕ, List, [], ◌++◌}
use Rattle.meaning.specs.Ascii.{ascii}
use Rattle.meaning.specs.Text.{id_text, counters_text, hex, assigned_text}
use Rattle.meaning.specs.Ways.{Prev, head, after, Way, assign, delete, insert, into_map, into_list, Operation}

unfoldable pub prev_text : Prev → List ℕ
prev_text head = ascii "^"
prev_text (after e) = id_text e

-- what follows the first key: `{` and a key in hex, or `[` and an element id or `^`
unfoldable pub steps_text : Way → List ℕ
steps_text (assign a) = []
steps_text delete = []
steps_text (insert p a) = ascii "[" ++ prev_text p
steps_text (into_map k w) = ascii "{" ++ (hex k ++ steps_text w)
steps_text (into_list e w) = ascii "[" ++ (id_text e ++ steps_text w)

-- the lines behind the way: what is done, and the value
unfoldable pub do_text : Way → List ℕ
do_text (assign a) = ascii "do=assign\nvalue=" ++ (assigned_text a ++ ascii "\n")
do_text delete = ascii "do=delete\n"
do_text (insert p a) = ascii "do=insert\nvalue=" ++ (assigned_text a ++ ascii "\n")
do_text (into_map k w) = do_text w
do_text (into_list e w) = do_text w

-- a message's lines from `at=` on, which is how a local edit is given
unfoldable pub edit_text : List ℕ → Way → List ℕ
edit_text top w = ascii "at=" ++ (hex top ++ (steps_text w ++ (ascii "\n" ++ do_text w)))

unfoldable pub message : Operation → List ℕ
message o =
    ascii "op=1\nid=" ++ (id_text o.id ++ (ascii "\ndeps=" ++ (counters_text o.deps ++ (ascii "\n" ++ edit_text o.top o.way))))
