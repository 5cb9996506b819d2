-- Private: an element that is read of an array to which one was written.
use Rattle.std.specs.Prelude.{◌≡◌, ◌≢◌, ◌<◌, List, length}
use Rattle.sm_term.specs.Terms.{Tree, Read, Write}
use Rattle.sm_term.specs.Tables.{tree_at}
use Rattle.sm_rows.specs.declared.reads.ReadOfWrite.{ReadOfWrite}

-- the term is the element at `read_at` of an array that was `before` and to which `element` was
-- written at `written_at`; all four are in the table
abbrev pub IsReadOfWrite : List Tree → ReadOfWrite → Tree → Type 0
IsReadOfWrite trees r t =
    (r.before.0 < length trees) × (r.written_at.0 < length trees) × (r.element.0 < length trees)
    × (r.read_at.0 < length trees)
    × (t ≡ Read (Write (tree_at trees r.before.0) (tree_at trees r.written_at.0)
    (tree_at trees r.element.0)) (tree_at trees r.read_at.0))

-- the term is no such element
abbrev pub IsNoReadOfWrite : Tree → Type 0
IsNoReadOfWrite t = (a i e j : Tree) → t ≢ Read (Write a i e) j
