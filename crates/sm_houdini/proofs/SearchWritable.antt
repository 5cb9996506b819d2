-- The plan of a choice can be written with certificates of all that it asks.
use Rattle.sm_houdini.proofs.Imports.{plan_of, SearchIsWritable}
use Rattle.sm_houdini.proofs.SimpleWritable.{simple_writable}
use Rattle.sm_houdini.proofs.SortedSites.{product_simple}

pub search_writable : SearchIsWritable
search_writable t choice ds cs numbered sorted e certified short =
    simple_writable t (plan_of t choice) ds cs sorted (product_simple t choice numbered sorted) e certified short
