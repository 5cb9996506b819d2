use Rattle.sm_syntax.proofs.Imports.{sym, ap, ◌∙◌, take, map, take-map}
use Rattle.std.specs.String.{string_bytes}
use Rattle.sm_syntax.proofs.names.NameTable.cut.Goals as goal

-- the texts of the keys that stay
pub returns : goal.returns
returns c = ap (map string_bytes) c.truncate.ensures ∙ sym (take-map string_bytes c.args.len c.self.inside.texts) ∙ ap (take c.args.len) c.self.view_is
