use Rattle.std.proofs.Common.{sym, ◌∙◌, string_bytes}
use Rattle.sm_syntax.proofs.Numbering.{is_among-map, number-map, number-position, slice_get-number}
use Rattle.sm_syntax.proofs.names.NameTable.find.Goals as goal

pub returns-in_err-index-clause-found : goal.returns-in_err-index-clause-found
returns-in_err-index-clause-found c =
    let keys = c.self.inside.texts in
    let told = c.in_err-index.ensures.found in
    rw (c.from_residual.ensures, ← c.self.view_is) (told ∙ sym (is_among-map string_bytes keys c.args.text.now))

pub returns-clause-found : goal.returns-clause-found
returns-clause-found c =
    let keys = c.self.inside.texts in
    rw (← c.self.view_is) (c.in_ok-index.ensures.found ∙ sym (is_among-map string_bytes keys c.args.text.now))

pub returns-clause-number : goal.returns-clause-number
returns-clause-number c =
    let keys = c.self.inside.texts in
    rw (← c.self.view_is) (number-position _ keys _ (sym c.in_ok-index.ensures.number) ∙ sym (number-map string_bytes keys c.args.text.now))

pub returns-clause-stored : goal.returns-clause-stored
returns-clause-stored c =
    let keys = c.self.inside.texts in
    let number = number-position _ keys _ (sym c.in_ok-index.ensures.number) ∙ sym (number-map string_bytes keys c.args.text.now) in
    let among = is_among-map string_bytes keys c.args.text.now ∙ sym c.in_ok-index.ensures.found in
    rw (← c.self.view_is, number) (slice_get-number _ c.args.text.now among)
