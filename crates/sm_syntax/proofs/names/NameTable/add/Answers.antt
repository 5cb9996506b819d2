-- A text that is there has its number, and another goes last.
use Rattle.sm_syntax.proofs.Imports.{◌≡◌, ◌++◌, ◌∷◌, [], false, sym, ap, ◌∙◌, subst, slice_get, length, map, map-append, length-map, position_or_len, bytes_eq, is_among, with_text}
use Rattle.std.proofs.Common.{string_bytes}
use Rattle.sm_syntax.proofs.Numbering.{with_text-among, with_text-new, is_among-map, number-with_text, number-new, is_among-with_text, slice_get-number, bytes_eq-refl}
use Rattle.sm_syntax.proofs.names.NameTable.add.Goals as goal

pub returns-in-Some-clause-ok : goal.returns-in-Some-clause-ok
returns-in-Some-clause-ok c = sym (with_text-among c.args.self.now c.args.text.now (sym c.in-Some.ensures.found))

-- the text isn't there
new : (c : goal.In_ok-index) → is_among c.args.self.now c.args.text.now ≡ false
new c = sym c.in-None.ensures.found

-- the new table, and the number in it
table : (c : goal.In_ok-index) → map string_bytes c.put.new.self ≡ with_text c.args.self.now c.args.text.now
table c =
    ap (map string_bytes) c.in_ok-index.ensures.values
    ∙ map-append string_bytes c.self.inside.texts (c.in_ok-owned.owned ∷ [])
    ∙ ap (λ t. map string_bytes c.self.inside.texts ++ t ∷ []) c.in_ok-owned.ensures.ok
    ∙ ap (λ l. l ++ c.args.text.now ∷ []) c.self.view_is
    ∙ sym (with_text-new c.args.self.now c.args.text.now (new c))

number : (c : goal.In_ok-index) → c.in_ok-index.index ≡ position_or_len (bytes_eq c.args.text.now) (with_text c.args.self.now c.args.text.now)
number c =
    c.in_ok-index.ensures.number
    ∙ sym (length-map c.self.inside.texts string_bytes)
    ∙ ap length c.self.view_is
    ∙ sym (number-new c.args.self.now c.args.text.now (new c))
    ∙ sym (number-with_text c.args.self.now c.args.text.now)

pub put-requires-clause-same : goal.put-requires-clause-same
put-requires-clause-same c =
    ap (λ t. bytes_eq t (string_bytes c.in_ok-owned.owned)) (c.in_ok-key.ensures.ok ∙ sym c.in_ok-owned.ensures.ok)
    ∙ bytes_eq-refl (string_bytes c.in_ok-owned.owned)

pub put-requires-clause-new : goal.put-requires-clause-new
put-requires-clause-new c =
    sym (is_among-map string_bytes c.self.inside.texts (string_bytes c.in_ok-owned.owned))
    ∙ ap (is_among (map string_bytes c.self.inside.texts)) c.in_ok-owned.ensures.ok
    ∙ ap (λ l. is_among l c.args.text.now) c.self.view_is
    ∙ sym c.in-None.ensures.found

pub returns-clause-ok : goal.returns-clause-ok
returns-clause-ok c = table c

pub returns-clause-number : goal.returns-clause-number
returns-clause-number c = number c ∙ ap (position_or_len (bytes_eq c.args.text.now)) (sym (table c))

pub returns-clause-stored : goal.returns-clause-stored
returns-clause-stored c =
    ap (λ l. slice_get l c.in_ok-index.index) (table c)
    ∙ ap (slice_get (with_text c.args.self.now c.args.text.now)) (number c)
    ∙ slice_get-number (with_text c.args.self.now c.args.text.now) c.args.text.now (is_among-with_text c.args.self.now c.args.text.now)
