-- The text of the members, and that it reads back.
use Rattle.sm_replay.proofs.Imports.{ap, ◌∙◌, IfOk-weaker, members_view, compact_text, has_float, view-Object, meaning, sort_of, declared_of}
use Rattle.sm_replay.proofs.InputTextSound.{both_ok, json_of}
use Rattle.sm_replay.proofs.InputTextRoundTrip.{written_back, written_depth, written_whole}
use Rattle.sm_replay.proofs.input_text.write_input.Goals as goal

pub returns-clause-text : goal.returns-clause-text
returns-clause-text c =
    let names = c.args.names.now in
    let sorts = sort_of (declared_of c.args.decls.now) in
    let s = meaning c.args.s.now in
    let map = c.in_ok-members_of.field-0 in
    let members = members_view map.entries in
    let written = c.in_ok-members_of.ensures.written in
    IfOk-weaker c.to_vec.result _ _
    (λ bytes text. (
      members,
      text (ap has_float (view-Object map) ∙ written_whole names sorts s members written) ∙
          ap compact_text (view-Object map),
      written,
    )) c.to_vec.ensures.text

pub returns-clause-reads_back : goal.returns-clause-reads_back
returns-clause-reads_back c =
    let names = c.args.names.now in
    let sorts = sort_of (declared_of c.args.decls.now) in
    let s = meaning c.args.s.now in
    let map = c.in_ok-members_of.field-0 in
    let members = members_view map.entries in
    let written = c.in_ok-members_of.ensures.written in
    both_ok c.to_vec.result _ _ _
    (λ bytes utf8 read named.
    written_back names sorts c.args.s.now members bytes.items c.requires
    (json_of map bytes.items utf8 (written_depth names sorts s members written) read) written c.in_ok-members_of.ensures.inside named)
    c.to_vec.ensures.utf8 c.to_vec.ensures.reads_back
