-- Name by name.
use Rattle.sm_replay.proofs.Imports.{◌+◌, drop, BTreeMap, String, Global, subst, sym, arith, members_view, meaning, sort_of, declared_of, Sorts, Num, declared_name, IsInsideAt, Writes}
use Rattle.serde_json.specs.declared.value.Value.{Value}
use Rattle.sm_replay.proofs.UpdatesSound.{numbered}
use Rattle.sm_replay.proofs.InputTextSound.{MembersSoFar, named_turn, unnamed_turn, members_end}
use Rattle.sm_replay.proofs.input_text.members_of.Goals as goal
use Rattle.sm_replay.proofs.input_text.members_of.Goals.{then-d-len+in_ok-write_member, else-d-len}

pub loop-d-preserved : goal.loop-d-preserved
loop-d-preserved c =
    let names = c.args.names.now in
    let sorts = sort_of (declared_of c.args.decls.now) in
    let s = meaning c.args.s.now in
    let items = c.deref-d-items.result.now in
    let old = members_view c.loop-d.members.entries in
    elim c.if-d-len.branch [
      | then-d-len+in_ok-write_member w ↦
          subst (λ (m : BTreeMap (String Global) Value).
          MembersSoFar names sorts s (numbered (drop (c.loop-d.d-index + 1) items)) (members_view m.entries)) (sym w.members-is)
          (named_turn names sorts s items c.loop-d.d-index _ w.text.result.now old
          (members_view w.write_member.new.members.entries) c.loop-d-test.true w.text.ensures
          (subst (λ (f : Sorts).
          Writes s (declared_name names f w.text.result.now) w.text.result.now old (members_view w.write_member.new.members.entries))
          c.requires w.in_ok-write_member.ensures.written)
          (subst (λ (f : Sorts). IsInsideAt s (declared_name names f w.text.result.now)) c.requires w.in_ok-write_member.ensures.inside)
          c.loop-d.invariant)
      | else-d-len w ↦
          subst (λ (m : BTreeMap (String Global) Value).
          MembersSoFar names sorts s (numbered (drop (c.loop-d.d-index + 1) items)) (members_view m.entries)) (sym w.members-is)
          (unnamed_turn names sorts s items c.loop-d.d-index (record { 0 = 0 }, Num) old c.loop-d-test.true
          (omega (arith, c.len.ensures.len, w.if-d-len.false)) c.loop-d.invariant)
    ]

pub returns : goal.returns
returns c =
    let whole =
    members_end c.args.names.now (sort_of (declared_of c.args.decls.now))
    (meaning c.args.s.now) c.deref-d-items.result.now c.loop-d.d-index (members_view c.loop-d.members.entries)
    c.loop-d-test.false c.loop-d.invariant in
    record { written = whole.0; inside = whole.1 }
