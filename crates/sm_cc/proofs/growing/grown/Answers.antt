use Rattle.sm_cc.proofs.Imports.{List, length, sym, ap, subst, ◌∙◌, AllRooted, AreKept, AreGrown, AreEntriesKept}
use Rattle.sm_cc.specs.declared.row.Row.{Row}
use Rattle.sm_cc.specs.declared.log.Entry.{Entry}
use Rattle.sm_cc.specs.Closures.{Equation}
use Rattle.sm_cc.proofs.GrowingLemmas.{grown_kept, copied_follow, copied_rooted}
use Rattle.sm_cc.proofs.growing.grown.Goals as goal

pub completed-requires-clause-follow : goal.completed-requires-clause-follow
completed-requires-clause-follow c =
    let old = c.args.old.now in
    let rows = c.append.new.self.items in
    let copies = c.in_ok-entries.entries.items in
    let more : AreGrown old.rows.items c.args.more.items rows = record {
      copies = c.in_ok-rows.rows.items;
      count = c.in_ok-rows.ensures.count ∙ ap length c.deref.ensures.value;
      kept = subst (λ (rs : List Row). AreKept rs c.in_ok-rows.rows.items) c.deref.ensures.value c.in_ok-rows.ensures.kept;
      all = c.in_ok-append.ensures.items;
    } in
    copied_follow old rows c.args.equal.items c.args.unequal.items copies c.requires.sound
    (record {
      kept = grown_kept old.rows.items c.args.more.items rows more;
      all_equal = c.requires.equal;
      all_unequal = c.requires.unequal;
    }) (c.in_ok-entries.ensures.count ∙ ap length c.deref-2.ensures.value)
    (subst (λ (es : List Entry). AreEntriesKept es copies) c.deref-2.ensures.value c.in_ok-entries.ensures.kept)

pub completed-requires-clause-rooted : goal.completed-requires-clause-rooted
completed-requires-clause-rooted c =
    let old = c.args.old.now in
    let copies = c.in_ok-entries.entries.items in
    subst (λ (rs : List Equation). AllRooted copies rs) (sym (c.in_ok-roots.ensures ∙ c.deref-3.ensures.value))
    (copied_rooted old.entries.items copies old.roots.items
    (subst (λ (es : List Entry). AreEntriesKept es copies) c.deref-2.ensures.value c.in_ok-entries.ensures.kept) c.requires.sound.rooted)

pub returns-clause-rows : goal.returns-clause-rows
returns-clause-rows c = record {
  copies = c.in_ok-rows.rows.items;
  count = c.in_ok-rows.ensures.count ∙ ap length c.deref.ensures.value;
  kept = subst (λ (rs : List Row). AreKept rs c.in_ok-rows.rows.items) c.deref.ensures.value c.in_ok-rows.ensures.kept;
  all = ap (λ v. v.items) c.in_ok-made.ensures.rows ∙ c.in_ok-append.ensures.items;
}
