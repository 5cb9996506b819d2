-- The pairs of the next atom with which a form begins.
use Rattle.sm_fm.proofs.Imports.{◌≡◌, ◌+◌, ◌-◌, List, length, sym, ap, ◌∙◌, arith, Event, beginning, place_pairs, left_of}
use Rattle.sm_fm.proofs.FirstLemmas.{lists_count, vector_of, nothing_begins}
use Rattle.sm_fm.proofs.JumpLemmas.{jumped, none_left}
use Rattle.sm_fm.proofs.StateLemmas.{within_same, pairs_of_atom}
use Rattle.sm_fm.proofs.state.State.go_on.Goals as goal

pub next_atom-next-requires-clause-within : goal.next_atom-next-requires-clause-within
next_atom-next-requires-clause-within c =
    let s = c.args.self.now in
    let later = c.requires.sound.later c.requires.more in
    let many = lists_count s.firsts.items s.forms.items (length s.atoms.list.items) c.requires.sound.firsts in
    let same = ap length c.deref.ensures.value in
    omega arith

pub returns-then-next-end-clause-same : goal.returns-then-next-end-clause-same
returns-then-next-end-clause-same c =
    let s = c.args.self.now in
    let next = c.next_atom-next.result in
    let later = c.requires.sound.later c.requires.more in
    let none = nothing_begins s.firsts.items c.deref.result.now s.forms.items (length s.atoms.list.items) s.atom next c.deref.ensures.value
    c.requires.sound.firsts (omega arith) c.next_atom-next.ensures.skips in
    c.stop.ensures.stopped
    ∙ ap (λ (l : List Event). record { atoms = s.atoms.list.items; forms = s.forms.items; left = l })
    (sym (ap (left_of s.forms.items s.atom s.more) c.requires.done ∙ none_left s.forms.items s.atom s.more next (omega arith) none))

pub index-requires : goal.index-requires
index-requires c =
    let s = c.args.self.now in
    let later = c.requires.sound.later c.requires.more in
    let up_to = c.next_atom-next.ensures.up_to in
    let some = c.if-next-end.false in
    let many = lists_count s.firsts.items s.forms.items (length s.atoms.list.items) c.requires.sound.firsts in
    omega arith

pub pairs_of-requires : goal.pairs_of-requires
pairs_of-requires c =
    let s = c.args.self.now in
    let next = c.next_atom-next.result in
    let later = c.requires.sound.later c.requires.more in
    let up_to = c.next_atom-next.ensures.up_to in
    let some = c.if-next-end.false in
    let atoms = length s.atoms.list.items in
    within_same s.forms.items c.deref-2.result.now next c.deref-3.result.now c.deref-2.ensures.value
    (c.deref-3.ensures.value
    ∙ vector_of s.firsts.items s.forms.items atoms next c.index.result.now c.requires.sound.firsts (omega arith) c.index.ensures)

pub returns-clause-sound : goal.returns-clause-sound
returns-clause-sound c =
    let s = c.args.self.now in
    let next = c.next_atom-next.result in
    let later = c.requires.sound.later c.requires.more in
    let up_to = c.next_atom-next.ensures.up_to in
    let after = c.next_atom-next.ensures.after in
    let some = c.if-next-end.false in
    let atoms = length s.atoms.list.items in
    let places : c.deref-3.result.now ≡ beginning s.forms.items next =
    c.deref-3.ensures.value
    ∙ vector_of s.firsts.items s.forms.items atoms next c.index.result.now c.requires.sound.firsts (omega arith) c.index.ensures in
    record {
      later = λ more. omega arith;
      firsts = c.requires.sound.firsts;
      known = c.requires.sound.known;
      pairs = pairs_of_atom s.forms.items atoms next c.in_ok-pairs.pairs (omega arith)
          (c.in_ok-pairs.ensures ∙ (λ k. place_pairs next (c.deref-2.ensures.value k) (places k)));
    }

pub returns-clause-same : goal.returns-clause-same
returns-clause-same c =
    let s = c.args.self.now in
    let next = c.next_atom-next.result in
    let later = c.requires.sound.later c.requires.more in
    let up_to = c.next_atom-next.ensures.up_to in
    let after = c.next_atom-next.ensures.after in
    let some = c.if-next-end.false in
    let atoms = length s.atoms.list.items in
    let places : c.deref-3.result.now ≡ beginning s.forms.items next =
    c.deref-3.ensures.value
    ∙ vector_of s.firsts.items s.forms.items atoms next c.index.result.now c.requires.sound.firsts (omega arith) c.index.ensures in
    let none = nothing_begins s.firsts.items c.deref.result.now s.forms.items atoms s.atom next c.deref.ensures.value
    c.requires.sound.firsts (omega arith) c.next_atom-next.ensures.skips in
    ap (λ (l : List Event). record { atoms = s.atoms.list.items; forms = s.forms.items; left = l })
    (jumped s.forms.items s.atom s.more next (s.atom + s.more + 1 - next - 1) c.in_ok-pairs.pairs after (omega arith) none
    (c.in_ok-pairs.ensures ∙ (λ k. place_pairs next (c.deref-2.ensures.value k) (places k)))
    ∙ ap (left_of s.forms.items s.atom s.more) (sym c.requires.done))
