-- The line makes the term, which has the next number.
use Rattle.sm_write.proofs.Imports.{◌≡◌, ℕ, suc, ◌<◌, ◌^◌, length, nat_eq, refl, ap, ◌∙◌, Some, arith, get, update, value_of}
use Rattle.sm_write.proofs.WriterSteps.{stands_term, get_length}
use Rattle.sm_write.proofs.writer.add_term.Goals as goal

pub returns-clause-stands : goal.returns-clause-stands
returns-clause-stands c s trees p due rest at is inside within made =
    let order = c.args.w.now.order.items in
    let count : c.next_number.result ≡ length order = c.next_number.ensures.number ∙ ap length c.as_slice.ensures.value in
    let low = c.next_number.ensures.few in
    let few : suc (length order) < 2 ^ 63 = omega (arith, count, low) in
    let more : length c.push.new.self.items ≡ suc (length order) = get_length order c.args.t c.push.new.self.items c.in_ok-push.ensures.items in
    let names : (q : ℕ) → get nat_eq c.insert.new.self q
    ≡ update nat_eq (get nat_eq c.args.w.now.names) c.args.t.0 (Some (record { 0 = length order })) q =
    λ (q : ℕ). c.in_ok-insert.ensures.updates.0 q
    ∙ ap (λ (m : ℕ). update nat_eq (get nat_eq c.args.w.now.names) c.args.t.0 (Some (record { 0 = m })) q) count in
    stands_term s trees (value_of c.args.w.now) _ p due rest c.args.line c.args.t.0 (record { 0 = length order }) at is inside within made
    c.in_ok-put_term.ensures refl refl few names more refl refl
