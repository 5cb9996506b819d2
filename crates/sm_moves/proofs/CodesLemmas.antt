-- What code is left where more code stands behind it.
use Rattle.sm_moves.proofs.Imports.{◌≡◌, ◌+◌, ◌<◌, true, false, ◌||◌, refl, ap, sym, arith, Code, End, Skip, Assign, Write, If, While, Hole, append, append_assoc, is_over, is_long, front, rest_after, is_loop, loop_body, is_simple, is_fork, by_first_block, by_second_block, has_hole, own_statements, statements_in, or_parts}

-- code that has a statement, and more behind it
pub long_append : (c k : Code) → is_over c ≡ false → is_long 1 (append c k) ≡ true
long_append End k e = absurd cc
long_append (Skip r) k e = refl
long_append (Assign x v r) k e = refl
long_append (Write a i v r) k e = refl
long_append (If b one other r) k e = refl
long_append (While b body r) k e = refl
long_append (Hole h r) k e = refl

-- after its first statement
pub rest_append : (c k : Code) → is_over c ≡ false → rest_after 1 (append c k) ≡ append (rest_after 1 c) k
rest_append End k e = absurd cc
rest_append (Skip r) k e = refl
rest_append (Assign x v r) k e = refl
rest_append (Write a i v r) k e = refl
rest_append (If b one other r) k e = refl
rest_append (While b body r) k e = refl
rest_append (Hole h r) k e = refl

-- code that begins with skip or an assignment has a statement
pub simple_left : (c : Code) → is_simple c ≡ true → is_over c ≡ false
simple_left End e = absurd cc
simple_left (Skip r) e = refl
simple_left (Assign x v r) e = refl
simple_left (Write a i v r) e = refl
simple_left (If b one other r) e = absurd cc
simple_left (While b body r) e = absurd cc
simple_left (Hole h r) e = absurd cc

pub simple_append : (c k : Code) → is_simple c ≡ true → is_simple (append c k) ≡ true
simple_append End k e = absurd cc
simple_append (Skip r) k e = refl
simple_append (Assign x v r) k e = refl
simple_append (Write a i v r) k e = refl
simple_append (If b one other r) k e = absurd cc
simple_append (While b body r) k e = absurd cc
simple_append (Hole h r) k e = absurd cc

pub fork_append : (c k : Code) → is_fork c ≡ true →
    (is_fork (append c k) ≡ true) × (by_first_block (append c k) ≡ append (by_first_block c) k)
    × (by_second_block (append c k) ≡ append (by_second_block c) k)
fork_append End k e = absurd cc
fork_append (Skip r) k e = absurd cc
fork_append (Assign x v r) k e = absurd cc
fork_append (Write a i v r) k e = absurd cc
fork_append (If b one other r) k e = (refl, sym (append_assoc one r k), sym (append_assoc other r k))
fork_append (While b body r) k e = absurd cc
fork_append (Hole h r) k e = absurd cc

-- code that begins with a loop has a statement
pub loop_left : (c : Code) → is_loop c ≡ true → is_over c ≡ false
loop_left End e = absurd cc
loop_left (Skip r) e = absurd cc
loop_left (Assign x v r) e = absurd cc
loop_left (Write a i v r) e = absurd cc
loop_left (If b one other r) e = absurd cc
loop_left (While b body r) e = refl
loop_left (Hole h r) e = absurd cc

pub loop_append : (c k : Code) → is_loop c ≡ true → (is_loop (append c k) ≡ true) × (loop_body (append c k) ≡ loop_body c)
loop_append End k e = absurd cc
loop_append (Skip r) k e = absurd cc
loop_append (Assign x v r) k e = absurd cc
loop_append (Write a i v r) k e = absurd cc
loop_append (If b one other r) k e = absurd cc
loop_append (While b body r) k e = (refl, refl)
loop_append (Hole h r) k e = absurd cc

-- code with no hole begins with a loop where it begins with nothing else
pub loop_or_else : (c : Code) → has_hole c ≡ false → is_over c ≡ false → is_simple c ≡ false → is_fork c ≡ false → is_loop c ≡ true
loop_or_else End h over simple fork = absurd cc
loop_or_else (Skip r) h over simple fork = absurd cc
loop_or_else (Assign x v r) h over simple fork = absurd cc
loop_or_else (Write a i v r) h over simple fork = absurd cc
loop_or_else (If b one other r) h over simple fork = absurd cc
loop_or_else (While b body r) h over simple fork = refl
loop_or_else (Hole n r) h over simple fork = absurd cc

-- what is left of code with no hole has none
pub rest_no_hole : (c : Code) → has_hole c ≡ false → has_hole (rest_after 1 c) ≡ false
rest_no_hole End h = refl
rest_no_hole (Skip r) h = h
rest_no_hole (Assign x v r) h = h
rest_no_hole (Write a i v r) h = h
rest_no_hole (If b one other r) h =
    let p = or_parts (has_hole one) (has_hole other || has_hole r) h in (or_parts (has_hole other) (has_hole r) p.1).1
rest_no_hole (While b body r) h = (or_parts (has_hole body) (has_hole r) h).1
rest_no_hole (Hole n r) h = absurd cc

pub append_no_hole : (c k : Code) → has_hole c ≡ false → has_hole k ≡ false → has_hole (append c k) ≡ false
append_no_hole End k h g = g
append_no_hole (Skip r) k h g = append_no_hole r k h g
append_no_hole (Assign x v r) k h g = append_no_hole r k h g
append_no_hole (Write a i v r) k h g = append_no_hole r k h g
append_no_hole (If b one other r) k h g =
    let p = or_parts (has_hole one) (has_hole other || has_hole r) h in
    let q = or_parts (has_hole other) (has_hole r) p.1 in
    rw (p.0, q.0) (append_no_hole r k q.1 g)
append_no_hole (While b body r) k h g =
    let p = or_parts (has_hole body) (has_hole r) h in rw p.0 (append_no_hole r k p.1 g)
append_no_hole (Hole n r) k h g = absurd cc

pub body_no_hole : (c : Code) → has_hole c ≡ false → has_hole (loop_body c) ≡ false
body_no_hole End h = refl
body_no_hole (Skip r) h = refl
body_no_hole (Assign x v r) h = refl
body_no_hole (Write a i v r) h = refl
body_no_hole (If b one other r) h = refl
body_no_hole (While b body r) h = (or_parts (has_hole body) (has_hole r) h).0
body_no_hole (Hole n r) h = absurd cc

pub blocks_no_hole : (c : Code) → has_hole c ≡ false → (has_hole (by_first_block c) ≡ false) × (has_hole (by_second_block c) ≡ false)
blocks_no_hole End h = (refl, refl)
blocks_no_hole (Skip r) h = (h, h)
blocks_no_hole (Assign x v r) h = (h, h)
blocks_no_hole (Write a i v r) h = (h, h)
blocks_no_hole (If b one other r) h =
    let p = or_parts (has_hole one) (has_hole other || has_hole r) h in
    let q = or_parts (has_hole other) (has_hole r) p.1 in
    (append_no_hole one r p.0 q.1, append_no_hole other r q.0 q.1)
blocks_no_hole (While b body r) h = (h, h)
blocks_no_hole (Hole n r) h = (h, h)

-- the statements of one code and of another
pub statements_append : (c k : Code) → statements_in (append c k) ≡ statements_in c + statements_in k
statements_append End k = omega arith
statements_append (Skip r) k = let h = statements_append r k in omega arith
statements_append (Assign x v r) k = let h = statements_append r k in omega arith
statements_append (Write a i v r) k = let h = statements_append r k in omega arith
statements_append (If b one other r) k = let h = statements_append r k in omega arith
statements_append (While b body r) k = let h = statements_append r k in omega arith
statements_append (Hole n r) k = let h = statements_append r k in omega arith

-- where code has a statement, fewer are left after it, and fewer are in a loop's body
pub fewer_after : (c : Code) → is_over c ≡ false → statements_in (rest_after 1 c) < statements_in c
fewer_after End e = absurd cc
fewer_after (Skip r) e = omega arith
fewer_after (Assign x v r) e = omega arith
fewer_after (Write a i v r) e = omega arith
fewer_after (If b one other r) e = omega arith
fewer_after (While b body r) e = omega arith
fewer_after (Hole n r) e = omega arith

pub fewer_inside : (c : Code) → is_over c ≡ false → statements_in (loop_body c) < statements_in c
fewer_inside End e = absurd cc
fewer_inside (Skip r) e = omega arith
fewer_inside (Assign x v r) e = omega arith
fewer_inside (Write a i v r) e = omega arith
fewer_inside (If b one other r) e = omega arith
fewer_inside (While b body r) e = omega arith
fewer_inside (Hole n r) e = omega arith

-- fewer statements are left where an if at the front goes by either block
pub fewer_ways : (c : Code) → is_fork c ≡ true →
    (statements_in (by_first_block c) < statements_in c) × (statements_in (by_second_block c) < statements_in c)
fewer_ways End e = absurd cc
fewer_ways (Skip r) e = absurd cc
fewer_ways (Assign x v r) e = absurd cc
fewer_ways (Write a i v r) e = absurd cc
fewer_ways (If b one other r) e =
    let first = statements_append one r in let second = statements_append other r in (omega arith, omega arith)
fewer_ways (While b body r) e = absurd cc
fewer_ways (Hole n r) e = absurd cc

-- all statements of one code, where more follows
pub own_long : (c k : Code) → is_long (own_statements c) (append c k) ≡ true
own_long End k = refl
own_long (Skip r) k = own_long r k
own_long (Assign x v r) k = own_long r k
own_long (Write a i v r) k = own_long r k
own_long (If b one other r) k = own_long r k
own_long (While b body r) k = own_long r k
own_long (Hole n r) k = own_long r k

pub own_front : (c k : Code) → front (own_statements c) (append c k) ≡ c
own_front End k = refl
own_front (Skip r) k = ap (λ (x : Code). Skip x) (own_front r k)
own_front (Assign y v r) k = ap (λ (x : Code). Assign y v x) (own_front r k)
own_front (Write a i v r) k = ap (λ (x : Code). Write a i v x) (own_front r k)
own_front (If b one other r) k = ap (λ (x : Code). If b one other x) (own_front r k)
own_front (While b body r) k = ap (λ (x : Code). While b body x) (own_front r k)
own_front (Hole n r) k = ap (λ (x : Code). Hole n x) (own_front r k)

pub own_rest : (c k : Code) → rest_after (own_statements c) (append c k) ≡ k
own_rest End k = refl
own_rest (Skip r) k = own_rest r k
own_rest (Assign y v r) k = own_rest r k
own_rest (Write a i v r) k = own_rest r k
own_rest (If b one other r) k = own_rest r k
own_rest (While b body r) k = own_rest r k
own_rest (Hole n r) k = own_rest r k
