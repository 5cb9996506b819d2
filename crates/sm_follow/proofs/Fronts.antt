-- Where a text is cut before one of its tokens, its front has the tokens before, whatever stands on a line behind it.
use Rattle.sm_follow.proofs.Imports.{◌≡◌, ℕ, ◌+◌, ◌<◌, Bool, true, false, true≢false, Option, Some, None, is_some, option_map, List, [], ◌∷◌, ◌++◌, length, length-append, append_assoc, if◌then◌else◌, refl, sym, ap, subst, ◌∙◌, arith, find, list_all, Table, entry, lexed, is_in_line, is_word_byte, TokenKind, Word, Number, Sign, Token, LexFault, begins, IsToken, Ends, IsCutInto, end, space, comment, token, fault, tokens_are_cut, both-left, both-right}
use Rattle.std.proofs.lemmas.Slice.Eq.{bytes_eq-Decides}
use Rattle.std.specs.Str.{bytes_eq}
use Rattle.sm_syntax.specs.declared.symbol.Mark.{Mark}
use Rattle.sm_syntax.specs.text.Tokens.{signs, mark_of_sign}
use Rattle.sm_text.proofs.Cut.Standing.{is_sign_text, sign_text}
use Rattle.std.proofs.lemmas.Bool.{false_from_ne_true}

-- nothing, or what begins with a line feed
pub data IsApart : List ℕ → Type 0 where
  nothing : IsApart []
  line : (rest : List ℕ) → IsApart (10 ∷ rest)

-- ---- what stands apart goes on with no token

begins_still : (p : ℕ → Bool) (front behind c : List ℕ) → p 10 ≡ false → begins p (front ++ behind) ≡ false → IsApart c →
    begins p (front ++ c) ≡ false
begins_still p [] behind _ feed h nothing = refl
begins_still p [] behind _ feed h (line rest) = feed
begins_still p (b ∷ front) behind c feed h apart = h

-- what stands in a table passes where all its texts do
entry_passes : (p : List ℕ → Bool) (table : Table) (text : List ℕ) → list_all (λ (e : List ℕ × Mark). p e.0) table ≡ true →
    is_some (entry table text) ≡ true → p text ≡ true
entry_passes p [] text all some = absurd (true≢false (sym some))
entry_passes p (e ∷ table) text all some =
    by (bytes_eq text e.0) (λ same. (bytes_eq-Decides text e.0).0 same)
    (entry_passes p table text (both-right (p e.0) (list_all (λ (e : List ℕ × Mark). p e.0) table) all)) some
  where
    found : Bool → Option (List ℕ × Mark)
    found t = if t then Some e else find (λ (e : List ℕ × Mark). bytes_eq text e.0) table

    by : (t : Bool) → (t ≡ true → text ≡ e.0) → (is_some (entry table text) ≡ true → p text ≡ true) →
        is_some (option_map (λ (e : List ℕ × Mark). e.1) (found t)) ≡ true → p text ≡ true
    by true same other some = ap p (same refl) ∙ both-left (p e.0) (list_all (λ (e : List ℕ × Mark). p e.0) table) all
    by false same other some = other some

-- no sign has a line feed
sign_in_line : (text : List ℕ) → is_some (mark_of_sign text) ≡ true → list_all is_in_line text ≡ true
unfolding mark_of_sign signs
sign_in_line text some = entry_passes (list_all is_in_line) signs text refl some

feed_in_line : (text rest : List ℕ) → list_all is_in_line (text ++ 10 ∷ rest) ≡ true → ⊥
feed_in_line [] rest h = true≢false (sym h)
feed_in_line (b ∷ text) rest h = feed_in_line text rest (both-right (is_in_line b) (list_all is_in_line (text ++ 10 ∷ rest)) h)

-- none has three bytes
three_bytes : (text : List ℕ) (x y : ℕ) (rest : List ℕ) → 0 < length text → is_sign_text (text ++ x ∷ y ∷ rest) ≡ true → ⊥
three_bytes [] x y rest some h = omega (arith, some)
three_bytes (a ∷ []) x y rest some h = true≢false (sym h)
three_bytes (a ∷ b ∷ []) x y rest some h = true≢false (sym h)
three_bytes (a ∷ b ∷ c ∷ text) x y rest some h = true≢false (sym h)

head_same : (x y : ℕ) (xs ys : List ℕ) → (x ∷ xs) ≡ y ∷ ys → x ≡ y
head_same x y xs ys e = cc

-- a sign that ends before some bytes ends before others that begin alike
sign_still : (text : List ℕ) (x : ℕ) (behind other : List ℕ) → 0 < length text → Ends Sign text (x ∷ behind) → Ends Sign text (x ∷ other)
sign_still text x behind other some h [] rest e more = absurd (omega (arith, more))
sign_still text x behind other some h (y ∷ []) rest e more =
    subst (λ (z : ℕ). is_some (mark_of_sign (text ++ z ∷ [])) ≡ false) (head_same x y other rest e) (h (x ∷ []) behind refl (omega arith))
sign_still text x behind other some h (y ∷ z ∷ m) rest e more =
    false_from_ne_true (is_some (mark_of_sign (text ++ y ∷ z ∷ m)))
    (λ is. three_bytes text y z m some (sign_text (text ++ y ∷ z ∷ m) is))

pub sign_apart : (text c : List ℕ) → IsApart c → Ends Sign text c
sign_apart text _ nothing [] rest e more = absurd (omega (arith, more))
sign_apart text _ nothing (y ∷ m) rest e more = absurd (omega (arith, ap length e))
sign_apart text _ (line c) [] rest e more = absurd (omega (arith, more))
sign_apart text _ (line c) (y ∷ m) rest e more =
    false_from_ne_true (is_some (mark_of_sign (text ++ y ∷ m)))
    (λ is. feed_in_line text m (subst (λ (z : ℕ). list_all is_in_line (text ++ z ∷ m) ≡ true) (sym (head_same 10 y c (m ++ rest) e))
    (sign_in_line (text ++ y ∷ m) is)))

-- a token ends where it did, with other bytes behind its line
ends_still : (kind : TokenKind) (text front behind c : List ℕ) → 0 < length text → Ends kind text (front ++ behind) → IsApart c →
    Ends kind text (front ++ c)
ends_still Word text front behind c some h apart = begins_still is_word_byte front behind c refl h apart
ends_still Number text front behind c some h apart = begins_still is_word_byte front behind c refl h apart
ends_still Sign text [] behind c some h apart = sign_apart text c apart
ends_still Sign text (x ∷ front) behind c some h apart = sign_still text x (front ++ behind) (front ++ c) some h

token_some : (kind : TokenKind) (text : List ℕ) → IsToken kind text → 0 < length text
token_some Word [] is = absurd (true≢false (sym is.0.start))
token_some Word (b ∷ u) is = omega arith
token_some Number text is = is.0.some
token_some Sign [] is = absurd (true≢false (sym (sign_text [] is)))
token_some Sign (b ∷ u) is = omega arith

-- ---- fronts

-- the place of what stands behind tokens: the next one, a fault, or the end
abbrev pub place_behind : List Token → Option LexFault → ℕ → ℕ
place_behind [] None last = last
place_behind [] (Some f) last = f.place
place_behind (t ∷ ts) f last = t.place

-- bytes from a place on, up to another, have these tokens, whatever stands apart behind them
pub record IsFront (place : ℕ) (bytes : List ℕ) (before : List Token) (at : ℕ) : Type 0 where
  pub front : List ℕ
  pub behind : List ℕ
  pub cut : bytes ≡ front ++ behind
  pub size : place + length front ≡ at
  pub goes_on : (c : List ℕ) (us : List Token) (g : Option LexFault) → IsApart c → IsCutInto (place + length front) c us g →
      IsCutInto place (front ++ c) (before ++ us) g

-- nothing of the bytes stands before the place
empty_front : (place : ℕ) (bytes : List ℕ) → IsFront place bytes [] place
empty_front place bytes = record {
  front = [];
  behind = bytes;
  cut = refl;
  size = omega arith;
  goes_on = λ c us g apart k. subst (λ (p : ℕ). IsCutInto p c us g) (omega arith) k;
}

no_tokens : (before : List Token) (t : Token) (ts : List Token) → [] ≡ before ++ t ∷ ts → ⊥
no_tokens [] t ts e = omega (arith, ap length e)
no_tokens (b ∷ before) t ts e = omega (arith, ap length e)

none_before : (before after : List Token) → [] ≡ before ++ after → (before ≡ []) × (after ≡ [])
none_before [] after e = (refl, sym e)
none_before (b ∷ before) after e = absurd (omega (arith, ap length e))

pub token_head : (t u : Token) (ts us : List Token) → (t ∷ ts) ≡ u ∷ us → t ≡ u
token_head t u ts us e = cc

pub token_tail : (t u : Token) (ts us : List Token) → (t ∷ ts) ≡ u ∷ us → ts ≡ us
token_tail t u ts us e = cc

-- where no bytes are left, or a fault stands
stopped : (place at : ℕ) (bytes : List ℕ) (before after : List Token) (f : Option LexFault) (last : ℕ) → [] ≡ before ++ after →
    place_behind [] f last ≡ place → IsFront place bytes before (place_behind after f last)
stopped place at bytes before after f last e here =
    let none = none_before before after e in
    subst (λ (ts : List Token). IsFront place bytes ts (place_behind after f last)) (sym none.0)
    (subst (λ (ts : List Token). IsFront place bytes [] (place_behind ts f last)) (sym none.1)
    (subst (IsFront place bytes []) (sym here) (empty_front place bytes)))

-- some bytes before a front
module _ (place next at : ℕ) (u rest : List ℕ) (skipped before : List Token) (here : next ≡ place + length u)
    (k : IsFront next rest before at)
    (step : (c : List ℕ) (us : List Token) (g : Option LexFault) → IsApart c → IsCutInto next (k.front ++ c) (before ++ us) g →
    IsCutInto place (u ++ (k.front ++ c)) (skipped ++ (before ++ us)) g) where
  longer : IsFront place (u ++ rest) (skipped ++ before) at
  longer = record {
    front = u ++ k.front;
    behind = k.behind;
    cut = ap (λ (l : List ℕ). u ++ l) k.cut ∙ sym (append_assoc u k.front k.behind);
    size = omega (arith, here, k.size, length-append u k.front);
    goes_on = λ c us g apart m.
        subst (λ (l : List ℕ). IsCutInto place l ((skipped ++ before) ++ us) g) (sym (append_assoc u k.front c))
        (subst (λ (ts : List Token). IsCutInto place (u ++ (k.front ++ c)) ts g) (sym (append_assoc skipped before us))
        (step c us g apart (k.goes_on c us g apart
        (subst (λ (p : ℕ). IsCutInto p c us g) (omega (arith, here, length-append u k.front)) m))));
  }

parted : (place : ℕ) (bytes : List ℕ) (ts : List Token) (f : Option LexFault) → IsCutInto place bytes ts f → (last : ℕ) →
    last ≡ place + length bytes → (before after : List Token) → ts ≡ before ++ after → IsFront place bytes before (place_behind after f last)
parted _ _ _ _ (end place) last is before after e = stopped place place [] before after None last e (omega (arith, is))
parted _ _ _ _ (space place b rest ts f white c) last is before after e =
    longer place (place + 1) (place_behind after f last) (b ∷ []) rest [] before (omega arith)
    (parted (place + 1) rest ts f c last (omega (arith, is)) before after e)
    (λ d us g apart k. space place b _ _ g white k)
parted _ _ _ _ (comment place body rest ts f all ends c) last is before after e =
    let next = parted (place + length (35 ∷ body)) rest ts f c last (omega (arith, is, length-append body rest)) before after e in
    longer place (place + length (35 ∷ body)) (place_behind after f last) (35 ∷ body) rest [] before refl next
    (λ d us g apart k. comment place body (next.front ++ d) _ g all
    (begins_still is_in_line next.front next.behind d refl (subst (λ (l : List ℕ). begins is_in_line l ≡ false) next.cut ends) apart) k)
parted _ _ _ _ (token place kind text rest ts f is_token ends c) last is [] after e =
    subst (λ (us : List Token). IsFront place (text ++ rest) [] (place_behind us f last)) e (empty_front place (text ++ rest))
parted _ _ _ _ (token place kind text rest ts f is_token ends c) last is (b ∷ before) after e =
    let here : Token = record { kind = kind; place = place; size = length text } in
    let next =
    parted (place + length text) rest ts f c last (omega (arith, is, length-append text rest)) before after
    (token_tail here b ts (before ++ after) e) in
    let some = token_some kind text is_token in
    subst (λ (t : Token). IsFront place (text ++ rest) (t ∷ before) (place_behind after f last)) (token_head here b ts (before ++ after) e)
    (longer place (place + length text) (place_behind after f last) text rest (here ∷ []) before refl next
    (λ d us g apart k. token place kind text (next.front ++ d) (before ++ us) g is_token
    (ends_still kind text next.front next.behind d some (subst (Ends kind text) next.cut ends) apart) k))
parted _ _ _ _ (fault place kind bytes stuck of) last is before after e =
    stopped place place bytes before after (Some (record { kind = kind; place = place })) last e refl

-- the front of a text before any of its tokens, a fault or its end
pub front_before : (bytes : List ℕ) (before after : List Token) → (lexed bytes).0 ≡ before ++ after →
    IsFront 0 bytes before (place_behind after (lexed bytes).1 (length bytes))
front_before bytes before after e =
    parted 0 bytes (lexed bytes).0 (lexed bytes).1 ((tokens_are_cut bytes (lexed bytes).0 (lexed bytes).1).0 refl) (length bytes)
    (omega arith) before after e
