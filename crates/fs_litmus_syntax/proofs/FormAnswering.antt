-- What a machine that scans a section answers, by the section's grammar.
use Rattle.std.proofs.Common.{◌≡◌, ℕ, ◌+◌, ◌-◌, ◌<◌, ◌≤◌, List, [], ◌∷◌, ◌++◌, Result, Ok, Err, sym, ap, ◌∙◌, subst, append_assoc, length, take, drop, get_or, length-drop, arith}
use Rattle.std.proofs.lemmas.List.{at_drop_more, take-append-drop, take_all, drop_all}
use Rattle.fs_litmus_tokens.specs.declared.token.Token.{Token}
use Rattle.fs_litmus_tokens.specs.Tokens.{Lined, view, views}
use Rattle.fs_litmus_tokens.specs.Sections.{Move, Finish, Bad, moved, scan, Takes, Stops, Scanned}
use Rattle.fs_litmus_syntax.specs.Reading.{IsEnd, StopsAt}

-- one more token
pub scans_on : {S A : Type 0} (transition : S → Lined → Move S A) (s : S) (ts : List Token) (i : ℕ) (d : Token) (move : Move S A) → i < length ts → move ≡ transition s (view (get_or ts i d)) → scan transition s (views (drop i ts)) ≡ moved move (λ s'. scan transition s' (views (drop (i + 1) ts))) (view (get_or ts i d)) (views (drop (i + 1) ts))
scans_on transition s ts i d move h e =
    at_drop_more (λ l. scan transition s (views l)) ts i d h
    ∙ ap (λ m. moved m (λ s'. scan transition s' (views (drop (i + 1) ts))) (view (get_or ts i d)) (views (drop (i + 1) ts))) (sym e)

-- a token that can't stand there
pub scans_bad : {S A : Type 0} (transition : S → Lined → Move S A) (s : S) (ts : List Token) (i : ℕ) (d : Token) → i < length ts → Bad ≡ transition s (view (get_or ts i d)) → scan transition s (views (drop i ts)) ≡ Err (views (drop i ts))
scans_bad transition s ts i d h e =
    scans_on transition s ts i d Bad h e ∙ ap (λ l. Err (views l)) (sym (at_drop_more (λ l. l) ts i d h))

-- the tokens from an index on, as they are lent
lent : (ts : List Token) (k : ℕ) → take (length ts - k) (drop k ts) ≡ drop k ts
lent ts k = take_all (length ts - k) (drop k ts) (omega (arith, length-drop k ts))

pub is_end_lent : (ts : List Token) (k : ℕ) → IsEnd ts (take (length ts - k) (drop k ts))
is_end_lent ts k = record { front = take k ts; split = sym (take-append-drop k ts) ∙ ap (λ l. take k ts ++ l) (sym (lent ts k)) }

pub end_of_end : (ts mid rest : List Token) → IsEnd ts mid → IsEnd mid rest → IsEnd ts rest
end_of_end ts mid rest h k =
    record { front = h.front ++ k.front; split = h.split ∙ ap (λ l. h.front ++ l) k.split ∙ sym (append_assoc h.front k.front rest) }

module _ {S A : Type 0} (L : List Lined → A → List Lined → Type 0) (transition : S → Lined → Move S A) (ts : List Token) (all : Result (A × List Lined) (List Lined)) where
  takes_from : (a : A) (rest : List Lined) → Scanned L (views ts) all → all ≡ Ok (a, rest) → Takes L (views ts) a rest
  takes_from a rest h e = subst (Scanned L (views ts)) e h

  stops_from : (rest : List Lined) → Scanned L (views ts) all → all ≡ Err rest → Stops L (views ts) rest
  stops_from rest h e = subst (Scanned L (views ts)) e h

  -- the section ends at an index
  pub finished : (s : S) (i : ℕ) (d : Token) (a : A) → Scanned L (views ts) all → scan transition s (views (drop i ts)) ≡ all → i < length ts → Finish a ≡ transition s (view (get_or ts i d)) → Takes L (views ts) a (views (take (length ts - (i + 1)) (drop (i + 1) ts)))
  finished s i d a h same within move =
      takes_from a (views (take (length ts - (i + 1)) (drop (i + 1) ts))) h (sym same ∙ scans_on transition s ts i d (Finish a) within move ∙ ap (λ l. Ok (a, views l)) (sym (lent ts (i + 1))))

  -- the token at an index is bad
  pub refused : (s : S) (i : ℕ) (d : Token) → Scanned L (views ts) all → scan transition s (views (drop i ts)) ≡ all → i < length ts → Bad ≡ transition s (view (get_or ts i d)) → StopsAt L ts (take (length ts - i) (drop i ts))
  refused s i d h same within move =
      let e = sym same ∙ scans_bad transition s ts i d within move ∙ ap (λ l. Err (views l)) (sym (lent ts i)) in
      record { stops = stops_from (views (take (length ts - i) (drop i ts))) h e; is_end = is_end_lent ts i }

  -- the tokens end too soon
  pub ended : (s : S) (i : ℕ) → Scanned L (views ts) all → scan transition s (views (drop i ts)) ≡ all → length ts ≤ i → StopsAt L ts (take (length ts - length ts) (drop (length ts) ts))
  ended s i h same past =
      let none = drop_all i ts past in
      let last = lent ts (length ts) ∙ drop_all (length ts) ts (omega arith) in
      let e = sym same ∙ ap (λ l. scan transition s (views l)) none ∙ ap (λ l. Err (views l)) (sym last) in
      record { stops = stops_from (views (take (length ts - length ts) (drop (length ts) ts))) h e; is_end = is_end_lent ts (length ts) }

-- a section whose meaning is told in another way
module _ {A B : Type 0} (L : List Lined → A → List Lined → Type 0) (M : List Lined → B → List Lined → Type 0) (to : A → B) (back : B → A) (there : (ts : List Lined) (a : A) (m : List Lined) → L ts a m → M ts (to a) m) (here : (ts : List Lined) (b : B) (m : List Lined) → M ts b m → L ts (back b) m × (to (back b) ≡ b)) where
  pub takes_as : (ts rest : List Lined) (a : A) → Takes L ts a rest → Takes M ts (to a) rest
  takes_as ts rest a h =
      record {
        front = h.front;
        split = h.split;
        is = λ q. there _ a q (h.is q);
        only = λ q b m l. let k = here _ b m l in let o = h.only q (back b) m k.0 in (sym k.1 ∙ ap to o.0, o.1);
      }

  pub stops_as : (ts rest : List Lined) → Stops L ts rest → Stops M ts rest
  stops_as ts [] h =
      record { front = h.front; split = h.split; alive = (h.alive.0, to h.alive.1, λ q. there _ _ q (h.alive.2 q)); dead = λ b m l. h.dead (back b) m (here _ b m l).0 }
  stops_as ts (t ∷ us) h =
      record { front = h.front; split = h.split; alive = (h.alive.0, to h.alive.1, λ q. there _ _ q (h.alive.2 q)); dead = λ more b m l. h.dead more (back b) m (here _ b m l).0 }

-- two languages that hold of the same
pub scanned_both : {A : Type 0} (L M : List Lined → A → List Lined → Type 0) → ((ts : List Lined) (a : A) (m : List Lined) → L ts a m → M ts a m) → ((ts : List Lined) (a : A) (m : List Lined) → M ts a m → L ts a m) → (ts : List Lined) (r : Result (A × List Lined) (List Lined)) → Scanned L ts r → Scanned M ts r
scanned_both L M to from ts (Ok (a, rest)) h =
    record { front = h.front; split = h.split; is = λ q. to _ a q (h.is q); only = λ q b m l. h.only q b m (from _ b m l) }
scanned_both L M to from ts (Err []) h =
    record { front = h.front; split = h.split; alive = (h.alive.0, h.alive.1, λ q. to _ _ q (h.alive.2 q)); dead = λ a m l. h.dead a m (from _ a m l) }
scanned_both L M to from ts (Err (t ∷ us)) h =
    record { front = h.front; split = h.split; alive = (h.alive.0, h.alive.1, λ q. to _ _ q (h.alive.2 q)); dead = λ more a m l. h.dead more a m (from _ a m l) }
