-- Cutting blanks off at both ends of a line.
use Rattle.std.proofs.Common.{◌≡◌, ℕ, suc, ◌+◌, List, [], ◌∷◌, ◌++◌, Bool, true, false, cond, refl, sym, ap, ◌∙◌, subst, append_assoc, append-nil, take, drop, arith}
use Rattle.std.specs.List.{prefix_len, list_all}
use Rattle.std.proofs.lemmas.List.{take-append-drop}
use Rattle.fs_litmus_tokens.specs.Bytes.{is_blank}
use Rattle.fs_litmus.specs.Title.{unindented, ends_in_blank, begins_with_blank, IsTrimmed}

-- the text is what is left of the line, with blanks before and after it
pub record IsBetween (line text : List ℕ) : Type 0 where
  pub before : List ℕ
  pub after : List ℕ
  pub split : line ≡ before ++ text ++ after
  pub blank_before : list_all is_blank before ≡ true
  pub blank_after : list_all is_blank after ≡ true
  pub first : begins_with_blank text ≡ false

step_blank : (b : ℕ) (bs : List ℕ) (r : Bool) → is_blank b ≡ r → list_all is_blank (take (prefix_len is_blank bs) bs) ≡ true → list_all is_blank (take (cond r (1 + prefix_len is_blank bs) 0) (b ∷ bs)) ≡ true
step_blank b bs true e h =
    let same : suc (prefix_len is_blank bs) ≡ 1 + prefix_len is_blank bs = omega arith in
    subst (λ n. list_all is_blank (take n (b ∷ bs)) ≡ true) same (cc)
step_blank b bs false e h = refl

front_blank : (bs : List ℕ) → list_all is_blank (take (prefix_len is_blank bs) bs) ≡ true
front_blank [] = refl
front_blank (b ∷ bs) = step_blank b bs (is_blank b) refl (front_blank bs)

step_first : (b : ℕ) (bs : List ℕ) (r : Bool) → is_blank b ≡ r → begins_with_blank (drop (prefix_len is_blank bs) bs) ≡ false → begins_with_blank (drop (cond r (1 + prefix_len is_blank bs) 0) (b ∷ bs)) ≡ false
step_first b bs true e h =
    let same : suc (prefix_len is_blank bs) ≡ 1 + prefix_len is_blank bs = omega arith in
    subst (λ n. begins_with_blank (drop n (b ∷ bs)) ≡ false) same h
step_first b bs false e h = e

first_not_blank : (bs : List ℕ) → begins_with_blank (unindented bs) ≡ false
first_not_blank [] = refl
first_not_blank (b ∷ bs) = step_first b bs (is_blank b) refl (first_not_blank bs)

pub between_first : (line : List ℕ) → IsBetween line (unindented line)
between_first line =
    record {
      before = take (prefix_len is_blank line) line;
      after = [];
      split = sym (take-append-drop (prefix_len is_blank line) line) ∙ sym (append-nil (take (prefix_len is_blank line) line ++ unindented line));
      blank_before = front_blank line;
      blank_after = refl;
      first = first_not_blank line;
    }

keeps_first : (before : List ℕ) (last : ℕ) → begins_with_blank (before ++ last ∷ []) ≡ false → begins_with_blank before ≡ false
keeps_first [] last h = refl
keeps_first (b ∷ bs) last h = h

regrouped : (a b c : List ℕ) (x : ℕ) → a ++ (b ++ x ∷ []) ++ c ≡ a ++ b ++ x ∷ c
regrouped a b c x = simp append_assoc

both_blank : (b : ℕ) (bs : List ℕ) → is_blank b ≡ true → list_all is_blank bs ≡ true → list_all is_blank (b ∷ bs) ≡ true
both_blank b bs e h = rw e h

pub between_step : (line text before : List ℕ) (last : ℕ) → text ≡ before ++ last ∷ [] → is_blank last ≡ true → IsBetween line text → IsBetween line before
between_step line text before last e blank h =
    record {
      before = h.before;
      after = last ∷ h.after;
      split = h.split ∙ ap (λ t. h.before ++ t ++ h.after) e ∙ regrouped h.before before h.after last;
      blank_before = h.blank_before;
      blank_after = both_blank last h.after blank h.blank_after;
      first = keeps_first before last (subst (λ t. begins_with_blank t ≡ false) e h.first);
    }

last_of : (before : List ℕ) (last : ℕ) → ends_in_blank (before ++ last ∷ []) ≡ is_blank last
last_of [] last = refl
last_of (b ∷ []) last = refl
last_of (b ∷ c ∷ bs) last = last_of (c ∷ bs) last

pub trimmed_at : (line text before : List ℕ) (last : ℕ) → text ≡ before ++ last ∷ [] → is_blank last ≡ false → IsBetween line text → IsTrimmed line text
trimmed_at line text before last e not_blank h =
    record { before = h.before; after = h.after; split = h.split; blank_before = h.blank_before; blank_after = h.blank_after; first = h.first; last = ap ends_in_blank e ∙ last_of before last ∙ not_blank }

pub trimmed_empty : (line text : List ℕ) → text ≡ [] → IsBetween line text → IsTrimmed line text
trimmed_empty line text e h =
    record { before = h.before; after = h.after; split = h.split; blank_before = h.blank_before; blank_after = h.blank_after; first = h.first; last = ap ends_in_blank e }
