-- Where site labels stand among the labels and instructions of their hart.
use Rattle.std.proofs.Common.{◌≡◌, ℕ, ◌+◌, suc, List, [], ◌∷◌, ◌++◌, drop, map, Option, Some, None, Bool, true, false, ◌&&◌, if◌then◌else◌, refl, sym, ap, ◌∙◌, subst, append_assoc, append-nil, arith}
use Rattle.std.specs.List.{All, filter}
use Rattle.std.proofs.lemmas.List.Elements.{All-cons, All-append}
use Rattle.fs_litmus_tokens.specs.Numbers.{number_of}
use Rattle.fs_litmus_tokens.specs.Tokens.{Lined, Word, Sign, Strange}
use Rattle.fs_litmus_tokens.specs.declared.word.Class.{Class}
use Rattle.fs_litmus_syntax.specs.Numbered.{is_label}
use Rattle.fs_litmus_syntax.specs.Cells.{Item, Label, Instruction, is_colon, front_label, AreLabels, none, label, IsCell, labels, instruction, AreCells, empty, next}
use Rattle.fs_litmus_syntax.specs.Labels.{StandsAt, here, past_label, past_instruction, IsBranch, instruction_count}
use Rattle.fs_litmus.specs.SiteLabels as sites
use Rattle.fs_litmus.specs.SiteLabels.{SiteLabel, labels_of, has_instruction, is_site, end_words, site_label, cell_sites, position_after, sites_from, hart_sites}
use Rattle.fs_litmus.specs.Standing.{IsSiteLabel}
use Rattle.fs_litmus.proofs.Branches.{no_branch}

-- ---- the front of a cell

abbrev found : Bool → List ℕ → ℕ → Option (List ℕ × ℕ)
found b w k = if b then Some (w, k) else None

no_labels : (b : Bool) (w : List ℕ) (k : ℕ) (l : sites.Label) (ls : List sites.Label) → found b w k ≡ None → (if b then l ∷ ls else []) ≡ []
no_labels true w k l ls f = absurd (cc f)
no_labels false w k l ls f = refl

none_at : (ts : List Lined) → front_label ts ≡ None → labels_of ts ≡ []
none_at [] f = refl
none_at ((Word c w, k) ∷ []) f = refl
none_at ((Word c w, k) ∷ t ∷ ts) f = no_labels (is_label c && is_colon t) w k _ (labels_of ts) f
none_at ((Sign m, k) ∷ ts) f = refl
none_at ((Strange, k) ∷ ts) f = refl

has_one : (b h : Bool) (w : List ℕ) (k : ℕ) → found b w k ≡ None → (if b then h else true) ≡ true
has_one true h w k f = absurd (cc f)
has_one false h w k f = refl

some_left : (t : Lined) (ts : List Lined) → front_label (t ∷ ts) ≡ None → has_instruction (t ∷ ts) ≡ true
some_left (Word c w, k) [] f = refl
some_left (Word c w, k) (t ∷ ts) f = has_one (is_label c && is_colon t) (has_instruction ts) w k f
some_left (Sign m, k) ts f = refl
some_left (Strange, k) ts f = refl

-- a label, and what is behind it
record IsFront (ts : List Lined) (w : List ℕ) (line : ℕ) : Type 0 where
  pub class : Class
  pub labels : labels_of ts ≡ record { class = class; word = w; line = line } ∷ labels_of (drop 2 ts)
  pub instruction : has_instruction ts ≡ has_instruction (drop 2 ts)

abbrev made : Class → List ℕ × ℕ → sites.Label
made c x = record { class = c; word = x.0; line = x.1 }

front_made : (b : Bool) (c : Class) (v : List ℕ) (k : ℕ) (ls : List sites.Label) (w : List ℕ) (line : ℕ) → found b v k ≡ Some (w, line)
    → (if b then made c (v, k) ∷ ls else []) ≡ made c (w, line) ∷ ls
front_made true c v k ls w line f = let same : ◌≡◌ {A = List ℕ × ℕ} (v, k) (w, line) = cc in ap (λ x. made c x ∷ ls) same
front_made false c v k ls w line f = absurd (cc f)

front_still : (b h : Bool) (v : List ℕ) (k : ℕ) (w : List ℕ) (line : ℕ) → found b v k ≡ Some (w, line) → (if b then h else true) ≡ h
front_still true h v k w line f = refl
front_still false h v k w line f = absurd (cc f)

some_at : (ts : List Lined) (w : List ℕ) (line : ℕ) → front_label ts ≡ Some (w, line) → IsFront ts w line
some_at [] w line f = absurd (cc f)
some_at ((Word c v, k) ∷ []) w line f = absurd (cc f)
some_at ((Word c v, k) ∷ t ∷ ts) w line f = record {
  class = c;
  labels = front_made (is_label c && is_colon t) c v k (labels_of ts) w line f;
  instruction = front_still (is_label c && is_colon t) (has_instruction ts) v k w line f;
}
some_at ((Sign m, k) ∷ ts) w line f = absurd (cc f)
some_at ((Strange, k) ∷ ts) w line f = absurd (cc f)

-- ---- a cell

no_more : {ts rest : List Lined} {xs : List Item} → AreLabels ts xs rest → front_label rest ≡ None
no_more (none f) = f
no_more (label f h) = no_more h

same_instruction : {ts rest : List Lined} {xs : List Item} → AreLabels ts xs rest → has_instruction ts ≡ has_instruction rest
same_instruction (none f) = refl
same_instruction (label {ts = ts} {w = w} {line = line} f h) = (some_at ts w line f).instruction ∙ same_instruction h

no_instruction : {ts rest : List Lined} {xs : List Item} → AreLabels ts xs rest → instruction_count xs ≡ 0
no_instruction (none f) = refl
no_instruction (label f h) = no_instruction h

count_append : (xs ys : List Item) → instruction_count (xs ++ ys) ≡ instruction_count xs + instruction_count ys
count_append [] ys = omega arith
count_append (Label w k ∷ xs) ys = count_append xs ys
count_append (Instruction i t k ∷ xs) ys = let more = count_append xs ys in omega (arith, more)

cell_count : {c : List Lined} {xs : List Item} (at : ℕ) → IsCell c xs → position_after at c ≡ at + instruction_count xs
cell_count at (labels h) =
    let few = no_instruction h in
    ap (λ b. if b then at + 1 else at) (same_instruction h) ∙ omega (arith, few)
cell_count at (instruction {rest = rest} {xs = xs} {t = t} {line = k} {i = i} {target = target} h s e) =
    let few = no_instruction h in
    let more = ap instruction_count e ∙ count_append xs (Instruction i target k ∷ []) in
    ap (λ b. if b then at + 1 else at) (same_instruction h ∙ some_left (t, k) rest (no_more h)) ∙ omega (arith, few, more)

abbrev Stand : ℕ → List Item → List sites.Label → Type 0
Stand at items ls = All (λ l. StandsAt l.word at l.line items) ls

front_stand : {ts rest : List Lined} {xs : List Item} (more : List Item) → AreLabels ts xs rest → Stand 0 (xs ++ more) (labels_of ts)
front_stand more (none {ts = ts} f) = subst (Stand 0 more) (sym (none_at ts f)) (λ k d low. absurd (omega (arith, low)))
front_stand more (label {ts = ts} {w = w} {line = line} {xs = xs} f h) =
    let all = Label w line ∷ xs ++ more in
    let front = some_at ts w line f in
    let later = front_stand more h in
    subst (Stand 0 all) (sym front.labels) (All-cons (λ l. StandsAt l.word 0 l.line all) _ (labels_of (drop 2 ts)) here (λ k d low. past_label (later k d low)))

cell_stand : {c : List Lined} {xs : List Item} → IsCell c xs → Stand 0 xs (labels_of c)
cell_stand {c = c} {xs = xs} (labels h) = subst (λ l. Stand 0 l (labels_of c)) (append-nil xs) (front_stand [] h)
cell_stand {c = c} (instruction {line = k} {i = i} {target = target} h s e) = subst (λ l. Stand 0 l (labels_of c)) (sym e) (front_stand (Instruction i target k ∷ []) h)

-- ---- a hart

stands_front : {w : List ℕ} {p line : ℕ} {xs : List Item} (ys : List Item) → StandsAt w p line xs → StandsAt w p line (xs ++ ys)
stands_front ys here = here
stands_front ys (past_label h) = past_label (stands_front ys h)
stands_front ys (past_instruction h) = past_instruction (stands_front ys h)

stands_behind : {w : List ℕ} {line : ℕ} {ys : List Item} (at : ℕ) (xs : List Item) → at ≡ instruction_count xs → StandsAt w 0 line ys → StandsAt w at line (xs ++ ys)
stands_behind {w = w} {line = line} {ys = ys} at [] e h = subst (λ p. StandsAt w p line ys) (sym e) h
stands_behind at (Label v k ∷ xs) e h = past_label (stands_behind at xs e h)
stands_behind {w = w} {line = line} {ys = ys} at (Instruction i t k ∷ xs) e h =
    subst (λ p. StandsAt w p line (Instruction i t k ∷ xs ++ ys)) (sym e) (past_instruction (stands_behind (instruction_count xs) xs refl h))

module _ (items : List Item) (ends : List (List ℕ)) (hart : ℕ) (free : (l : sites.Label) → is_site ends l ≡ true → number_of l.word ≡ None → (number line : ℕ) → ¬ IsBranch l.word number line items) where
  one_kept : (at : ℕ) (l : sites.Label) (ls : List sites.Label) (b : Bool) → is_site ends l ≡ b → StandsAt l.word at l.line items
      → All (IsSiteLabel items) (map (site_label hart at) ls)
      → All (IsSiteLabel items) (map (site_label hart at) (if b then l ∷ ls else ls))
  one_kept at l ls true e h later = All-cons (IsSiteLabel items) _ _ (record { word = l.word; stands = h; name = refl; free = free l e }) later
  one_kept at l ls false e h later = later

  kept : (at : ℕ) (ls : List sites.Label) → Stand at items ls → All (IsSiteLabel items) (map (site_label hart at) (filter (is_site ends) ls))
  kept at [] h = λ k d low. absurd (omega (arith, low))
  kept at (l ∷ ls) h = one_kept at l (filter (is_site ends) ls) (is_site ends l) refl (h 0 l (omega arith)) (kept at ls (λ k d low. h (suc k) d (omega (arith, low))))

  all_sites : {cells : List (List Lined)} {ys : List Item} (at : ℕ) (seen : List Item) → AreCells cells ys → items ≡ seen ++ ys → at ≡ instruction_count seen
      → All (IsSiteLabel items) (sites_from ends hart at cells)
  all_sites at seen empty e count = λ k d low. absurd (omega (arith, low))
  all_sites at seen (next {c = c} {cs = cs} {xs = xs} {ys = ys} k ks f) e count =
      let split : items ≡ seen ++ (xs ++ ys) = e ∙ ap (λ l. seen ++ l) f in
      let one = cell_count at k in
      let both = count_append seen xs in
      let stand = cell_stand k in
      All-append (IsSiteLabel items) (cell_sites ends hart at c) (sites_from ends hart (position_after at c) cs)
      (kept at (labels_of c) (subst (λ l. Stand at l (labels_of c)) (sym split) (λ i d low. stands_behind at seen count (stands_front ys (stand i d low)))))
      (all_sites (position_after at c) (seen ++ xs) ks (split ∙ sym (append_assoc seen xs ys)) (omega (arith, one, both, count)))

pub sites_stand : (hart : ℕ) (cells : List (List Lined)) (items : List Item) → AreCells cells items → All (IsSiteLabel items) (hart_sites hart cells)
sites_stand hart cells items are =
    all_sites items (end_words cells) hart (λ l site no_number n line. no_branch cells items l n line are no_number site) 0 [] are refl refl
