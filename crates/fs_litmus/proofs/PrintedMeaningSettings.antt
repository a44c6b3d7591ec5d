-- Settings in a rising order of their registers and locations: each is the only one of its holder.
use Rattle.std.proofs.Common.{◌≡◌, ℕ, ◌+◌, ◌*◌, ◌<◌, ◌≤◌, suc, List, [], ◌∷◌, ◌++◌, Some, None, option_and_then, Bool, true, false, ◌||◌, ◌&&◌, cond, eqb, eqb-true, refl, sym, ap, ◌∙◌, arith, append_assoc, append-nil}
use Rattle.std.specs.List.{list_any}
use Rattle.fs_litmus.specs.Locations.{Names, Binding}
use Rattle.fs_litmus.specs.Settings.{setting_of, is_x0, same_holder, holders, fresh, settings_after}
use Rattle.fs_litmus.specs.Starts.{word_at}
use Rattle.fs_litmus.specs.declared.settings.Holder.{Holder}
use Rattle.fs_litmus.specs.declared.settings.Holder.TheVariants as holder
use Rattle.fs_litmus.specs.declared.settings.Setting.{Setting}
use Rattle.std.proofs.lemmas.Bool.{false_from_ne_true}

-- ---- an order of holders: the locations, of which there are at most 8, and then the registers of each hart

abbrev pub rank_from : ℕ → ℕ
rank_from hart = 8 + 32 * hart

abbrev pub rank : Holder → ℕ
rank (holder.Register h r) = rank_from h + r
rank (holder.Location k) = k

and_left : (a b : Bool) → (a && b) ≡ true → a ≡ true
and_left true b e = refl
and_left false b e = e

and_right : (a b : Bool) → (a && b) ≡ true → b ≡ true
and_right true b e = e
and_right false b e = absurd (cc)

same_rank : (p q : Holder) → same_holder p q ≡ true → rank p ≡ rank q
same_rank (holder.Register h r) (holder.Register g q) e =
    let hart = eqb-true h g (and_left (eqb h g) (eqb r q) e) in
    let reg = eqb-true r q (and_right (eqb h g) (eqb r q) e) in
    omega (arith, hart, reg)
same_rank (holder.Register h r) (holder.Location k) e = absurd (cc)
same_rank (holder.Location k) (holder.Register h r) e = absurd (cc)
same_rank (holder.Location k) (holder.Location m) e = eqb-true k m e

pub other_holder : (p q : Holder) → (rank p ≡ rank q → ⊥) → same_holder p q ≡ false
other_holder p q h = false_from_ne_true (same_holder p q) (λ e. h (same_rank p q e))

-- ---- settings whose ranks rise, from low up to high

abbrev pub Rises : ℕ → ℕ → List Setting → Type 0
Rises low high [] = low ≤ high
Rises low high (s ∷ ss) = (low ≤ rank s.holder) × Rises (suc (rank s.holder)) high ss

pub rises_from : (low lower high : ℕ) (ss : List Setting) → lower ≤ low → Rises low high ss → Rises lower high ss
rises_from low lower high [] h k = omega (arith, h, k)
rises_from low lower high (s ∷ ss) h k = let first = k.0 in (omega (arith, h, first), k.1)

pub rises_to : (low high higher : ℕ) (ss : List Setting) → high ≤ higher → Rises low high ss → Rises low higher ss
rises_to low high higher [] h k = omega (arith, h, k)
rises_to low high higher (s ∷ ss) h k = (k.0, rises_to (suc (rank s.holder)) high higher ss h k.1)

rises_up : (low high : ℕ) (ss : List Setting) → Rises low high ss → low ≤ high
rises_up low high [] h = h
rises_up low high (s ∷ ss) h = let first = h.0 in let later = rises_up (suc (rank s.holder)) high ss h.1 in omega (arith, first, later)

pub rises_join : (low mid high : ℕ) (ss ts : List Setting) → Rises low mid ss → Rises mid high ts → Rises low high (ss ++ ts)
rises_join low mid high [] ts h k = rises_from mid low high ts h k
rises_join low mid high (s ∷ ss) ts h k = (h.0, rises_join (suc (rank s.holder)) mid high ss ts h.1 k)

-- ---- the word of a holder

-- a holder before them all has none
pub word_below : (low high : ℕ) (ss : List Setting) (p : Holder) → Rises low high ss → rank p < low → word_at ss p ≡ 0
word_below low high [] p h k = refl
word_below low high (s ∷ ss) p h k =
    let first = h.0 in
    ap (λ b. cond b s.word (word_at ss p)) (other_holder s.holder p (λ e. omega (arith, first, k, e)))
    ∙ word_below (suc (rank s.holder)) high ss p h.1 (omega (arith, first, k))

-- a holder after the first of them
pub word_later : (low mid : ℕ) (ss ts : List Setting) (p : Holder) → Rises low mid ss → mid ≤ rank p → word_at (ss ++ ts) p ≡ word_at ts p
word_later low mid [] ts p h k = refl
word_later low mid (s ∷ ss) ts p h k =
    let up = rises_up (suc (rank s.holder)) mid ss h.1 in
    ap (λ b. cond b s.word (word_at (ss ++ ts) p)) (other_holder s.holder p (λ e. omega (arith, up, k, e)))
    ∙ word_later (suc (rank s.holder)) mid ss ts p h.1 k

-- a holder before the last of them
pub word_earlier : (mid high : ℕ) (ss ts : List Setting) (p : Holder) → Rises mid high ts → rank p < mid → word_at (ss ++ ts) p ≡ word_at ss p
word_earlier mid high [] ts p h k = word_below mid high ts p h k
word_earlier mid high (s ∷ ss) ts p h k = ap (λ w. cond (same_holder s.holder p) s.word w) (word_earlier mid high ss ts p h k)

-- ---- what bindings set

-- the bindings set these, and none of them x0
abbrev pub AreSet : ℕ → Names → List Binding → List Setting → Type 0
AreSet columns names [] [] = Unit {0}
AreSet columns names (b ∷ bs) (s ∷ ss) = (setting_of columns names b ≡ Some s) × (is_x0 s.holder ≡ false) × AreSet columns names bs ss
AreSet columns names _ _ = ⊥

pub set_join : (columns : ℕ) (names : Names) (bs cs : List Binding) (ss ts : List Setting) → AreSet columns names bs ss → AreSet columns names cs ts → AreSet columns names (bs ++ cs) (ss ++ ts)
set_join columns names [] cs [] ts h k = k
set_join columns names (b ∷ bs) cs (s ∷ ss) ts h k = (h.0, h.1, set_join columns names bs cs ss ts h.2 k)
set_join columns names [] cs (s ∷ ss) ts h k = absurd h
set_join columns names (b ∷ bs) cs [] ts h k = absurd h

-- all are below this rank
abbrev AreBelow : ℕ → List Setting → Type 0
AreBelow high [] = Unit {0}
AreBelow high (s ∷ ss) = (rank s.holder < high) × AreBelow high ss

below_later : (low high : ℕ) (ss : List Setting) → low ≤ high → AreBelow low ss → AreBelow high ss
below_later low high [] h k = tt
below_later low high (s ∷ ss) h k = let first = k.0 in (omega (arith, h, first), below_later low high ss h k.1)

below_more : (high : ℕ) (ss : List Setting) (s : Setting) → AreBelow high ss → rank s.holder < high → AreBelow high (ss ++ s ∷ [])
below_more high [] s h k = (k, tt)
below_more high (t ∷ ss) s h k = (h.0, below_more high ss s h.1 k)

none_same : (p : Holder) (seen : List Setting) → AreBelow (rank p) seen → list_any (same_holder p) (holders seen) ≡ false
none_same p [] h = refl
none_same p (s ∷ seen) h =
    let low = h.0 in
    ap (λ b. b || list_any (same_holder p) (holders seen)) (other_holder p s.holder (λ e. omega (arith, low, e))) ∙ none_same p seen h.1

is_fresh : (seen : List Setting) (s : Setting) → is_x0 s.holder ≡ false → AreBelow (rank s.holder) seen → fresh (holders seen) s ≡ Some s
is_fresh seen s zero_reg below =
    ap (λ b. cond (b || list_any (same_holder s.holder) (holders seen)) None (Some s)) zero_reg
    ∙ ap (λ b. cond b None (Some s)) (none_same s.holder seen below)

pub settings_rise : (columns : ℕ) (names : Names) (low high : ℕ) (bs : List Binding) (ss seen : List Setting) → AreSet columns names bs ss → Rises low high ss → AreBelow low seen → settings_after columns names seen bs ≡ Some (seen ++ ss)
settings_rise columns names low high [] [] seen h up below = ap Some (sym (append-nil seen))
settings_rise columns names low high [] (s ∷ ss) seen h up below = absurd h
settings_rise columns names low high (b ∷ bs) [] seen h up below = absurd h
settings_rise columns names low high (b ∷ bs) (s ∷ ss) seen h up below =
    let under = below_later low (rank s.holder) seen up.0 below in
    ap (λ o. option_and_then (λ x. settings_after columns names (seen ++ x ∷ []) bs) (option_and_then (fresh (holders seen)) o)) h.0
    ∙ ap (λ o. option_and_then (λ x. settings_after columns names (seen ++ x ∷ []) bs) o) (is_fresh seen s h.1 under)
    ∙ settings_rise columns names (suc (rank s.holder)) high bs ss (seen ++ s ∷ []) h.2 up.1 (below_more (suc (rank s.holder)) seen s (below_later (rank s.holder) (suc (rank s.holder)) seen (omega arith) under) (omega arith))
    ∙ ap Some (append_assoc seen (s ∷ []) ss)
